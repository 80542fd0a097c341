-- Decisions, put together along the words of a statement, and statements that hold since the decision computes to yes.
use Rattle.std.proofs.Common.{◌≡◌, ◌⊎◌, inl, inr, ℕ, zero, suc, ◌<◌, subst, arith}
use Rattle.std.proofs.Math.Decide.{ℕ_discrete, dec_lt, map_dec}
use Rattle.events.specs.Relations.{Rel, ◌⨾◌, ◌？}

abbrev pub IsYes : {A : Type 0} → Dec A → Type 0
IsYes (yes a) = Unit {0}
IsYes (no n) = ⊥

pub decided : {A : Type 0} (d : Dec A) → IsYes d → A
decided (yes a) t = a
decided (no n) t = absurd t

abbrev pub dec_and : {A B : Type 0} → Dec A → Dec B → Dec (A × B)
dec_and (yes a) (yes b) = yes (a, b)
dec_and (yes a) (no n) = no (λ p. n (p.1))
dec_and (no n) e = no (λ p. n (p.0))

abbrev pub dec_and3 : {A B C : Type 0} → Dec A → Dec B → Dec C → Dec (A × B × C)
dec_and3 d e f = map_dec (λ (a, (b, c)). (a, b, c)) (λ (a, b, c). (a, (b, c))) (dec_and d (dec_and e f))

abbrev pub dec_and4 : {A B C D : Type 0} → Dec A → Dec B → Dec C → Dec D → Dec (A × B × C × D)
dec_and4 d e f g = map_dec (λ (a, (b, c, k)). (a, b, c, k)) (λ (a, b, c, k). (a, (b, c, k))) (dec_and d (dec_and3 e f g))

-- where the second is decided of what the first says
abbrev pub dec_then : {A B : Type 0} → Dec A → (A → Dec B) → Dec (A × B)
dec_then (yes a) e = map_dec (λ b. (a, b)) (λ p. p.1) (e a)
dec_then (no n) e = no (λ p. n (p.0))

abbrev pub dec_or : {A B : Type 0} → Dec A → Dec B → Dec (A ⊎ B)
dec_or (yes a) e = yes (inl a)
dec_or (no n) (yes b) = yes (inr b)
dec_or (no n) (no m) = no (λ s. elim s [ inl a ↦ n a | inr b ↦ m b ])

abbrev pub dec_if : {A B : Type 0} → Dec A → Dec B → Dec (A → B)
dec_if (no n) e = yes (λ a. absurd (n a))
dec_if (yes a) (yes b) = yes (λ _. b)
dec_if (yes a) (no m) = no (λ f. m (f a))

-- where the second is decided only if the first holds
abbrev pub dec_when : {A B : Type 0} → Dec A → (A → Dec B) → Dec (A → B)
dec_when (no n) e = yes (λ a. absurd (n a))
dec_when (yes a) e = map_dec (λ b _. b) (λ f. f a) (e a)

abbrev pub dec_not : {A : Type 0} → Dec A → Dec (¬ A)
dec_not (yes a) = no (λ n. n a)
dec_not (no n) = yes n

-- of each number below n
pub more_below : (P : ℕ → Type 0) (n : ℕ) → ((i : ℕ) → i < n → P i) → P n → (i : ℕ) → i < suc n → P i
more_below P n each here i lt =
    elim (dec_lt i n) [ yes less ↦ each i less | no ge ↦ let same : n ≡ i = omega arith in subst P same here ]

abbrev pub dec_each : (n : ℕ) (P : ℕ → Type 0) → ((i : ℕ) → Dec (P i)) → Dec ((i : ℕ) → i < n → P i)
dec_each zero P d = yes (λ i lt. absurd (omega arith))
dec_each (suc n) P d =
    map_dec (λ p. more_below P n (p.0) (p.1)) (λ f. ((λ i lt. f i (omega arith)), f n (omega arith)))
    (dec_and (dec_each n P d) (d n))

-- and of some
pub none_below : (P : ℕ → Type 0) (n : ℕ) → ¬ P n → ¬ ((i : ℕ) × (i < n) × P i) → ¬ ((i : ℕ) × (i < suc n) × P i)
none_below P n here none (i, lt, p) =
    elim (dec_lt i n) [ yes less ↦ none (i, less, p) | no ge ↦ let same : i ≡ n = omega arith in here (subst P same p) ]

abbrev pub dec_some : (n : ℕ) (P : ℕ → Type 0) → ((i : ℕ) → Dec (P i)) → Dec ((i : ℕ) × (i < n) × P i)
dec_some zero P d = no (λ (i, lt, p). absurd (omega arith))
dec_some (suc n) P d =
    let rest = dec_some n P d in
    elim (d n) [
      | yes p ↦ yes (n, omega arith, p)
      | no here ↦ elim rest [ yes (i, lt, p) ↦ yes (i, omega arith, p) | no none ↦ no (none_below P n here none) ]
    ]

-- of some number, where whatever satisfies it is below n; and of every number, where it is enough to look below n
abbrev pub dec_where : (n : ℕ) (P : ℕ → Type 0) → ((i : ℕ) → P i → i < n) → ((i : ℕ) → Dec (P i)) → Dec ((i : ℕ) × P i)
dec_where n P low d = map_dec (λ (i, lt, p). (i, p)) (λ (i, p). (i, low i p, p)) (dec_some n P d)

abbrev pub dec_all : (n : ℕ) (P : ℕ → Type 0) → ((i : ℕ) → (i < n → P i) → P i) → ((i : ℕ) → Dec (P i)) →
    Dec ((i : ℕ) → P i)
dec_all n P low d = map_dec (λ f i. low i (f i)) (λ f i _. f i) (dec_each n P d)

-- one step of r, then one of s
abbrev pub dec_comp : (n : ℕ) (r s : Rel) (a c : ℕ) → ((b : ℕ) → r a b → s b c → b < n) →
    ((b : ℕ) → Dec (r a b)) → ((b : ℕ) → Dec (s b c)) → Dec ((r ⨾ s) a c)
dec_comp n r s a c low d e =
    map_dec (λ (b, (p, q)). (b, p, q)) (λ (b, p, q). (b, (p, q)))
    (dec_where n (λ b. r a b × s b c) (λ b (p, q). low b p q) (λ b. dec_and (d b) (e b)))

abbrev pub dec_optional : (r : Rel) (a b : ℕ) → Dec (r a b) → Dec ((r ？) a b)
dec_optional r a b d = dec_or (ℕ_discrete a b) d
