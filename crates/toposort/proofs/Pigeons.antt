-- Different numbers from 1 to n are at most n, and n of them are all.
use Rattle.std.proofs.Common.{◌≡◌, ◌≢◌, ℕ, zero, suc, ◌+◌, ◌-◌, ◌<◌, ◌≤◌, cond, ltb, eqb, ◌⊎◌, inl, inr, ⊎_elim, sym, ap, ◌∙◌, arith}
use Rattle.std.proofs.lemmas.Bool.{cases_eq, cond_both, eqb-true}
use Rattle.std.proofs.lemmas.Bool.Decides.{nat_tests}
use Rattle.toposort.specs.Graph.{Node}

-- the first k values of f are nodes, and different
abbrev pub Nodes : ℕ → ℕ → (ℕ → ℕ) → Type 0
Nodes n k f = (i : ℕ) → i < k → Node n (f i)

abbrev pub Apart : ℕ → (ℕ → ℕ) → Type 0
Apart k f = (i j : ℕ) → i < j → j < k → f i ≢ f j

-- v is one of them
abbrev pub Among : ℕ → (ℕ → ℕ) → ℕ → Type 0
Among k f v = (j : ℕ) × (j < k) × (f j ≡ v)

-- f without the number x
abbrev without : (ℕ → ℕ) → ℕ → ℕ → ℕ
without f x i = cond (ltb (f i) x) (f i) (f i - 1)

pub pigeons : (n k : ℕ) (f : ℕ → ℕ) → Nodes n k f → Apart k f → k ≤ n
pigeons n zero f nodes apart = omega arith
pigeons zero (suc k) f nodes apart = let h = nodes k (omega arith) in omega arith
pigeons (suc n) (suc k) f nodes apart =
    let fewer = pigeons n k (without f (f k))
    (λ i h. let a = nodes i (omega arith) in let b = nodes k (omega arith) in let c = apart i k h (omega arith) in grind (arith, nat_tests))
    (λ i j h m e. let a = apart i j h (omega arith) in let b = apart i k (omega arith) (omega arith) in let c = apart j k m (omega arith) in grind (arith, nat_tests))
    in omega arith

-- f with v after its first k values
abbrev also : (ℕ → ℕ) → ℕ → ℕ → ℕ → ℕ
also f k v i = cond (ltb i k) (f i) v

-- a node that is not among them leaves room for one more
pub room : (n k v : ℕ) (f : ℕ → ℕ) → Nodes n k f → Apart k f → Node n v → ((i : ℕ) → i < k → f i ≢ v) → k < n
room n k v f nodes apart node new =
    pigeons n (suc k) (also f k v)
    (λ i h. let a = nodes i in grind (arith, nat_tests))
    (λ i j h m e. let a = apart i j h in let b = new i in grind (arith, nat_tests))

-- v is among them or not
seek : (k v : ℕ) (f : ℕ → ℕ) → Among k f v ⊎ ((j : ℕ) → j < k → f j ≢ v)
seek zero v f = inr (λ j h e. omega arith)
seek (suc k) v f =
    ⊎_elim (λ e. inl (k, omega arith, e))
    (λ ne. ⊎_elim (λ (j, lt, e). inl (j, omega arith, e)) (λ none. inr (λ j h e. grind (arith, none j))) (seek k v f))
    (cases_eq (f k) v)

-- n different nodes are all
pub full : (n v : ℕ) (f : ℕ → ℕ) → Nodes n n f → Apart n f → Node n v → Among n f v
full n v f nodes apart node =
    ⊎_elim (λ s. s) (λ none. let fewer = room n n v f nodes apart node none in absurd (omega arith)) (seek n v f)

-- where v stands among them
abbrev place : (ℕ → ℕ) → ℕ → ℕ → ℕ
place f zero v = 0
place f (suc k) v = cond (eqb (f k) v) k (place f k v)

placed : (f : ℕ → ℕ) (k v j : ℕ) → j < k → f j ≡ v → (place f k v < k) × (f (place f k v) ≡ v)
placed f zero v j h e = absurd (omega arith)
placed f (suc k) v j h e =
    cond_both (eqb (f k) v) k (place f k v) (λ x. (x < suc k) × (f x ≡ v))
    (λ t. (omega arith, eqb-true (f k) v t))
    (λ t. grind (arith, nat_tests, placed f k v j))

-- where every node is among k numbers, n is at most k
pub crowd : (n k : ℕ) (f : ℕ → ℕ) → ((v : ℕ) → Node n v → Among k f v) → n ≤ k
crowd n k f all =
    pigeons k n (λ i. place f k (suc i) + 1)
    (λ i h. let r = at i h in omega arith)
    (λ i j h m e.
    let p = at i (omega arith) in
    let q = at j m in
    let same : place f k (suc i) ≡ place f k (suc j) = omega arith in
    let both : suc i ≡ suc j = sym p.1 ∙ (ap f same ∙ q.1) in
    omega arith)
  where
    at : (i : ℕ) → i < n → (place f k (suc i) < k) × (f (place f k (suc i)) ≡ suc i)
    at i h = let s = all (suc i) (omega arith) in placed f k (suc i) s.0 s.1 s.2
