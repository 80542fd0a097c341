-- What lists of different classes and members give: nothing is gathered twice, and one list at most gathers the same.
use Rattle.std.proofs.Common.{◌≡◌, ◌≢◌, inl, inr, ⊎_elim, ℕ, zero, suc, ◌<◌, ◌≤◌, List, length, get_or, sym, ap, ◌∙◌, subst, arith}
use Rattle.std.proofs.lemmas.Bool.{cases_lt, cases_eq}
use Rattle.std.proofs.lemmas.List.{ext_get_or}
use Rattle.laying.specs.Gathers.{Different, Listed, Earlier, Gathers, OneGathering}
use Rattle.models.specs.Orders.{Before}
use Rattle.toposort.proofs.Turns.{SameBelow}
use Rattle.verdicts.proofs.Lists.{before_once}

pub before_itself : (l : List ℕ) → Different l → (a b : ℕ) → a ≡ b → ¬ Before l a b
before_itself l once a b same (i, j, less, h, e, f) = once i j less h (e ∙ (same ∙ sym f))

module _ (class : ℕ → ℕ) (members classes : List ℕ) (once : Different members) (apart : Different classes) where
  pub earlier_once : (a b : ℕ) → Earlier class members classes a b → ¬ Earlier class members classes b a
  earlier_once a b (inl p) (inl q) = before_once classes apart (class a) (class b) p q
  earlier_once a b (inl p) (inr q) = before_itself classes apart (class a) (class b) (sym q.0) p
  earlier_once a b (inr p) (inl q) = before_itself classes apart (class b) (class a) (sym p.0) q
  earlier_once a b (inr p) (inr q) = before_once members once a b p.1 q.1

  -- what stands in order is different
  pub earlier_apart : (a b : ℕ) → Earlier class members classes a b → a ≢ b
  earlier_apart a b is same = earlier_once a b is (subst (λ x. Earlier class members classes x a) same (subst (λ x. Earlier class members classes a x) (sym same) is))

  pub gathers_once : (o : List ℕ) → Gathers class members classes o → Different o
  gathers_once o is i j less h = earlier_apart (get_or o i 0) (get_or o j 0) (is.sorted i j less h)

  module _ (o p : List ℕ) (a : Gathers class members classes o) (b : Gathers class members classes p) where
    -- what stands in o stands in p too
    also : (k : ℕ) → k < length o → Listed p (get_or o k 0)
    also k h = let r = a.only k h in b.all (get_or o k 0) r.0 r.1

    -- where the places below k are the same, the entry at k does not stand at one of them
    later : (k : ℕ) → SameBelow k o p → (h : k < length o) → k ≤ (also k h).0
    later k same h =
        let (m, lt, e) = also k h in
        ⊎_elim (λ less. absurd (gathers_once o a m k less h (same m less ∙ e))) (λ ge. ge) (cases_lt m k)

  module _ (o p : List ℕ) (a : Gathers class members classes o) (b : Gathers class members classes p) where
    -- where the places below k are the same, so is place k
    same_next : (k : ℕ) → SameBelow k o p → k < length o → k < length p → get_or o k 0 ≡ get_or p k 0
    same_next k same h h₂ =
        let (m, lt, e) = also o p a b k h in
        let (n, lt₂, f) = also p o b a k h₂ in
        let from_m = later o p a b k same h in
        let from_n = later p o b a k (λ j less. sym (same j less)) h₂ in
        ⊎_elim (λ at. sym e ∙ ap (λ j. get_or p j 0) at)
        (λ other. ⊎_elim (λ at. sym (ap (λ j. get_or o j 0) at) ∙ f)
        (λ other₂.
        let x = a.sorted k n (omega arith) lt₂ in
        let y = b.sorted k m (omega arith) lt in
        absurd (earlier_once (get_or o k 0) (get_or p k 0)
        (subst (λ w. Earlier class members classes (get_or o k 0) w) f x)
        (subst (λ w. Earlier class members classes (get_or p k 0) w) e y)))
        (cases_eq n k))
        (cases_eq m k)

    same_front : (k : ℕ) → k ≤ length o → k ≤ length p → SameBelow k o p
    same_front zero h h₂ j lt = absurd (omega arith)
    same_front (suc k) h h₂ j lt =
        let before = same_front k (omega arith) (omega arith) in
        let next = same_next k before (omega arith) (omega arith) in
        grind (arith, before j)

    no_longer : length p ≤ length o
    no_longer =
        ⊎_elim
        (λ more.
        let (n, lt, e) = also p o b a (length o) more in
        let from = later p o b a (length o) (λ j less. sym (same_front (length o) (omega arith) (omega arith) j less)) more in
        absurd (omega arith))
        (λ ge. ge)
        (cases_lt (length o) (length p))

  pub gathers_one : OneGathering class members classes
  gathers_one o p a b =
      let few = no_longer o p a b in
      let few₂ = no_longer p o b a in
      ext_get_or 0 o p (omega arith) (λ i h. same_front o p a b (length o) (omega arith) (omega arith) i h)
