-- The steps of a relation gone through one after another: whatever cycle they make is one that is known, turned.
use Rattle.std.proofs.Common.{◌≡◌, ◌≢◌, ℕ, zero, suc, ◌+◌, ◌-◌, ◌<◌, List, [], ◌∷◌, ◌++◌, length, map, refl, sym, ap, subst, ◌∙◌, append-nil, append_assoc, arith}
use Rattle.std.proofs.Math.Decide.{ℕ_discrete}
use Rattle.events.specs.Relations.{Rel}
use Rattle.verdicts.specs.Violations.{Cycle, step_at}
use Rattle.verdicts.specs.declared.step.Step.{Step}
use Rattle.examples.specs.Forced.{ends}
use Rattle.examples.proofs.Decisions.{dec_and, dec_not, dec_when, more_below}
use Rattle.examples.proofs.Ends.{plain, plainly, ends_plain, dec_pairs}

-- of each of some steps
abbrev pub Every : (Step → Type 0) → List Step → Type 0
Every P [] = Unit {0}
Every P (s ∷ ss) = P s × Every P ss

abbrev pub dec_every : (P : Step → Type 0) → ((s : Step) → Dec (P s)) → (ss : List Step) → Dec (Every P ss)
dec_every P d [] = yes tt
dec_every P d (s ∷ ss) = dec_and (d s) (dec_every P d ss)

-- The steps of a relation between numbers that are low, listed.
abbrev onto : {A : Type 0} → Dec A → Step → List Step → List Step
onto (yes a) s ss = s ∷ ss
onto (no n) s ss = ss

onto_rest : {A : Type 0} (P : Step → Type 0) (d : Dec A) (s : Step) (ss : List Step) → Every P (onto d s ss) → Every P ss
onto_rest P (yes a) s ss e = e.1
onto_rest P (no n) s ss e = e

onto_first : {A : Type 0} (P : Step → Type 0) (d : Dec A) (s : Step) (ss : List Step) → Every P (onto d s ss) → A → P s
onto_first P (yes a) s ss e _ = e.0
onto_first P (no n) s ss e a = absurd (n a)

module _ (R : Rel) (d : (a b : ℕ) → Dec (R a b)) where
  -- those from a to what is below n, before others
  abbrev steps_from : ℕ → ℕ → List Step → List Step
  steps_from a zero ss = ss
  steps_from a (suc n) ss = onto (d a n) (plain a n) (steps_from a n ss)

  -- those from what is below k to what is below n
  abbrev pub steps_below : ℕ → ℕ → List Step
  steps_below n zero = []
  steps_below n (suc k) = steps_from k n (steps_below n k)

  module _ (P : Step → Type 0) where
    from_rest : (a n : ℕ) (ss : List Step) → Every P (steps_from a n ss) → Every P ss
    from_rest a zero ss e = e
    from_rest a (suc n) ss e = from_rest a n ss (onto_rest P (d a n) (plain a n) (steps_from a n ss) e)

    from_each : (a n : ℕ) (ss : List Step) → Every P (steps_from a n ss) → (b : ℕ) → b < n → R a b → P (plain a b)
    from_each a zero ss e = λ b lt. absurd (omega arith)
    from_each a (suc n) ss e =
        let others = steps_from a n ss in
        more_below (λ b. R a b → P (plain a b)) n (from_each a n ss (onto_rest P (d a n) (plain a n) others e))
        (onto_first P (d a n) (plain a n) others e)

    pub below_each : (n k : ℕ) → Every P (steps_below n k) → (a : ℕ) → a < k → (b : ℕ) → b < n → R a b → P (plain a b)
    below_each n zero e = λ a lt. absurd (omega arith)
    below_each n (suc k) e =
        let others = steps_below n k in
        more_below (λ a. (b : ℕ) → b < n → R a b → P (plain a b)) k (below_each n k (from_rest k n others e)) (from_each k n others e)

module _ (Same : Rel) (Holds : Step → Type 0) where
  -- on from the place p by steps that hold, none of which starts at x, and so round to x
  abbrev Way : ℕ → ℕ → List Step → Type 0
  Way x p [] = Same p x
  Way x p (s ∷ ss) = Same p s.from × (s.from ≢ x) × Holds s × Way x s.to ss

  way : (x : ℕ) (s : Step) (ss : List Step) → ((i : ℕ) → i < length (s ∷ ss) → Holds (step_at (s ∷ ss) i)) →
      ((i j : ℕ) → suc i ≡ j → j < length (s ∷ ss) → Same (step_at (s ∷ ss) i).to (step_at (s ∷ ss) j).from) →
      ((i : ℕ) → suc i ≡ length (s ∷ ss) → Same (step_at (s ∷ ss) i).to x) →
      ((i : ℕ) → i < length ss → (step_at ss i).from ≢ x) → Way x s.to ss
  way x s [] holds joined closed apart = closed 0 refl
  way x s (t ∷ ss) holds joined closed apart = (
    joined 0 1 refl (omega arith),
    apart 0 (omega arith),
    holds 1 (omega arith),
    way x t ss (λ i lt. holds (suc i) (omega arith)) (λ i j next lt. joined (suc i) (suc j) (omega arith) (omega arith))
        (λ i last. closed (suc i) (omega arith)) (λ i lt. apart (suc i) (omega arith)),
  )

  -- a cycle leads from its first step round to where that starts
  cycle_way : ((a b : ℕ) → Same a b → Same b b) → (s : Step) (ss : List Step) → Cycle Same Holds (s ∷ ss) → Way s.from s.to ss
  cycle_way again s ss c =
      way s.from s ss c.steps
      (λ i j next lt.
      let here : i + 1 ≡ j = omega arith in
      subst (λ k. Same (step_at (s ∷ ss) i).to (step_at (s ∷ ss) k).from) here (c.joined i (omega arith)))
      (λ i last. let here : length (s ∷ ss) - 1 ≡ i = omega arith in subst (λ k. Same (step_at (s ∷ ss) k).to s.from) here c.closed)
      (λ i lt to. c.apart 0 (suc i) (omega arith) (omega arith) (subst (Same s.from) (sym to) (again _ s.from c.closed)))

module _ (Same : Rel) (same : (a b : ℕ) → Dec (Same a b)) (edges ts : List Step) where
  -- Fewer than n steps lead on from the place p, if none starts at x. Where they come round to x they are, with those before
  -- them, ts turned.
  abbrev pub Leading : ℕ → ℕ → List Step → ℕ → Type 0
  Leading zero x before p = ⊥
  Leading (suc n) x before p =
      (Same p x → ends before ≡ ends ts)
      × Every (λ s. Same p s.from → s.from ≢ x → Leading n x (before ++ s ∷ []) s.to) edges

  abbrev dec_leading : (n x : ℕ) (before : List Step) (p : ℕ) → Dec (Leading n x before p)
  dec_leading zero x before p = no (λ e. e)
  dec_leading (suc n) x before p =
      dec_and (dec_when (same p x) (λ _. dec_pairs (ends before) (ends ts)))
      (dec_every _
      (λ s. dec_when (same p s.from)
      (λ _. dec_when (dec_not (ℕ_discrete s.from x)) (λ _. dec_leading n x (before ++ s ∷ []) s.to)))
      edges)

  -- whichever step comes first
  abbrev pub Known : ℕ → Type 0
  Known n = Every (λ s. Leading n s.from (s ∷ []) s.to) edges

  abbrev pub dec_known : (n : ℕ) → Dec (Known n)
  dec_known n = dec_every _ (λ s. dec_leading n s.from (s ∷ []) s.to) edges

  module _ (Holds : Step → Type 0) (among : (P : Step → Type 0) → Every P edges → (s : Step) → Holds s → P (plainly s)) where
    way_known : (n x : ℕ) (before : List Step) (p : ℕ) → Leading n x before p → (ss : List Step) → Way Same Holds x p ss →
        ends (before ++ map plainly ss) ≡ ends ts
    way_known zero x before p l ss w = absurd l
    way_known (suc n) x before p l [] w = ap ends (append-nil before) ∙ l.0 w
    way_known (suc n) x before p l (s ∷ ss) (here, other, holds, rest) =
        ap ends (sym (append_assoc before (plainly s ∷ []) (map plainly ss)))
        ∙ way_known n x (before ++ plainly s ∷ []) s.to (among _ (l.1) s holds here other) ss rest

    pub cycle_known : ((a b : ℕ) → Same a b → Same b b) → (n : ℕ) → Known n → (ss : List Step) → Cycle Same Holds ss → ends ss ≡ ends ts
    cycle_known again n known [] c = let two = c.two in absurd (omega arith)
    cycle_known again n known (s ∷ ss) c =
        sym (ends_plain (s ∷ ss))
        ∙ way_known n s.from (plainly s ∷ []) s.to (among _ known s (c.steps 0 (let two = c.two in omega arith))) ss
        (cycle_way Same Holds again s ss c)
