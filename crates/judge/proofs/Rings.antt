-- The steps that show the edges of a cycle are a cycle of steps.
use Rattle.std.proofs.Common.{◌≡◌, ◌≢◌, ℕ, zero, suc, ◌+◌, ◌-◌, ◌<◌, ◌≤◌, List, length, take, get_or, refl, sym, subst, ◌∙◌, ⊎_elim, arith}
use Rattle.std.proofs.lemmas.Bool.{cases_lt}
use Rattle.std.proofs.lemmas.Bool.Decides.{nat_tests}
use Rattle.std.proofs.lemmas.List.{get_or-take, length-take-le}
use Rattle.events.specs.Run.{at, SameLocation, FullRun}
use Rattle.events.specs.Graph.{PoRf}
use Rattle.events.specs.declared.event.Event.{Event}
use Rattle.events.specs.Relations.{Rel, ◌∪◌}
use Rattle.toposort.specs.Cycle.{IsCycle}
use Rattle.verdicts.specs.Chains.{InChain, SameChain}
use Rattle.verdicts.specs.Steps.{ReadSteps, ChainStep}
use Rattle.verdicts.specs.Violations.{SameEvent, AtLocation, Cycle, StepHolds, IsPoOrRf, IsHbOrRead, step_at, no_step}
use Rattle.verdicts.specs.declared.step.Step.{Step}
use Rattle.verdicts.proofs.Chains.{head_once, chain_location}
use Rattle.judge.specs.Ring.{next_in, AllJoined, ShowsEach, CausalStep, EventStep, ChainToChain}

next_later : (n i : ℕ) → i + 1 < n → next_in n i ≡ i + 1
next_later n i lt = grind (arith, nat_tests)

next_first : (n i : ℕ) → n ≤ i + 1 → next_in n i ≡ 0
next_first n i ge = grind (arith, nat_tests)

-- a cycle of k numbers that stand in the first places of a list
module _ (n k : ℕ) (E : Rel) (cycle : List ℕ) (fits : k ≤ length cycle) (is : IsCycle n E (take k cycle)) where
  long : length (take k cycle) ≡ k
  long = length-take-le k cycle fits

  here : (i : ℕ) → i < k → get_or (take k cycle) i 0 ≡ get_or cycle i 0
  here i lt = get_or-take k cycle i 0 lt

  pub all_joined : AllJoined E cycle k
  all_joined i lt =
      ⊎_elim
      (λ later.
      let e = subst (λ z. i + 1 < z) (sym long) later in
      subst (λ z. E (get_or cycle i 0) (get_or cycle z 0)) (sym (next_later k i later))
      (subst (λ z. E z (get_or cycle (i + 1) 0)) (here i lt) (subst (λ z. E (get_or (take k cycle) i 0) z) (here (i + 1) later) (is.joined i e))))
      (λ last.
      let e : length (take k cycle) - 1 ≡ i = let l = long in omega arith in
      subst (λ z. E (get_or cycle i 0) (get_or cycle z 0)) (sym (next_first k i last))
      (subst (λ z. E z (get_or cycle 0 0)) (here i lt) (subst (λ z. E (get_or (take k cycle) i 0) z) (here 0 (omega arith)) (subst (λ z. E (get_or (take k cycle) z 0) (get_or (take k cycle) 0 0)) e (is.closed)))))
      (cases_lt (i + 1) k)

  numbers_apart : (i j : ℕ) → i < j → j < k → get_or cycle i 0 ≢ get_or cycle j 0
  numbers_apart i j less lt e = let l = long in is.apart i j less (omega arith) (here i (omega arith) ∙ (e ∙ sym (here j lt)))

  some : 0 < k
  some = let s = is.some in let l = long in omega arith

  -- where no number is joined to itself there are two or more
  two_or_more : ((a : ℕ) → ¬ E a a) → 2 ≤ k
  two_or_more strict =
      let s = some in
      ⊎_elim (λ one. absurd (strict (get_or cycle 0 0) (subst (λ z. E (get_or cycle 0 0) (get_or cycle z 0)) (next_first k 0 (omega arith)) (all_joined 0 s)))) (λ more. more) (cases_lt k 2)

  -- Each step leads from what is at the number at its place to what is at the next; at two numbers are no two that are the same.
  module _ (strict : (a : ℕ) → ¬ E a a) (Same At : Rel) (same : (a x y : ℕ) → At a x → At a y → Same x y) (apart : (a b x y : ℕ) → At a x → At b y → Same x y → a ≡ b) where
    abbrev Shown : (Step → Type 0) → List Step → Type 0
    Shown Holds ss = (i : ℕ) → i < k → At (get_or cycle i 0) (step_at ss i).from × At (get_or cycle (next_in k i) 0) (step_at ss i).to × Holds (step_at ss i)

    first_steps : (ss : List Step) (i : ℕ) → i < k → step_at (take k ss) i ≡ step_at ss i
    first_steps ss i lt = get_or-take k ss i no_step lt

    ring : (Holds : Step → Type 0) (ss : List Step) → k ≤ length ss → ((i : ℕ) → i < k → step_at (take k ss) i ≡ step_at ss i) → Shown Holds (take k ss) → Cycle Same Holds (take k ss)
    ring Holds ss room same_steps shown =
        let l = length-take-le k ss room in
        let more = two_or_more strict in
        record {
          two = omega arith;
          steps = λ i lt. (shown i (omega arith)).2;
          joined = λ i lt.
              let m = (shown i (omega arith)).1 in
              same (get_or cycle (i + 1) 0) _ _ (subst (λ z. At (get_or cycle z 0) (step_at (take k ss) i).to) (next_later k i (omega arith)) m) ((shown (i + 1) (omega arith)).0);
          closed =
              let m = (shown (length (take k ss) - 1) (omega arith)).1 in
              same (get_or cycle 0 0) _ _ (subst (λ z. At (get_or cycle z 0) (step_at (take k ss) (length (take k ss) - 1)).to) (next_first k (length (take k ss) - 1) (omega arith)) m) ((shown 0 (omega arith)).0);
          apart = λ i j less lt e. numbers_apart i j less (omega arith) (apart _ _ _ _ ((shown i (omega arith)).0) ((shown j (omega arith)).0) e);
        }

    pub ring_of : (Holds : Step → Type 0) (ss : List Step) → k ≤ length ss → Shown Holds ss → Cycle Same Holds (take k ss)
    ring_of Holds ss room shown =
        ring Holds ss room (first_steps ss)
        (λ i lt. subst (λ s. At (get_or cycle i 0) s.from × At (get_or cycle (next_in k i) 0) s.to × Holds s) (sym (first_steps ss i lt)) (shown i lt))

abbrev Exact : Rel
Exact a x = x ≡ a

-- the three cycles
module _ (es : List Event) (full : FullRun es) (k : ℕ) (cycle : List ℕ) (fits : k ≤ length cycle) (ss : List Step) (room : k ≤ length ss) where
  exact_ring : (E : Rel) (Holds : Step → Type 0) → ((a : ℕ) → ¬ E a a) → IsCycle (length es) E (take k cycle) → ShowsEach (λ a b s. (s.from ≡ a) × (s.to ≡ b) × Holds s) cycle k ss → Cycle SameEvent Holds (take k ss)
  exact_ring E Holds strict is shown =
      ring_of (length es) k E cycle fits is strict SameEvent Exact (λ a x y p q. p ∙ sym q) (λ a b x y p q e. sym p ∙ (e ∙ q)) Holds ss room shown

  pub causal_ring : ((a : ℕ) → ¬ PoRf es a a) → IsCycle (length es) (PoRf es) (take k cycle) → ShowsEach (CausalStep es) cycle k ss → Cycle SameEvent (StepHolds IsPoOrRf es (PoRf es)) (take k ss)
  causal_ring strict is shown = exact_ring (PoRf es) (StepHolds IsPoOrRf es (PoRf es)) strict is (λ i lt. let (from, to, holds, _) = shown i lt in (from, to, holds))

  pub event_ring : (hb : Rel) → ((a : ℕ) → ¬ hb a a) → IsCycle (length es) (hb ∪ ReadSteps es hb) (take k cycle) → ShowsEach (EventStep es hb) cycle k ss → Cycle SameEvent (StepHolds IsHbOrRead es hb) (take k ss)
  event_ring hb strict is shown = exact_ring (hb ∪ ReadSteps es hb) (StepHolds IsHbOrRead es hb) (λ a. ⊎_elim (strict a) (λ (r, s). s.0.3 refl)) is (λ i lt. let (from, to, holds, _) = shown i lt in (from, to, holds))

  module _ (hb : Rel) (is : IsCycle (length es) (ChainStep es hb) (take k cycle)) (shown : ShowsEach (ChainToChain es hb) cycle k ss) where
    -- a step between chains stays at its location
    step_location : (g h : ℕ) → ChainStep es hb g h → SameLocation es g h
    step_location g h (differs, (a, b, p, q, s)) =
        chain_location es full g a p ∙ (⊎_elim (λ (two, _). two.2) (λ (r, (two, _, _)). two.2) s ∙ sym (chain_location es full h b q))

    head_location : (i : ℕ) → i < k → SameLocation es (get_or cycle i 0) (get_or cycle 0 0)
    head_location zero lt = refl
    head_location (suc i) lt =
        let s = all_joined (length es) k (ChainStep es hb) cycle fits is i (omega arith) in
        let e = next_later k i (omega arith) in
        let f : i + 1 ≡ suc i = omega arith in
        sym (step_location (get_or cycle i 0) (get_or cycle (suc i) 0) (subst (λ z. ChainStep es hb (get_or cycle i 0) (get_or cycle z 0)) (e ∙ f) s)) ∙ head_location i (omega arith)

    pub chain_ring : Cycle (SameChain es) (AtLocation es hb (at es (get_or cycle 0 0)).location) (take k ss)
    chain_ring =
        ring_of (length es) k (ChainStep es hb) cycle fits is (λ a s. s.0 refl) (SameChain es) (InChain es) (λ a x y p q. (a, p, q))
        (λ a b x y p q (g, r, s). head_once es a g x p r ∙ head_once es g b y s q)
        (AtLocation es hb (at es (get_or cycle 0 0)).location) ss room
        (λ i lt. let (p, q, h, _) = shown i lt in (p, q, (h, sym (chain_location es full (get_or cycle i 0) (step_at ss i).from p) ∙ head_location i lt)))
