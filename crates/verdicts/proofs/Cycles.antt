-- Cycles of steps, and the paths and rounds that they make.
use Rattle.std.proofs.Common.{◌≡◌, ℕ, zero, suc, ◌<◌, ◌+◌, ◌-◌, List, length, subst, arith}
use Rattle.events.specs.Relations.{Rel, ◌⁺}
use Rattle.events.specs.Paths.{path_join}
use Rattle.verdicts.specs.Violations.{SameEvent, Cycle, step_at}
use Rattle.verdicts.specs.declared.step.Step.{Step}

module _ (R : Rel) (Holds : Step → Type 0) (leads : (s : Step) → Holds s → (R ⁺) s.from s.to) (ss : List Step) (c : Cycle SameEvent Holds ss) where
  -- the path along a cycle from its first event on
  along : (i : ℕ) → i < length ss → (R ⁺) (step_at ss 0).from (step_at ss i).to
  along zero lt = leads (step_at ss 0) (c.steps 0 lt)
  along (suc i) lt =
      let e : i + 1 ≡ suc i = omega arith in
      let meets = subst (λ k. (step_at ss i).to ≡ (step_at ss k).from) e (c.joined i (omega arith)) in
      path_join (subst (λ z. (R ⁺) (step_at ss 0).from z) meets (along i (omega arith))) (leads (step_at ss (suc i)) (c.steps (suc i) lt))

  pub cycle_path : (R ⁺) (step_at ss 0).from (step_at ss 0).from
  cycle_path = let two = c.two in subst (λ z. (R ⁺) (step_at ss 0).from z) (c.closed) (along (length ss - 1) (omega arith))

-- the same of steps by a relation that is strict and goes from each start to the next
pub round_strict : (mo : Rel) (from : ℕ → ℕ) (k : ℕ) → ((a b c : ℕ) → mo a b → mo b c → mo a c) → ((i : ℕ) → i < k → mo (from i) (from (suc i))) → 0 < k → mo (from 0) (from k)
round_strict mo from zero joins each some = absurd (omega arith)
round_strict mo from (suc zero) joins each some = each 0 (omega arith)
round_strict mo from (suc (suc k)) joins each some =
    joins (from 0) (from (suc k)) (from (suc (suc k))) (round_strict mo from (suc k) joins (λ i lt. each i (omega arith)) (omega arith)) (each (suc k) (omega arith))
