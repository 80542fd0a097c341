-- Which kind of violation is the first that a run has.
use Rattle.std.proofs.Common.{◌≢◌, ◌≤◌, ℕ, List, arith}
use Rattle.events.specs.Graph.{PoRf}
use Rattle.events.specs.declared.event.Event.{Event}
use Rattle.events.specs.Relations.{Rel, Acyclic}
use Rattle.models.specs.declared.scope.Scope.{Scope}
use Rattle.models.specs.declared.scope.Scope.TheVariants.{Location, Whole, Weak}
use Rattle.verdicts.specs.Numbers.{violation_number}
use Rattle.verdicts.specs.Absent.{NoTwins, NoBack}
use Rattle.verdicts.specs.Violations.{Violates, IsFirst, step_at}
use Rattle.verdicts.specs.declared.step.Step.{Step}
use Rattle.verdicts.specs.declared.violation.Violation.{Violation}
use Rattle.verdicts.specs.declared.violation.Violation.TheVariants as violation
use Rattle.verdicts.proofs.Excluded.{causal_excluded, store_step}

module _ (es : List Event) (hb : Rel) where
  pub first_causal : (scope : Scope) (k : ℕ) → IsFirst scope es hb (violation.Causal k)
  first_causal scope k (violation.Causal n) ss is = omega arith
  first_causal scope k (violation.Twin u v) ss is = omega arith
  first_causal scope k (violation.Weak w v r) ss is = omega arith
  first_causal scope k violation.Back ss is = omega arith
  first_causal scope k (violation.Round l n) ss is = omega arith
  first_causal scope k (violation.Whole n) ss is = omega arith

  module _ (causal : Acyclic (PoRf es)) where
    pub first_twin : (scope : Scope) (u v : ℕ) → IsFirst scope es hb (violation.Twin u v)
    first_twin scope u v (violation.Causal n) ss (_, c) = absurd (causal_excluded es hb ss c causal)
    first_twin scope u v (violation.Twin _ _) ss is = omega arith
    first_twin scope u v (violation.Weak _ _ _) ss is = omega arith
    first_twin scope u v violation.Back ss is = omega arith
    first_twin scope u v (violation.Round l n) ss is = omega arith
    first_twin scope u v (violation.Whole n) ss is = omega arith

    module _ (single : NoTwins es) where
      -- neither of the first two kinds
      from_third : (scope : Scope) (w : Violation) (ss : List Step) → Violates scope es hb w ss → 3 ≤ violation_number w
      from_third scope (violation.Causal n) ss (_, c) = absurd (causal_excluded es hb ss c causal)
      from_third scope (violation.Twin u v) ss (_, (less, a, b, (w, f, k))) = let same = single u v w a b f k in absurd (omega arith)
      from_third scope (violation.Weak _ _ _) ss is = omega arith
      from_third scope violation.Back ss is = omega arith
      from_third scope (violation.Round l n) ss is = omega arith
      from_third scope (violation.Whole n) ss is = omega arith

      pub first_weak : (scope : Scope) (w v r : ℕ) → IsFirst scope es hb (violation.Weak w v r)
      first_weak scope w v r other ss is = from_third scope other ss is

      -- nor the third
      from_fourth : (scope : Scope) → scope ≢ Weak → (w : Violation) (ss : List Step) → Violates scope es hb w ss → 4 ≤ violation_number w
      from_fourth scope strong (violation.Causal n) ss is = let low = from_third scope (violation.Causal n) ss is in omega arith
      from_fourth scope strong (violation.Twin u v) ss is = let low = from_third scope (violation.Twin u v) ss is in omega arith
      from_fourth scope strong (violation.Weak _ _ _) ss is = absurd (strong (is.1))
      from_fourth scope strong violation.Back ss is = omega arith
      from_fourth scope strong (violation.Round l n) ss is = omega arith
      from_fourth scope strong (violation.Whole n) ss is = omega arith

      pub first_back : IsFirst Location es hb violation.Back
      first_back other ss is = from_fourth Location (λ e. (cc)) other ss is

      -- nor the fourth
      pub first_round : NoBack es hb → (l k : ℕ) → IsFirst Location es hb (violation.Round l k)
      first_round forth l k (violation.Causal n) ss is = let low = from_fourth Location (λ e. (cc)) (violation.Causal n) ss is in absurd (omega arith)
      first_round forth l k (violation.Twin u v) ss is = let low = from_fourth Location (λ e. (cc)) (violation.Twin u v) ss is in absurd (omega arith)
      first_round forth l k (violation.Weak w v r) ss is = let low = from_fourth Location (λ e. (cc)) (violation.Weak w v r) ss is in absurd (omega arith)
      first_round forth l k violation.Back ss (_, _, (h, b)) = absurd (forth (step_at ss 0).from (step_at ss 0).to (store_step es hb (step_at ss 0) h) b)
      first_round forth l k (violation.Round _ n) ss is = omega arith
      first_round forth l k (violation.Whole n) ss is = omega arith

      pub first_whole : (k : ℕ) → IsFirst Whole es hb (violation.Whole k)
      first_whole k (violation.Causal n) ss is = let low = from_fourth Whole (λ e. (cc)) (violation.Causal n) ss is in absurd (omega arith)
      first_whole k (violation.Twin u v) ss is = let low = from_fourth Whole (λ e. (cc)) (violation.Twin u v) ss is in absurd (omega arith)
      first_whole k (violation.Weak w v r) ss is = let low = from_fourth Whole (λ e. (cc)) (violation.Weak w v r) ss is in absurd (omega arith)
      first_whole k violation.Back ss is = let location = is.1 in absurd (cc)
      first_whole k (violation.Round l n) ss is = let location = is.1 in absurd (cc)
      first_whole k (violation.Whole n) ss is = omega arith
