-- What is found of a run whose happens-before is at hand, and what it leaves in the two buffers.
use Rattle.std.specs.Prelude.{◌≡◌, ℕ, ◌≤◌, List, length, take, drop}
use Rattle.events.specs.Relations.{Rel}
use Rattle.events.specs.declared.event.Event.{Event}
use Rattle.models.specs.declared.scope.Scope.{Scope}
use Rattle.models.specs.declared.scope.Scope.TheVariants.{Location, Whole, Weak}
use Rattle.verdicts.specs.Absent.{NoBack, NoWeak}
use Rattle.verdicts.specs.Layings.{IsLaid}
use Rattle.verdicts.specs.Numbers.{step_count}
use Rattle.verdicts.specs.Violations.{Violates, IsFirst}
use Rattle.verdicts.specs.declared.step.Step.{Step}
use Rattle.verdicts.specs.declared.violation.Violation.{Violation}
use Rattle.verdicts.specs.declared.verdict.Verdict.{Verdict}
use Rattle.verdicts.specs.declared.verdict.Verdict.TheVariants.{Consistent, Inconsistent}

-- the run has none of the violations of this scope that a laying does not rule out
abbrev pub NoneLeft : Scope → List Event → Rel → Type 0
NoneLeft Location es hb = NoBack es hb
NoneLeft Whole es hb = Unit {0}
NoneLeft Weak es hb = NoWeak es hb

-- the order that is laid stands at the head of the order buffer
abbrev pub Lays : Scope → List Event → Rel → List ℕ → List ℕ → ℕ → Type 0
Lays scope es hb order order_now k = (k ≤ length order) × IsLaid scope es hb (take k order_now) × (drop k order_now ≡ drop k order)

-- the steps of a violation of the first kind that there is stand at the head of the step buffer
abbrev pub Violated : Scope → List Event → Rel → List Step → List Step → Violation → Type 0
Violated scope es hb steps steps_now v =
    (step_count v ≤ length steps) × Violates scope es hb v (take (step_count v) steps_now) × IsFirst scope es hb v
    × (drop (step_count v) steps_now ≡ drop (step_count v) steps)

abbrev pub Concludes : Scope → List Event → Rel → List ℕ → List ℕ → List Step → List Step → Verdict → Type 0
Concludes scope es hb order order_now steps steps_now (Consistent k) =
    Lays scope es hb order order_now k × NoneLeft scope es hb × (steps_now ≡ steps)
Concludes scope es hb order order_now steps steps_now (Inconsistent v) =
    Violated scope es hb steps steps_now v × (order_now ≡ order)
