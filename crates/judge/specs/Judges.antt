-- What judging a run answers, and what it leaves in the two buffers.
use Rattle.std.specs.Prelude.{◌≡◌, ◌⊎◌, ◌↔◌, ℕ, ◌<◌, ◌≤◌, List, length, take, drop, Some, None, Ok, Err, Option, Result}
use Rattle.events.specs.Limits.{max_events}
use Rattle.events.specs.Relations.{Rel}
use Rattle.events.specs.Run.{Update}
use Rattle.events.specs.declared.event.Event.{Event}
use Rattle.executions.specs.declared.fault.CheckerFault.{CheckerFault}
use Rattle.executions.specs.declared.fault.CheckerFault.TheVariants.{NoModel, ShortBuffer, HasUpdates}
use Rattle.models.specs.Orders.{IsOrder, Mo}
use Rattle.models.specs.Models.{Hb, Satisfies, rule_of, scope_of}
use Rattle.models.specs.declared.name.ModelName.{ModelName}
use Rattle.models.specs.declared.scope.Scope.{Scope}
use Rattle.models.specs.declared.scope.Scope.TheVariants.{Whole}
use Rattle.verdicts.specs.Numbers.{step_count, IsConsistent}
use Rattle.verdicts.specs.Layings.{IsLaid}
use Rattle.verdicts.specs.Violations.{Violates, IsFirst}
use Rattle.verdicts.specs.declared.step.Step.{Step}
use Rattle.verdicts.specs.declared.violation.Violation.{Violation}
use Rattle.verdicts.specs.declared.verdict.Verdict.{Verdict}
use Rattle.verdicts.specs.declared.verdict.Verdict.TheVariants.{Consistent, Inconsistent}

-- The refusals, in the order of checks.

-- a buffer has fewer places than a run may have events
abbrev pub Short : List ℕ → List Step → Type 0
Short order steps = (length order < max_events) ⊎ (length steps < max_events)

abbrev pub NoUpdate : List Event → Type 0
NoUpdate es = (u : ℕ) → ¬ Update es u

abbrev pub LowestUpdate : List Event → ℕ → Type 0
LowestUpdate es u = Update es u × ((v : ℕ) → v < u → ¬ Update es v)

abbrev pub Refuses : Scope → List Event → List ℕ → List Step → CheckerFault → Type 0
Refuses scope es order steps fault =
    (Short order steps × (fault ≡ ShortBuffer))
    ⊎ (¬ Short order steps × (scope ≡ Whole) × ((u : ℕ) × LowestUpdate es u × (fault ≡ HasUpdates u)))

-- at whole scope a run must have no updates
abbrev pub FitsScope : Scope → List Event → Type 0
FitsScope scope es = scope ≡ Whole → NoUpdate es

abbrev pub Admits : Scope → List Event → List ℕ → List Step → Type 0
Admits scope es order steps = ¬ Short order steps × FitsScope scope es

-- The verdicts.

-- the run has no violation at all
abbrev pub NoViolation : Scope → List Event → Rel → Type 0
NoViolation scope es hb = (v : Violation) (ss : List Step) → ¬ Violates scope es hb v ss

-- some order satisfies the rule
abbrev pub Allowed : Scope → Rel → List Event → Type 0
Allowed scope sw es = (o : List ℕ) × IsOrder scope es o × Satisfies scope sw es (Mo es o)

-- A verdict, over the buffers as they were and as they are now. Of a consistent run the order that is laid heads the order buffer,
-- and it satisfies the rule. Of any other the step buffer begins with the steps of a violation of the first kind that there is, and
-- every order fails.
abbrev pub Says : Scope → Rel → List Event → List ℕ → List ℕ → List Step → List Step → Verdict → Type 0
Says scope sw es order order_now steps steps_now (Consistent k) =
    (k ≤ length order) × IsLaid scope es (Hb sw es) (take k order_now)
    × IsOrder scope es (take k order_now) × Satisfies scope sw es (Mo es (take k order_now))
    × (drop k order_now ≡ drop k order) × (steps_now ≡ steps) × NoViolation scope es (Hb sw es)
Says scope sw es order order_now steps steps_now (Inconsistent v) =
    (step_count v ≤ length steps) × Violates scope es (Hb sw es) v (take (step_count v) steps_now)
    × IsFirst scope es (Hb sw es) v × ¬ Allowed scope sw es
    × (drop (step_count v) steps_now ≡ drop (step_count v) steps) × (order_now ≡ order)

-- refused for the first of its reasons, with both buffers as they were, or a verdict
abbrev pub Judges : Scope → Rel → List Event → List ℕ → List ℕ → List Step → List Step → Result Verdict CheckerFault → Type 0
Judges scope sw es order order_now steps steps_now (Ok verdict) =
    Admits scope es order steps × Says scope sw es order order_now steps steps_now verdict
Judges scope sw es order order_now steps steps_now (Err fault) =
    Refuses scope es order steps fault × (order_now ≡ order) × (steps_now ≡ steps)

-- consistent exactly where some order satisfies the rule
abbrev pub Decides : Scope → Rel → List Event → Result Verdict CheckerFault → Type 0
Decides scope sw es (Ok verdict) = IsConsistent verdict ↔ Allowed scope sw es
Decides scope sw es (Err fault) = Unit {0}

-- whatever violation a run has, and not just the one that is shown, rules every order out
abbrev pub RulesOut : Scope → Rel → List Event → Type 0
RulesOut scope sw es =
    FitsScope scope es → (v : Violation) (ss : List Step) → Violates scope es (Hb sw es) v ss → ¬ Allowed scope sw es

-- the same under the model that a number names, if it names one
abbrev pub JudgesUnder : Option ModelName → List Event → List ℕ → List ℕ → List Step → List Step → Result Verdict CheckerFault → Type 0
JudgesUnder (Some m) es order order_now steps steps_now r = Judges (scope_of m) (rule_of m es) es order order_now steps steps_now r
JudgesUnder None es order order_now steps steps_now r = (r ≡ Err NoModel) × (order_now ≡ order) × (steps_now ≡ steps)
