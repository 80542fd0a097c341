-- What the definitions of a model force on a run.
use Rattle.std.specs.Prelude.{◌≡◌, ℕ, List, map}
use Rattle.events.specs.Run.{FullRun}
use Rattle.events.specs.declared.event.Event.{Event}
use Rattle.models.specs.Models.{Hb, Satisfies, rule_of, scope_of}
use Rattle.models.specs.Orders.{IsOrder, Mo}
use Rattle.models.specs.declared.name.ModelName.{ModelName}
use Rattle.models.specs.declared.scope.Scope.TheVariants.{Whole}
use Rattle.verdicts.specs.Layings.{IsLaid}
use Rattle.verdicts.specs.Numbers.{violation_number}
use Rattle.verdicts.specs.Violations.{Violates, IsFirst}
use Rattle.verdicts.specs.declared.step.Step.{Step}
use Rattle.verdicts.specs.declared.violation.Violation.{Violation}
use Rattle.judge.specs.Judges.{FitsScope, LowestUpdate, Allowed}
use Rattle.runlog.specs.Spelling.{spelling}
use Rattle.verdicttext.specs.Turns.{turned}
use Rattle.report.specs.Report.{IsPrinted}

-- the model is one for such runs; o is the order that is laid, and it satisfies the model
pub record ConsistentBy (m : ModelName) (es : List Event) (o : List ℕ) : Type 0 where
  pub fits : FitsScope (scope_of m) es
  pub laid : IsLaid (scope_of m) es (Hb (rule_of m es) es) o
  pub order : IsOrder (scope_of m) es o
  pub satisfies : Satisfies (scope_of m) (rule_of m es) es (Mo es o)

-- the model is one for such runs; the violation v holds, by the steps ss, and none of an earlier kind does; and no order
-- satisfies the model
pub record InconsistentBy (m : ModelName) (es : List Event) (v : Violation) (ss : List Step) : Type 0 where
  pub fits : FitsScope (scope_of m) es
  pub holds : Violates (scope_of m) es (Hb (rule_of m es) es) v ss
  pub first : IsFirst (scope_of m) es (Hb (rule_of m es) es) v
  pub fails : ¬ Allowed (scope_of m) (rule_of m es) es

-- the model is not one for runs with updates, and u is the lowest update of this one
pub record RefusedAt (m : ModelName) (es : List Event) (u : ℕ) : Type 0 where
  pub whole : scope_of m ≡ Whole
  pub lowest : LowestUpdate es u

-- The outcome of a run: the order of a consistent one, a violation and its steps, or the lowest update of one that is refused.
pub data Outcome : Type 0 where
  consistent : List ℕ → Outcome
  inconsistent : Violation → List Step → Outcome
  refused : ℕ → Outcome

-- the definitions of the model force this outcome
abbrev pub Forced : ModelName → List Event → Outcome → Type 0
Forced m es (consistent o) = ConsistentBy m es o
Forced m es (inconsistent v ss) = InconsistentBy m es v ss
Forced m es (refused u) = RefusedAt m es u

-- the two events of each step, from the step that starts lowest on
abbrev pub ends : List Step → List (ℕ × ℕ)
ends ss = map (λ s. (s.from, s.to)) (turned ss)

-- The same kind with the same numbers, by steps between the same events: these may begin elsewhere in a cycle, and be of other sorts.
abbrev pub SameViolation : Violation → List Step → Violation → List Step → Type 0
SameViolation v ss w ts = (v ≡ w) × (ends ss ≡ ends ts)

-- whatever violation of the first kind the run has, it is this one
abbrev pub Only : ModelName → List Event → Outcome → Type 0
Only m es (inconsistent v ss) =
    (w : Violation) (ts : List Step) → Violates (scope_of m) es (Hb (rule_of m es) es) w ts →
    IsFirst (scope_of m) es (Hb (rule_of m es) es) w → SameViolation v ss w ts
Only m es t = Unit {0}

-- Two outcomes are the same in the order, in the kind of the violation, or in the lowest update; and where it is the only one of its
-- kind, in the violation.
abbrev pub SameOutcome : ModelName → List Event → Outcome → Outcome → Type 0
SameOutcome m es (consistent o) (consistent p) = o ≡ p
SameOutcome m es (inconsistent v ss) (inconsistent w ts) =
    (violation_number v ≡ violation_number w) × (Only m es (inconsistent v ss) → SameViolation v ss w ts)
SameOutcome m es (refused u) (refused v) = u ≡ v
SameOutcome m es t u = ⊥

-- two outcomes that the definitions force of a run under one model are the same
abbrev pub OneOutcome : Type 0
OneOutcome = (m : ModelName) (es : List Event) (s t : Outcome) → Forced m es s → Forced m es t → SameOutcome m es s t

-- A full run, the bytes of its log, its outcome under each model, and the text that is printed of the log. Its violations are the only
-- ones of their kinds.
pub record Example (es : List Event) (s : List ℕ) (outcome : ModelName → Outcome) (text : List ℕ) : Type 0 where
  pub full : FullRun es
  pub spells : s ≡ spelling es
  pub forced : (m : ModelName) → Forced m es (outcome m)
  pub only : (m : ModelName) → Only m es (outcome m)
  pub printed : (t : List ℕ) → IsPrinted s t → t ≡ text
