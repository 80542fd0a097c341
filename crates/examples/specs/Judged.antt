-- That the judge's answer agrees with the outcome that the definitions force.
use Rattle.std.specs.Prelude.{◌≡◌, ℕ, List, length, take, Ok, Err, Result}
use Rattle.events.specs.declared.event.Event.{Event}
use Rattle.executions.specs.declared.fault.CheckerFault.{CheckerFault}
use Rattle.executions.specs.declared.fault.CheckerFault.TheVariants.{HasUpdates}
use Rattle.models.specs.Models.{rule_of, scope_of}
use Rattle.models.specs.declared.name.ModelName.{ModelName}
use Rattle.verdicts.specs.Numbers.{step_count, violation_number}
use Rattle.verdicts.specs.declared.step.Step.{Step}
use Rattle.verdicts.specs.declared.violation.Violation.{Violation}
use Rattle.verdicts.specs.declared.verdict.Verdict.{Verdict}
use Rattle.verdicts.specs.declared.verdict.Verdict.TheVariants.{Consistent, Inconsistent}
use Rattle.judge.specs.Judges.{Short, Judges}
use Rattle.examples.specs.Forced.{Outcome, Forced, SameViolation, Only}
use Rattle.examples.specs.Forced.Outcome.{consistent, inconsistent, refused}

-- An answer has the outcome's order, which then heads the order buffer; a violation of the same kind, and where the outcome's is the
-- only one of its kind that very one, by steps that then head the step buffer; or the same update.
abbrev pub Answers : ModelName → List Event → Outcome → List ℕ → List Step → Result Verdict CheckerFault → Type 0
Answers m es (consistent o) order steps r = (r ≡ Ok (Consistent (length o))) × (take (length o) order ≡ o)
Answers m es (inconsistent v ss) order steps r =
    (w : Violation) × (r ≡ Ok (Inconsistent w)) × (violation_number w ≡ violation_number v)
    × (Only m es (inconsistent v ss) → SameViolation v ss w (take (step_count w) steps))
Answers m es (refused u) order steps r = r ≡ Err (HasUpdates u)

-- so does the judge's answer, given buffers that are long enough, of which the order buffer keeps its length
abbrev pub Answered : Type 0
Answered =
    (m : ModelName) (es : List Event) (outcome : Outcome) (order order_now : List ℕ) (steps steps_now : List Step)
    (r : Result Verdict CheckerFault) → Forced m es outcome → ¬ Short order steps → length order_now ≡ length order →
    Judges (scope_of m) (rule_of m es) es order order_now steps steps_now r → Answers m es outcome order_now steps_now r
