-- All that is promised of records, verdicts, orders, models and views, about what one call answered and left.
use Rattle.std.specs.Prelude.{◌≡◌, ◌≢◌, ℕ, ◌≤◌, List, length, replicate, take, Some, None, Ok, Err, Option, Result}
use Rattle.events.specs.Limits.{max_events}
use Rattle.events.specs.Relations.{Rel}
use Rattle.events.specs.Run.{FullRun}
use Rattle.events.specs.declared.event.Event.{Event}
use Rattle.events.specs.declared.raw.RawEvent.{RawEvent}
use Rattle.executions.specs.declared.fault.CheckerFault.{CheckerFault}
use Rattle.sessions.specs.Replayed.{Replayed}
use Rattle.sessions.specs.Recording.{Records}
use Rattle.sessions.specs.declared.calls.Answer.{Answer}
use Rattle.sessions.specs.declared.calls.Call.{Call}
use Rattle.models.specs.Orders.{IsOrder, Mo}
use Rattle.models.specs.Models.{Hb, Satisfies, rule_of, scope_of}
use Rattle.models.specs.declared.name.ModelName.{ModelName}
use Rattle.models.specs.declared.name.ModelName.TheVariants.{Rc20, Ra, Relaxed}
use Rattle.models.specs.declared.scope.Scope.{Scope}
use Rattle.confirm.specs.Confirm.{Confirms}
use Rattle.confirm.specs.declared.finding.Finding.{Finding}
use Rattle.confirm.specs.declared.finding.Finding.TheVariants.{Passes}
use Rattle.verdicts.specs.Layings.{OneLaid}
use Rattle.verdicts.specs.declared.step.Sort.TheVariants.{Po}
use Rattle.verdicts.specs.declared.step.Step.{Step}
use Rattle.verdicts.specs.declared.verdict.Verdict.{Verdict}
use Rattle.verdicts.specs.declared.verdict.Verdict.TheVariants.{Consistent, Inconsistent}
use Rattle.judge.specs.Judges.{Allowed, Judges, Decides, RulesOut}
use Rattle.views.specs.Views.{strengthened, relaxed}
use Rattle.checker.specs.Related.{Related, SameVerdict}
use Rattle.checker.specs.declared.checked.Checked.{Checked}
use Rattle.checker.specs.declared.judged.Judged.{Judged}

-- Scope, rule, run and buffers are those of a call of the judge, and r is its answer.
pub record RightVerdict (scope : Scope) (sw : Rel) (es : List Event) (order order_now : List ℕ) (steps steps_now : List Step) (r : Result Verdict CheckerFault) : Type 0 where
  -- the answer, and every place of the buffers: a refusal, the order that is laid, or the steps of a violation of the first kind that there is
  pub judges : Judges scope sw es order order_now steps steps_now r
  -- consistent exactly where some order satisfies the rule
  pub decides : Decides scope sw es r
  -- one order at most is the one that is laid
  pub one : OneLaid scope es (Hb sw es)
  -- whatever violation the run has, every order fails under it
  pub rules_out : RulesOut scope sw es

-- What confirming the order of a verdict gave, if the verdict brought one: that it passes, as it must by the definition of what
-- confirming answers. And of a run that is not consistent no order passes, whatever answers as confirming is proved to.
abbrev pub Confirmed : Scope → Rel → List Event → List ℕ → Result Verdict CheckerFault → Option (Result Finding CheckerFault) → Type 0
Confirmed scope sw es order_now (Ok (Consistent k)) gave =
    (gave ≡ Some (Ok Passes)) × ((f : Result Finding CheckerFault) → Confirms scope sw es (take k order_now) f → f ≡ Ok Passes)
Confirmed scope sw es order_now (Ok (Inconsistent v)) gave =
    (gave ≡ None) × ((o : List ℕ) (f : Result Finding CheckerFault) → Confirms scope sw es o f → f ≢ Ok Passes)
Confirmed scope sw es order_now (Err fault) gave = gave ≡ None

-- a verdict over this order buffer, as far as confirming asks
abbrev pub BringsOrder : Scope → Rel → List Event → List ℕ → Result Verdict CheckerFault → Type 0
BringsOrder scope sw es order_now (Ok (Consistent k)) =
    (k ≤ length order_now) × IsOrder scope es (take k order_now) × Satisfies scope sw es (Mo es (take k order_now))
BringsOrder scope sw es order_now (Ok (Inconsistent v)) = ¬ Allowed scope sw es
BringsOrder scope sw es order_now (Err fault) = Unit {0}

-- buffers that nothing was written to yet
abbrev pub new_order : List ℕ
new_order = replicate max_events 0

abbrev pub new_steps : List Step
new_steps = replicate max_events (record { from = 0; to = 0; sort = Po })

-- j is what judging the run answers, and leaves in such buffers
abbrev pub JudgesAt : Scope → Rel → List Event → Judged → Type 0
JudgesAt scope sw es j = RightVerdict scope sw es new_order j.order new_steps j.steps j.verdict

abbrev pub JudgesBy : ModelName → List Event → Judged → Type 0
JudgesBy m es j = JudgesAt (scope_of m) (rule_of m es) es j

-- Neither is a refusal, and they say the same, but for which violation of its kind is shown: so the same order, where there is one.
abbrev pub SameAnswer : Result Verdict CheckerFault → List ℕ → Result Verdict CheckerFault → List ℕ → Type 0
SameAnswer (Ok v) a (Ok w) b = SameVerdict v a w b
SameAnswer _ a _ b = ⊥

abbrev pub SaysAs : Judged → Judged → Type 0
SaysAs j k = SameAnswer j.verdict j.order k.verdict k.order

-- What RC20 gave of the run es through the two views, and RA and Relaxed without.
pub record ThroughViews (es : List Event) (c : Checked) : Type 0 where
  pub under_ra : JudgesBy Ra es c.ra
  pub under_relaxed : JudgesBy Relaxed es c.relaxed
  pub through_strengthened : JudgesBy Rc20 (strengthened es) c.through_strengthened
  pub through_relaxed : JudgesBy Rc20 (relaxed es) c.through_relaxed
  pub gives_ra : SaysAs c.through_strengthened c.ra
  pub gives_relaxed : SaysAs c.through_relaxed c.relaxed

-- The calls on a record, its memory and other memory, the places for answers; scope, rule, run, buffers and a candidate for an order:
-- these are those of the call, as they were and as it left them, and c is its answer.
pub record Promise (calls : List Call) (memory memory_now others others_now : List RawEvent) (answers answers_now : List Answer) (scope : Scope) (sw : Rel) (es : List Event) (order order_now : List ℕ) (steps steps_now : List Step) (candidate : List ℕ) (c : Checked) : Type 0 where
  -- the record answered as a list of events does that no call's memory is shown to, and lost nothing; and every place of the memory
  pub records : Replayed calls memory memory_now others others_now answers answers_now
  -- the verdict under the model, and every place of the two buffers
  pub verdict : RightVerdict scope sw es order order_now steps steps_now c.verdict
  -- the order that it brings was confirmed, and no order of a run that is not consistent can be
  pub confirmed : Confirmed scope sw es order_now c.verdict c.confirmed
  -- confirming the caller's candidate answered exactly: that it is no order of the stores, that it passes, or the first axiom that fails
  pub exact : Confirms scope sw es candidate c.finding
  -- RC20 gave through the views what RA and Relaxed gave without
  pub views : ThroughViews es c
  -- and of every full run: how the models imply one another, and what RC20 gives through the views
  pub models : (run : List Event) → FullRun run → Related run
  -- whatever the run, a record obeys the calls that record it, is then sealed, and tells of just this run
  pub recordable : (run : List Event) → FullRun run → Records run
