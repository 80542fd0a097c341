-- How the models are related, and what RC20 gives through the views.
use Rattle.std.specs.Prelude.{◌≡◌, ◌↔◌, ℕ, List, length, take, Ok, Result}
use Rattle.events.specs.declared.event.Event.{Event}
use Rattle.executions.specs.declared.fault.CheckerFault.{CheckerFault}
use Rattle.models.specs.Models.{Hb, rule_of, scope_of}
use Rattle.models.specs.declared.name.ModelName.{ModelName}
use Rattle.models.specs.declared.name.ModelName.TheVariants.{Rc20, Ra, Sra, Wra, Relaxed}
use Rattle.verdicts.specs.Numbers.{violation_number, IsConsistent}
use Rattle.verdicts.specs.Layings.{IsLaid}
use Rattle.verdicts.specs.declared.step.Step.{Step}
use Rattle.verdicts.specs.declared.verdict.Verdict.{Verdict}
use Rattle.verdicts.specs.declared.verdict.Verdict.TheVariants.{Consistent, Inconsistent}
use Rattle.judge.specs.Judges.{Allowed, Judges}
use Rattle.views.specs.Views.{strengthened, relaxed}

-- some order satisfies the model
abbrev pub AllowedBy : ModelName → List Event → Type 0
AllowedBy m es = Allowed (scope_of m) (rule_of m es) es

-- o is the order that is laid under the model
abbrev pub LaidBy : ModelName → List Event → List ℕ → Type 0
LaidBy m es o = IsLaid (scope_of m) es (Hb (rule_of m es) es) o

-- What a call of the judge answers, with its two buffers as they were and as it leaves them. The order buffer keeps its length.
pub record Judgement : Type 0 where
  pub order : List ℕ
  pub order_now : List ℕ
  pub order_length : length order_now ≡ length order
  pub steps : List Step
  pub steps_now : List Step
  pub answer : Result Verdict CheckerFault

-- it is one of this run under this model
abbrev pub JudgementBy : ModelName → List Event → Judgement → Type 0
JudgementBy m es j = Judges (scope_of m) (rule_of m es) es j.order j.order_now j.steps j.steps_now j.answer

-- What is consistent under m is so under n: some order satisfies n if some satisfies m, and so say the verdicts, where both are given,
-- whatever the buffers.
pub record Implies (m n : ModelName) (es : List Event) : Type 0 where
  pub allowed : AllowedBy m es → AllowedBy n es
  pub verdicts : (j k : Judgement) (v w : Verdict) → JudgementBy m es j → JudgementBy n es k → j.answer ≡ Ok v → k.answer ≡ Ok w → IsConsistent v → IsConsistent w

-- Two verdicts say the same, but for which violation of its kind is shown; a and b are the order buffers as they are left, and begin with
-- the same order.
abbrev pub SameVerdict : Verdict → List ℕ → Verdict → List ℕ → Type 0
SameVerdict (Consistent k) a (Consistent l) b = (k ≡ l) × (take k a ≡ take l b)
SameVerdict (Inconsistent v) a (Inconsistent w) b = violation_number v ≡ violation_number w
SameVerdict _ a _ b = ⊥

-- The model m gives of the run fs what n gives of es: the same verdict, where both are given, and the same order, whatever the buffers.
pub record GivesAs (m n : ModelName) (fs es : List Event) : Type 0 where
  pub allowed : AllowedBy m fs ↔ AllowedBy n es
  pub laid : (o : List ℕ) → LaidBy m fs o ↔ LaidBy n es o
  pub verdicts : (j k : Judgement) (v w : Verdict) → JudgementBy m fs j → JudgementBy n es k → j.answer ≡ Ok v → k.answer ≡ Ok w → SameVerdict v j.order_now w k.order_now

-- What is so of every full run.
pub record Related (es : List Event) : Type 0 where
  pub sra_ra : Implies Sra Ra es
  pub ra_wra : Implies Ra Wra es
  pub ra_rc20 : Implies Ra Rc20 es
  pub rc20_relaxed : Implies Rc20 Relaxed es
  pub through_strengthened : GivesAs Rc20 Ra (strengthened es) es
  pub through_relaxed : GivesAs Rc20 Relaxed (relaxed es) es
