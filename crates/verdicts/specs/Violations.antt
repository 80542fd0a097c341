-- When a violation holds in a run, with the steps that are to show it.
use Rattle.std.specs.Prelude.{◌≡◌, ◌⊎◌, ℕ, ◌<◌, ◌≤◌, ◌+◌, ◌-◌, List, [], length, slice_index_or}
use Rattle.events.specs.Run.{at, Update}
use Rattle.events.specs.Graph.{Po, Rf}
use Rattle.events.specs.declared.event.Event.{Event}
use Rattle.events.specs.Relations.{Rel}
use Rattle.models.specs.declared.scope.Scope.{Scope}
use Rattle.models.specs.declared.scope.Scope.TheVariants.{Location, Whole, Weak}
use Rattle.verdicts.specs.Chains.{SameChain, BeforeInChain}
use Rattle.verdicts.specs.Steps.{Overwrites, BeforeStep, ReadStep}
use Rattle.verdicts.specs.Numbers.{violation_number}
use Rattle.verdicts.specs.declared.step.Sort.{Sort}
use Rattle.verdicts.specs.declared.step.Sort.TheVariants as sort
use Rattle.verdicts.specs.declared.step.Step.{Step}
use Rattle.verdicts.specs.declared.violation.Violation.{Violation}
use Rattle.verdicts.specs.declared.violation.Violation.TheVariants as violation

-- what the sort of a step says of its two events
abbrev pub Leads : List Event → Rel → Sort → Rel
Leads es hb sort.Po = Po es
Leads es hb sort.Rf = Rf es
Leads es hb sort.Before = BeforeStep es hb
Leads es hb (sort.Read r) = ReadStep es hb r
Leads es hb sort.Hb = hb

-- the sorts of which the steps of each kind of violation are
abbrev pub IsPoOrRf : Sort → Type 0
IsPoOrRf s = (s ≡ sort.Po) ⊎ (s ≡ sort.Rf)

abbrev pub IsBeforeOrRead : Sort → Type 0
IsBeforeOrRead s = (s ≡ sort.Before) ⊎ ((r : ℕ) × (s ≡ sort.Read r))

abbrev pub IsHbOrRead : Sort → Type 0
IsHbOrRead s = (s ≡ sort.Hb) ⊎ ((r : ℕ) × (s ≡ sort.Read r))

-- the step is of one of these sorts, and true
abbrev pub StepHolds : (Sort → Type 0) → List Event → Rel → Step → Type 0
StepHolds Is es hb s = Is s.sort × Leads es hb s.sort s.from s.to

abbrev pub no_step : Step
no_step = record { from = 0; to = 0; sort = sort.Po }

abbrev pub step_at : List Step → ℕ → Step
step_at ss i = slice_index_or ss i no_step

-- Two or more steps in a cycle. Each starts where the one before it ends, and the first where the last ends; no two start at one
-- place. To be at one place is to be one event, or to be in one chain.
pub record Cycle (Same : Rel) (Holds : Step → Type 0) (ss : List Step) : Type 0 where
  pub two : 2 ≤ length ss
  pub steps : (i : ℕ) → i < length ss → Holds (step_at ss i)
  pub joined : (i : ℕ) → i + 1 < length ss → Same (step_at ss i).to (step_at ss (i + 1)).from
  pub closed : Same (step_at ss (length ss - 1)).to (step_at ss 0).from
  pub apart : (i j : ℕ) → i < j → j < length ss → ¬ Same (step_at ss i).from (step_at ss j).from

abbrev pub SameEvent : Rel
SameEvent a b = a ≡ b

-- a step of location l
abbrev pub AtLocation : List Event → Rel → ℕ → Step → Type 0
AtLocation es hb l s = StepHolds IsBeforeOrRead es hb s × ((at es s.from).location ≡ l)

-- a step between stores that leads back in a chain
abbrev pub StepsBack : List Event → Rel → Step → Type 0
StepsBack es hb s = StepHolds IsBeforeOrRead es hb s × BeforeInChain es s.to s.from

-- two updates with one writer, the lower number first
abbrev pub AreTwins : List Event → Rel
AreTwins es u v = (u < v) × Update es u × Update es v × ((w : ℕ) × Rf es w u × Rf es w v)

-- The violation holds in the run at this scope, and these are its steps.
abbrev pub Violates : Scope → List Event → Rel → Violation → List Step → Type 0
Violates scope es hb (violation.Causal k) ss = (length ss ≡ k) × Cycle SameEvent (StepHolds IsPoOrRf es hb) ss
Violates scope es hb (violation.Twin u v) ss = (ss ≡ []) × AreTwins es u v
Violates scope es hb (violation.Weak w v r) ss = (ss ≡ []) × (scope ≡ Weak) × Rf es w r × Overwrites es hb w v r
Violates scope es hb violation.Back ss = (length ss ≡ 1) × (scope ≡ Location) × StepsBack es hb (step_at ss 0)
Violates scope es hb (violation.Round l k) ss = (length ss ≡ k) × (scope ≡ Location) × Cycle (SameChain es) (AtLocation es hb l) ss
Violates scope es hb (violation.Whole k) ss = (length ss ≡ k) × (scope ≡ Whole) × Cycle SameEvent (StepHolds IsHbOrRead es hb) ss

-- the run has no violation of a kind before this one
abbrev pub IsFirst : Scope → List Event → Rel → Violation → Type 0
IsFirst scope es hb v = (w : Violation) (ss : List Step) → Violates scope es hb w ss → violation_number v ≤ violation_number w
