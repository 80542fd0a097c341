-- The steps of a cycle.
use Rattle.std.specs.Prelude.{◌≡◌, ℕ, ◌+◌, ◌<◌, List, nat_lt, if◌then◌else◌, slice_index}
use Rattle.events.specs.Relations.{Rel}
use Rattle.events.specs.Lowest.{IsLowest}
use Rattle.events.specs.Graph.{Po, PoRf}
use Rattle.events.specs.declared.event.Event.{Event}
use Rattle.chains.specs.Ends.{LowestStep, Crosses}
use Rattle.verdicts.specs.Chains.{InChain}
use Rattle.verdicts.specs.Steps.{ReadStep}
use Rattle.verdicts.specs.declared.step.Sort.TheVariants as sort
use Rattle.verdicts.specs.Violations.{StepHolds, IsPoOrRf, IsBeforeOrRead, IsHbOrRead, step_at}
use Rattle.verdicts.specs.declared.step.Sort.{Sort}
use Rattle.verdicts.specs.declared.step.Step.{Step}

-- the place after i, round a cycle of n numbers
abbrev pub next_in : ℕ → ℕ → ℕ
next_in n i = if nat_lt (i + 1) n then i + 1 else 0

-- each of the first n is joined to the next, and the last to the first
abbrev pub AllJoined : Rel → List ℕ → ℕ → Type 0
AllJoined E cycle n = (i : ℕ) → i < n → E (slice_index cycle i) (slice_index cycle (next_in n i))

-- What the steps of each graph show of an edge from a to b.

-- the step leads from a to b, by program order if that joins them, or else by reads-from
abbrev pub CausalStep : List Event → ℕ → ℕ → Step → Type 0
CausalStep es a b s = (s.from ≡ a) × (s.to ≡ b) × StepHolds IsPoOrRf es (PoRf es) s × (Po es a b → s.sort ≡ sort.Po)

-- the sort of a step from a to b: happens-before if that joins them, or else a read step through the lowest load
abbrev pub EventSort : List Event → Rel → ℕ → ℕ → Sort → Type 0
EventSort es hb a b sort.Hb = hb a b
EventSort es hb a b (sort.Read r) = ¬ hb a b × IsLowest (λ l. ReadStep es hb l a b) r
EventSort es hb a b sort.Po = ⊥
EventSort es hb a b sort.Rf = ⊥
EventSort es hb a b sort.Before = ⊥

-- the step leads from a to b, and is of this sort
abbrev pub EventStep : List Event → Rel → ℕ → ℕ → Step → Type 0
EventStep es hb a b s = (s.from ≡ a) × (s.to ≡ b) × StepHolds IsHbOrRead es hb s × EventSort es hb a b s.sort

-- the step leads between stores, from the chain that a heads to the one that b heads, and is that of the lowest two events
abbrev pub ChainToChain : List Event → Rel → ℕ → ℕ → Step → Type 0
ChainToChain es hb a b s = InChain es a s.from × InChain es b s.to × StepHolds IsBeforeOrRead es hb s × LowestStep es (Crosses es hb a b) s

-- the step at place i shows the edge from the number at that place to the next
abbrev pub ShowsAt : (ℕ → ℕ → Step → Type 0) → List ℕ → ℕ → List Step → ℕ → Type 0
ShowsAt shows cycle n ss i = shows (slice_index cycle i) (slice_index cycle (next_in n i)) (step_at ss i)

abbrev pub ShowsEach : (ℕ → ℕ → Step → Type 0) → List ℕ → ℕ → List Step → Type 0
ShowsEach shows cycle n ss = (i : ℕ) → i < n → ShowsAt shows cycle n ss i
