-- The step between stores that one event before another amounts to.
use Rattle.std.specs.Prelude.{◌≡◌, ◌⊎◌, ℕ, List}
use Rattle.events.specs.Run.{Store, Write}
use Rattle.events.specs.Graph.{Rf}
use Rattle.events.specs.declared.event.Event.{Event}
use Rattle.events.specs.Lowest.{IsLowestPair}
use Rattle.events.specs.Relations.{Rel, ◌⨾◌, ◌？}
use Rattle.models.specs.Models.{AtOneLocation}
use Rattle.verdicts.specs.Chains.{InChain, BeforeInChain}
use Rattle.verdicts.specs.declared.step.Sort.{Sort}
use Rattle.verdicts.specs.declared.step.Sort.TheVariants.{Before, Read}
use Rattle.verdicts.specs.declared.step.Step.{Step}

-- the store that x is, or else the one that it reads from
abbrev pub Top : List Event → Rel
Top es a x = ((a ≡ x) × Store es x) ⊎ (Rf es a x × ¬ Store es x)

-- the store that y reads from, or else the one that it is
abbrev pub Bottom : List Event → Rel
Bottom es b y = Rf es b y ⊎ ((b ≡ y) × Write es y)

-- a read step through y if y is a load, or else a before step to y
abbrev pub EndsAs : List Event → Sort → ℕ → ℕ → Type 0
EndsAs es s b y = (Rf es b y × (s ≡ Read y)) ⊎ ((b ≡ y) × Write es y × (s ≡ Before))

-- the step from the first of the two to the second
pub record StepFor (es : List Event) (x y : ℕ) (s : Step) : Type 0 where
  pub from : Top es s.from x
  pub to : EndsAs es s.sort s.to y

-- the step from the first to the second of the lowest two events of a relation
abbrev pub LowestStep : List Event → Rel → Step → Type 0
LowestStep es R s = (x y : ℕ) × IsLowestPair R x y × StepFor es x y s

-- x is in the chain that g heads, or reads from it
abbrev pub Member : List Event → Rel
Member es = InChain es ⨾ (Rf es ？)

-- x before y, at one location, leads from the chain that g heads to the one that h heads
abbrev pub Crosses : List Event → Rel → ℕ → ℕ → Rel
Crosses es hb g h x y = AtOneLocation es hb x y × Member es g x × Member es h y

-- x before y, at one location, amounts to this step, and it leads back in a chain
abbrev pub BackBy : List Event → Rel → ℕ → ℕ → Step → Type 0
BackBy es hb x y s = AtOneLocation es hb x y × StepFor es x y s × BeforeInChain es s.to s.from

-- x before y amounts to a step back
abbrev pub LeadsBack : List Event → Rel → Rel
LeadsBack es hb x y = (s : Step) × BackBy es hb x y s

-- x before some event does
abbrev pub LeadsBackFrom : List Event → Rel → ℕ → Type 0
LeadsBackFrom es hb x = (y : ℕ) × LeadsBack es hb x y
