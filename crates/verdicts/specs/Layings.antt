-- The order that is laid of a consistent run: which one it is, at each scope.
use Rattle.std.specs.Prelude.{◌≡◌, ℕ, ◌<◌, ◌-◌, List, [], length, slice_index}
use Rattle.events.specs.Run.{Write, Update, SameLocation}
use Rattle.events.specs.Graph.{Rf}
use Rattle.events.specs.declared.event.Event.{Event}
use Rattle.events.specs.Relations.{Rel, ◌∪◌}
use Rattle.toposort.specs.Listing.{Placed, Ordered}
use Rattle.models.specs.Orders.{ListsStores, Before}
use Rattle.models.specs.declared.scope.Scope.{Scope}
use Rattle.models.specs.declared.scope.Scope.TheVariants.{Location, Whole, Weak}
use Rattle.verdicts.specs.Steps.{ReadSteps, ChainStep}

-- The chain that h heads is not among the first i of o, and no step leads into it from another that is not.
pub record ChainReady (es : List Event) (hb : Rel) (o : List ℕ) (i h : ℕ) : Type 0 where
  pub head : Write es h
  pub unlaid : ¬ Placed o i h
  pub free : (g : ℕ) → Write es g → ¬ Placed o i g → ¬ ChainStep es hb g h

-- of its location it is the lowest-headed chain that is ready
pub record ChainTurn (es : List Event) (hb : Rel) (o : List ℕ) (i h : ℕ) : Type 0 where
  pub ready : ChainReady es hb o i h
  pub lowest : (g : ℕ) → g < h → SameLocation es g h → ¬ ChainReady es hb o i g

-- Location scope: chains are laid whole, an update right after its writer, and at each head its chain has the turn.
pub record LaysChains (es : List Event) (hb : Rel) (o : List ℕ) : Type 0 where
  pub lists : ListsStores es o
  pub whole : (i : ℕ) → i < length o → Update es (slice_index o i) → (0 < i) × Rf es (slice_index o (i - 1)) (slice_index o i)
  pub turns : (i : ℕ) → i < length o → Write es (slice_index o i) → ChainTurn es hb o i (slice_index o i)

-- the stores of each location in the order in which l has them
pub record ReadsOff (es : List Event) (l o : List ℕ) : Type 0 where
  pub lists : ListsStores es o
  pub along : (i j : ℕ) → i < j → j < length o → SameLocation es (slice_index o i) (slice_index o j) →
      Before l (slice_index o i) (slice_index o j)

-- Whole scope: all events are laid along happens-before and read steps, lowest ready first, and the stores read off.
abbrev pub LaysEvents : List Event → Rel → List ℕ → Type 0
LaysEvents es hb o = (l : List ℕ) × Ordered (length es) (hb ∪ ReadSteps es hb) l × ReadsOff es l o

-- o is the order that is laid
abbrev pub IsLaid : Scope → List Event → Rel → List ℕ → Type 0
IsLaid Location es hb o = LaysChains es hb o
IsLaid Whole es hb o = LaysEvents es hb o
IsLaid Weak es hb o = o ≡ []

-- there is one such order at most
abbrev pub OneLaid : Scope → List Event → Rel → Type 0
OneLaid scope es hb = (o p : List ℕ) → IsLaid scope es hb o → IsLaid scope es hb p → o ≡ p
