-- What an order of a run's stores is, and the modification order that it gives.
use Rattle.std.specs.Prelude.{◌≡◌, ◌≢◌, ◌⊎◌, ℕ, ◌<◌, ◌≤◌, List, [], length, slice_index}
use Rattle.events.specs.Run.{at, Store, SameLocation}
use Rattle.events.specs.declared.event.Event.{Event}
use Rattle.events.specs.Relations.{Rel}
use Rattle.models.specs.declared.scope.Scope.{Scope}
use Rattle.models.specs.declared.scope.Scope.TheVariants.{Location, Whole, Weak}

-- the location that the entry at a place of o accesses
abbrev pub location_at : List Event → List ℕ → ℕ → ℕ
location_at es o i = (at es (slice_index o i)).location

-- every store exactly once, location by rising location
pub record ListsStores (es : List Event) (o : List ℕ) : Type 0 where
  pub stores : (i : ℕ) → i < length o → Store es (slice_index o i)
  pub all : (w : ℕ) → Store es w → (i : ℕ) × (i < length o) × (slice_index o i ≡ w)
  pub once : (i j : ℕ) → i < j → j < length o → slice_index o i ≢ slice_index o j
  pub rising : (i j : ℕ) → i < j → j < length o → location_at es o i ≤ location_at es o j

-- at weak scope the stores are not ordered
abbrev pub IsOrder : Scope → List Event → List ℕ → Type 0
IsOrder Location es o = ListsStores es o
IsOrder Whole es o = ListsStores es o
IsOrder Weak es o = o ≡ []

-- a stands before b in the list
abbrev pub Before : List ℕ → Rel
Before o a b = (i : ℕ) × (j : ℕ) × (i < j) × (j < length o) × (slice_index o i ≡ a) × (slice_index o j ≡ b)

-- modification order: a stands before b, at one location
abbrev pub Mo : List Event → List ℕ → Rel
Mo es o a b = Before o a b × SameLocation es a b

-- a strict order on the stores of each location, of any two of which one comes before the other
pub record MoOrders (es : List Event) (mo : Rel) : Type 0 where
  pub stores : (a b : ℕ) → mo a b → Store es a × Store es b × SameLocation es a b
  pub strict : (a : ℕ) → ¬ mo a a
  pub joins : (a b c : ℕ) → mo a b → mo b c → mo a c
  pub total : (a b : ℕ) → Store es a → Store es b → SameLocation es a b → a ≢ b → mo a b ⊎ mo b a
