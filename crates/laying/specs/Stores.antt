-- The stores of a list, laid location by location, and by what they are gathered.
use Rattle.std.specs.Prelude.{◌≡◌, ◌+◌, ◌≤◌, ℕ, ◌<◌, List, length, slice_index}
use Rattle.events.specs.Limits.{max_locations}
use Rattle.events.specs.Run.{at, Store, SameLocation}
use Rattle.events.specs.declared.event.Event.{Event}
use Rattle.models.specs.Orders.{location_at}
use Rattle.laying.specs.Gathers.{Listed}
use Rattle.models.specs.Orders.{Before}

-- for each store its location is kept, and nothing for any other number
pub record StoreLocations (es : List Event) (locations : List ℕ) : Type 0 where
  pub store : (x : ℕ) → Store es x → slice_index locations x ≡ (at es x).location
  pub other : (x : ℕ) → ¬ Store es x → slice_index locations x ≡ 0

-- every location, rising
pub record AllLocations (list : List ℕ) : Type 0 where
  pub whole : length list ≡ max_locations
  pub rising : (i : ℕ) → i < max_locations → slice_index list i ≡ i + 1

-- o has the stores of m, location by rising location, those of one location as m has them
pub record ByLocation (es : List Event) (m o : List ℕ) : Type 0 where
  pub only : (i : ℕ) → i < length o → Store es (slice_index o i) × Listed m (slice_index o i)
  pub all : (w : ℕ) → Store es w → Listed m w → Listed o w
  pub rising : (i j : ℕ) → i < j → j < length o → location_at es o i ≤ location_at es o j
  pub along : (i j : ℕ) → i < j → j < length o → SameLocation es (slice_index o i) (slice_index o j) →
      Before m (slice_index o i) (slice_index o j)
