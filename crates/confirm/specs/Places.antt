-- Where each event stands in an order.
use Rattle.std.specs.Prelude.{◌≡◌, ℕ, ◌+◌, ◌-◌, ◌<◌, ◌≤◌, Bool, true, false, List, length, slice_index}
use Rattle.events.specs.Run.{Store}
use Rattle.events.specs.declared.event.Event.{Event}
use Rattle.models.specs.Orders.{location_at, IsOrder}
use Rattle.models.specs.declared.scope.Scope.{Scope}

-- What stands at one of the first n places of o has the number of that place, counted from 1, and every other event has 0; and
-- so far o lists stores by rising location.
pub record PlacesOf (es : List Event) (o : List ℕ) (n : ℕ) (places : List ℕ) : Type 0 where
  pub there : (i : ℕ) → i < n → slice_index places (slice_index o i) ≡ i + 1
  pub back : (e : ℕ) → 0 < slice_index places e → (slice_index places e ≤ n) × (slice_index o (slice_index places e - 1) ≡ e)
  pub stores : (i : ℕ) → i < n → Store es (slice_index o i)
  pub rising : (i j : ℕ) → i < j → j < n → location_at es o i ≤ location_at es o j

-- the entry at place i may follow: a store that has no place yet, of no lower location
abbrev pub MayFollow : List Event → List ℕ → List ℕ → ℕ → Type 0
MayFollow es o places i = Store es (slice_index o i) × (slice_index places (slice_index o i) ≡ 0) × (0 < i → location_at es o (i - 1) ≤ location_at es o i)

-- every store has a place
abbrev pub AllPlaced : List Event → List ℕ → Type 0
AllPlaced es places = (w : ℕ) → Store es w → 0 < slice_index places w

-- o is an order, and the places are those of its entries, exactly where the answer is true
abbrev pub PlacesIf : Bool → Scope → List Event → List ℕ → List ℕ → Type 0
PlacesIf true scope es o places = IsOrder scope es o × PlacesOf es o (length o) places
PlacesIf false scope es o places = ¬ IsOrder scope es o
