-- The stores of an order, parted where the location changes.
use Rattle.std.specs.Prelude.{◌≡◌, ◌≢◌, ℕ, suc, ◌<◌, List, [], ◌∷◌, length, slice_index, slice_index_or, ◌==◌, if◌then◌else◌}
use Rattle.std.specs.List.{concat}
use Rattle.events.specs.Run.{at}
use Rattle.events.specs.declared.event.Event.{Event}

abbrev pub location : List Event → ℕ → ℕ
location es a = (at es a).location

-- a store before groups of stores: in the first group, if that begins at its location, else alone
abbrev pub onto_groups : List Event → ℕ → List (List ℕ) → List (List ℕ)
onto_groups es a [] = (a ∷ []) ∷ []
onto_groups es a (g ∷ gs) = if location es a == location es (slice_index g 0) then (a ∷ g) ∷ gs else (a ∷ []) ∷ (g ∷ gs)

abbrev pub groups : List Event → List ℕ → List (List ℕ)
groups es [] = []
groups es (a ∷ o) = onto_groups es a (groups es o)

abbrev pub group_at : List (List ℕ) → ℕ → List ℕ
group_at gs i = slice_index_or gs i []

-- where group i begins
abbrev pub group_location : List Event → List (List ℕ) → ℕ → ℕ
group_location es gs i = location es (slice_index (group_at gs i) 0)

-- The groups of stores joined are the order. None is empty, each is at one location, and the next at another.
pub record PartOrder (es : List Event) (o : List ℕ) (gs : List (List ℕ)) : Type 0 where
  pub whole : concat gs ≡ o
  pub some : (i : ℕ) → i < length gs → 0 < length (group_at gs i)
  pub one : (i k : ℕ) → i < length gs → k < length (group_at gs i) → location es (slice_index (group_at gs i) k) ≡ group_location es gs i
  pub next : (i : ℕ) → suc i < length gs → group_location es gs i ≢ group_location es gs (suc i)
