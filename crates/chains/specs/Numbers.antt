-- Numbers that are kept for each event: the head of its chain, and its place in the causal order.
use Rattle.std.specs.Prelude.{◌≡◌, ◌≢◌, ℕ, ◌<◌, ◌≤◌, List, length, slice_index}
use Rattle.events.specs.Limits.{max_events}
use Rattle.events.specs.Run.{Load, Store, Write}
use Rattle.events.specs.Graph.{Rf}
use Rattle.events.specs.declared.event.Event.{Event}
use Rattle.toposort.specs.Listing.{Placed}

-- h is the head of x, if those of the others are as heads says: a write heads its own chain, a load has the head of its writer, and
-- any other number has none
pub record NextHead (es : List Event) (heads : List ℕ) (x h : ℕ) : Type 0 where
  pub write : Write es x → h ≡ x
  pub load : (w : ℕ) → Rf es w x → h ≡ slice_index heads w
  pub other : ¬ Write es x → ¬ Load es x → h ≡ 0

abbrev pub HeadsOf : List Event → List ℕ → Type 0
HeadsOf es heads = (x : ℕ) → NextHead es heads x (slice_index heads x)

-- each number stands at the place that is kept for it
abbrev pub PlacesIn : ℕ → List ℕ → List ℕ → Type 0
PlacesIn n order places = (k : ℕ) → k < n → slice_index places (slice_index order k) ≡ k

-- nothing else has changed since: what is not among the first n has the place that it had
abbrev pub OthersKept : ℕ → List ℕ → List ℕ → List ℕ → Type 0
OthersKept n order old new = (x : ℕ) → ¬ Placed order n x → slice_index new x ≡ slice_index old x

-- different numbers of events
pub record EventNumbers (order : List ℕ) : Type 0 where
  pub few : length order ≤ max_events
  pub fit : (k : ℕ) → k < length order → slice_index order k ≤ max_events
  pub apart : (j k : ℕ) → j < k → k < length order → slice_index order j ≢ slice_index order k

-- each store is kept for itself, and nothing for any other number
pub record StoreNumbers (es : List Event) (stores : List ℕ) : Type 0 where
  pub store : (x : ℕ) → Store es x → slice_index stores x ≡ x
  pub other : (x : ℕ) → ¬ Store es x → slice_index stores x ≡ 0

-- for each load its writer is kept, and nothing for any other number
pub record WriterNumbers (es : List Event) (writers : List ℕ) : Type 0 where
  pub load : (w x : ℕ) → Rf es w x → slice_index writers x ≡ w
  pub other : (x : ℕ) → ¬ Load es x → slice_index writers x ≡ 0
