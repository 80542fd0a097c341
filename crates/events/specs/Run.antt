-- A run: a list of events, numbered from 1.
use Rattle.std.specs.Prelude.{◌≡◌, ℕ, ◌≤◌, Bool, true, false, ◌&&◌, ◌≢◌, List, ◌∷◌, length, slice_index_or}
use Rattle.events.specs.Limits.{max_events}
use Rattle.events.specs.Events.{is_load, is_store, fitting}
use Rattle.events.specs.Raw.{Legal}
use Rattle.events.specs.declared.event.Kind.TheVariants.{Write as WriteKind, Update as UpdateKind, Fence as FenceKind}
use Rattle.events.specs.declared.event.Mode.TheVariants.{Relaxed}
use Rattle.events.specs.declared.event.Event.{Event}

-- what stands where there is no event: no load and no store
abbrev pub no_event : Event
no_event = record { thread = 0; kind = FenceKind; mode = Relaxed; location = 0; writer = 0 }

-- the event with number i, from 1 on
abbrev pub at : List Event → ℕ → Event
at es i = slice_index_or (no_event ∷ es) i no_event

-- i is the number of an event
abbrev pub Within : List Event → ℕ → Type 0
Within es i = (1 ≤ i) × (i ≤ length es)

abbrev pub Load : List Event → ℕ → Type 0
Load es i = Within es i × (is_load (at es i).kind ≡ true)

abbrev pub Store : List Event → ℕ → Type 0
Store es i = Within es i × (is_store (at es i).kind ≡ true)

abbrev pub Write : List Event → ℕ → Type 0
Write es i = Within es i × ((at es i).kind ≡ WriteKind)

abbrev pub Update : List Event → ℕ → Type 0
Update es i = Within es i × ((at es i).kind ≡ UpdateKind)

abbrev pub Fence : List Event → ℕ → Type 0
Fence es i = Within es i × ((at es i).kind ≡ FenceKind)

abbrev pub SameLocation : List Event → ℕ → ℕ → Type 0
SameLocation es a b = (at es a).location ≡ (at es b).location

-- w can be what r reads from: another event, a store, at the same location
pub record Fits (es : List Event) (w r : ℕ) : Type 0 where
  pub other : w ≢ r
  pub store : Store es w
  pub same : SameLocation es w r

-- i is a load, and w fits it
abbrev pub MayRead : List Event → ℕ → ℕ → Type 0
MayRead es w i = Load es i × Fits es w i

-- the same as a test
abbrev pub may_read : List Event → ℕ → ℕ → Bool
may_read es w i = is_load (at es i).kind && fitting (at es w) w (at es i) i

-- a load has a writer that fits, and any other event has none
pub record Linked (es : List Event) (i : ℕ) : Type 0 where
  pub reads : is_load (at es i).kind ≡ true → Fits es (at es i).writer i
  pub others : is_load (at es i).kind ≡ false → (at es i).writer ≡ 0

-- a run that leaves nothing open: not too long, every event legal, and every load with its writer
pub record FullRun (es : List Event) : Type 0 where
  pub few : length es ≤ max_events
  pub legal : (i : ℕ) → Within es i → Legal (at es i)
  pub linked : (i : ℕ) → Within es i → Linked es i
