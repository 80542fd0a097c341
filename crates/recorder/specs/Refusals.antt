-- When a call is refused, in the words of a run. In each type a case is a refusal, with all that has to hold for it.
use Rattle.std.specs.Prelude.{◌≡◌, ◌↔◌, ℕ, ◌<◌, ◌≤◌, false, ◌≢◌, List, take, length, Err, Result}
use Rattle.events.specs.Limits.{max_events}
use Rattle.events.specs.Events.{is_load}
use Rattle.events.specs.Raw.{Legal, raw_of, FirstField}
use Rattle.events.specs.Run.{at, Within, Load, Fits, MayRead}
use Rattle.events.specs.Graph.{Rf}
use Rattle.events.specs.declared.event.Event.{Event}
use Rattle.events.specs.declared.raw.RawEvent.{RawEvent}
use Rattle.recorder.specs.Lowest.{IsLowestTo}
use Rattle.recorder.specs.Places.{events_of, place_of}
use Rattle.recorder.specs.declared.fault.RecordFault.{RecordFault}
use Rattle.recorder.specs.declared.fault.RecordFault.TheVariants.{Field, NoEvent, NotALoad, Unfit, ShortMemory, TooMany, NoEvents, StillRead, NoWriter, Damaged}

-- no event that was noted and linked leaves these numbers in its place
pub data IsDamaged (places : List RawEvent) (i : ℕ) : Type 0 where
  -- a field is out of its range
  fields : {f : _} → FirstField (place_of places i) f → IsDamaged places i
  -- there is a writer, and the event is no load, or the writer does not fit
  writer : (at (events_of places) i).writer ≢ 0 → ¬ MayRead (events_of places) (at (events_of places) i).writer i → IsDamaged places i

-- the memory is long enough, and no event of a record that counts n of them is damaged
pub record Whole (n : ℕ) (memory : List RawEvent) : Type 0 where
  pub long : max_events ≤ length memory
  pub sound : (i : ℕ) → 1 ≤ i → i ≤ length (take n memory) → ¬ IsDamaged (take n memory) i

-- a call is refused for its memory first, and then for what it asks of the events
pub data Refusal (n : ℕ) (memory : List RawEvent) (Fault : List Event → RecordFault → Type 0) : RecordFault → Type 0 where
  short : length memory < max_events → Refusal n memory Fault ShortMemory
  damaged :
      {i : ℕ} → max_events ≤ length memory → IsLowestTo (IsDamaged (take n memory)) (length (take n memory)) i
      → Refusal n memory Fault (Damaged i)
  asked : {f : RecordFault} → Whole n memory → Fault (events_of (take n memory)) f → Refusal n memory Fault f

pub data NoteFault (x : RawEvent) (es : List Event) : RecordFault → Type 0 where
  field : {f : _} → FirstField x f → NoteFault x es (Field f)
  too_many : (e : Event) → Legal e → raw_of e ≡ x → max_events ≤ length es → NoteFault x es TooMany

pub data LinkFault (i w : ℕ) (es : List Event) : RecordFault → Type 0 where
  no_event : ¬ Within es i → LinkFault i w es (NoEvent i)
  not_a_load : Within es i → is_load (at es i).kind ≡ false → LinkFault i w es (NotALoad i)
  unfit : Load es i → w ≢ 0 → ¬ Fits es w i → LinkFault i w es (Unfit i)

pub data RetractFault (es : List Event) : RecordFault → Type 0 where
  no_events : length es ≡ 0 → RetractFault es NoEvents
  still_read : {i : ℕ} → IsLowestTo (Rf es (length es)) (length es) i → RetractFault es (StillRead i)

pub data SealFault (es : List Event) : RecordFault → Type 0 where
  no_writer : {i : ℕ} → IsLowestTo (λ r. Load es r × ((at es r).writer ≡ 0)) (length es) i → SealFault es (NoWriter i)

-- a call is refused for exactly these reasons
abbrev pub Refuses : {A : Type 0} → (RecordFault → Type 0) → Result A RecordFault → Type 0
Refuses Reason r = (f : RecordFault) → (r ≡ Err f) ↔ Reason f
