-- What stands in the places of a record's memory.
use Rattle.std.specs.Prelude.{ℕ, ◌-◌, Bool, true, not, ◌&&◌, List, map, take, length, is_ok, Some, None, Ok, Err, Option, Result, nat_lt, unwrap_or, slice_index_or, if◌then◌else◌}
use Rattle.events.specs.Limits.{max_events}
use Rattle.events.specs.Events.{kind_of, mode_of, writer_of}
use Rattle.events.specs.Raw.{checked}
use Rattle.events.specs.Run.{at, may_read}
use Rattle.events.specs.declared.event.Event.{Event}
use Rattle.events.specs.declared.event.Kind.TheVariants.{Fence}
use Rattle.events.specs.declared.event.Mode.TheVariants.{Relaxed}
use Rattle.events.specs.declared.raw.RawEvent.{RawEvent}
use Rattle.recorder.specs.Lowest.{lowest}
use Rattle.recorder.specs.declared.fault.RecordFault.{RecordFault}
use Rattle.recorder.specs.declared.fault.RecordFault.TheVariants.{ShortMemory, Damaged}

-- a place read as an event, whatever its numbers are; a number that is no kind is seen as a fence, and so as no store
abbrev pub event_of : RawEvent → Event
event_of x =
    record {
      thread = x.thread;
      kind = unwrap_or (kind_of x.kind) Fence;
      mode = unwrap_or (mode_of x.mode) Relaxed;
      location = x.location;
      writer = x.writer;
    }

abbrev pub events_of : List RawEvent → List Event
events_of places = map event_of places

-- what stands where there is no place
abbrev pub no_place : RawEvent
no_place = record { thread = 0; kind = 0; mode = 0; location = 0; writer = 0 }

-- the place of event i, from 1 on
abbrev pub place_of : List RawEvent → ℕ → RawEvent
place_of places i = slice_index_or places (i - 1) no_place

abbrev fitted_to : List Event → ℕ → Option ℕ → Bool
fitted_to es i None = true
fitted_to es i (Some w) = may_read es w i

-- the writer of event i, if it has one, fits
abbrev pub fitted : List Event → ℕ → Bool
fitted es i = fitted_to es i (writer_of (at es i))

-- the place of event i holds what an event may be that was noted and linked
abbrev pub sound : List RawEvent → ℕ → Bool
sound places i = is_ok (checked (place_of places i)) && fitted (events_of places) i

abbrev pub first_damaged : List RawEvent → Option ℕ
first_damaged places = lowest (λ i. not (sound places i)) (length places)

abbrev pub undamaged : List RawEvent → Option ℕ → Result (List Event) RecordFault
undamaged places None = Ok (events_of places)
undamaged places (Some i) = Err (Damaged i)

-- the events of a record that counts n of them, or what is wrong with the memory that it is handed
abbrev pub events_in : ℕ → List RawEvent → Result (List Event) RecordFault
events_in n memory =
    let places = take n memory in
    if nat_lt (length memory) max_events then Err ShortMemory else undamaged places (first_damaged places)
