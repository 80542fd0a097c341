-- What a call does to the list of a record's events, and when it is refused.
use Rattle.std.specs.Prelude.{ℕ, ◌-◌, Bool, not, ◌&&◌, ◌||◌, List, [], ◌∷◌, ◌++◌, length, take, is_none, Some, None, Ok, Err, Option, Result, ◌==◌, nat_lt, nat_le, slice_set, if◌then◌else◌}
use Rattle.events.specs.Limits.{max_events}
use Rattle.events.specs.Events.{is_load, writer_of}
use Rattle.events.specs.Raw.{checked}
use Rattle.events.specs.Run.{at, may_read}
use Rattle.events.specs.declared.event.Event.{Event}
use Rattle.events.specs.declared.raw.RawEvent.{RawEvent}
use Rattle.events.specs.declared.raw.FieldFault.{FieldFault}
use Rattle.recorder.specs.Lowest.{lowest}
use Rattle.recorder.specs.declared.fault.RecordFault.{RecordFault}
use Rattle.recorder.specs.declared.fault.RecordFault.TheVariants.{Field, NoEvent, NotALoad, Unfit, TooMany, NoEvents, StillRead, NoWriter}

-- the events after a call, or its refusal
abbrev pub Edited : Type 0
Edited = Result (List Event) RecordFault

-- the numbers of an event that is noted: it has no writer yet
abbrev pub unlinked : ℕ → ℕ → ℕ → ℕ → RawEvent
unlinked t k m l = record { thread = t; kind = k; mode = m; location = l; writer = 0 }

abbrev pub appended : List Event → Result Event FieldFault → Edited
appended es (Ok e) = if nat_lt (length es) max_events then Ok (es ++ e ∷ []) else Err TooMany
appended es (Err f) = Err (Field f)

-- note appends the event with these numbers
abbrev pub note_edit : RawEvent → List Event → Edited
note_edit x es = appended es (checked x)

-- w for the writer of event i
abbrev pub with_writer : List Event → ℕ → ℕ → List Event
with_writer es i w = slice_set es (i - 1) (record (at es i) { writer = w })

-- link sets the writer of a load; 0 clears it
abbrev pub link_edit : ℕ → ℕ → List Event → Edited
link_edit i w es =
    if not (nat_le 1 i && nat_le i (length es)) then Err (NoEvent i)
    else if not (is_load (at es i).kind) then Err (NotALoad i)
    else if w == 0 || may_read es w i then Ok (with_writer es i w)
    else Err (Unfit i)

abbrev pub is_reader_of : List Event → ℕ → ℕ → Bool
is_reader_of es w i = is_load (at es i).kind && (at es i).writer == w

abbrev pub lacks_writer : List Event → ℕ → Bool
lacks_writer es i = is_load (at es i).kind && is_none (writer_of (at es i))

abbrev pub without_last : List Event → Option ℕ → Edited
without_last es None = Ok (take (length es - 1) es)
without_last es (Some i) = Err (StillRead i)

-- taking back drops the last event, if no load reads from it
abbrev pub retract_edit : List Event → Edited
retract_edit es = if length es == 0 then Err NoEvents else without_last es (lowest (is_reader_of es (length es)) (length es))

abbrev pub complete : List Event → Option ℕ → Edited
complete es None = Ok es
complete es (Some i) = Err (NoWriter i)

-- sealing changes no event, and wants a writer for every load
abbrev pub seal_edit : List Event → Edited
seal_edit es = complete es (lowest (lacks_writer es) (length es))
