-- What the calls answer and leave, for any memory.
use Rattle.std.specs.Prelude.{ℕ, ◌-◌, List, is_ok, Ok, Err, Result, slice_set, if◌then◌else◌}
use Rattle.std.specs.Result.{result_map_both}
use Rattle.events.specs.declared.event.Event.{Event}
use Rattle.events.specs.declared.raw.RawEvent.{RawEvent}
use Rattle.recorder.specs.Edits.{Edited}
use Rattle.recorder.specs.Places.{events_in, place_of}
use Rattle.recorder.specs.declared.fault.RecordFault.{RecordFault}

abbrev pub and_then : (List Event → Edited) → Edited → Edited
and_then edit (Ok es) = edit es
and_then edit (Err f) = Err f

-- a call of a record that counts n events: it looks at the memory first, and then at the events in it
abbrev pub on_record : ℕ → List RawEvent → (List Event → Edited) → Edited
on_record n memory edit = and_then edit (events_in n memory)

-- the answer of a call that gives the number n
abbrev pub with_number : ℕ → Edited → Result ℕ RecordFault
with_number n r = result_map_both (λ _. n) (λ f. f) r

-- and of one that gives nothing
abbrev pub without_value : Edited → Result (Unit {0}) RecordFault
without_value r = result_map_both (λ _. tt) (λ f. f) r

-- what a call leaves where it is obeyed, and where it is refused
abbrev pub obeyed_or : {A : Type 0} → Edited → A → A → A
obeyed_or r new old = if is_ok r then new else old

-- the memory with these numbers in the place of event i
abbrev pub with_place : List RawEvent → ℕ → RawEvent → List RawEvent
with_place memory i x = slice_set memory (i - 1) x

-- the memory with w for the writer in the place of event i
abbrev pub with_link : List RawEvent → ℕ → ℕ → List RawEvent
with_link memory i w = with_place memory i (record (place_of memory i) { writer = w })
