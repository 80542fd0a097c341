-- The reading of a log: the run that its bytes spell, or the first fault.
use Rattle.std.specs.Prelude.{ℕ, zero, suc, ◌+◌, Bool, not, ◌&&◌, List, [], map, length, is_ok, Some, None, Ok, Err, Option, Result, ◌==◌, nat_le, if◌then◌else◌}
use Rattle.std.specs.List.{range_with_len}
use Rattle.std.specs.Result.{result_map_both, result_unwrap_or}
use Rattle.events.specs.Limits.{max_events}
use Rattle.events.specs.Events.{is_load, writer_of}
use Rattle.events.specs.Raw.{checked}
use Rattle.events.specs.Run.{at, no_event, may_read}
use Rattle.events.specs.declared.event.Event.{Event}
use Rattle.runlog.specs.Layout.{word, is_event, is_end, start, after_end, raw_at}
use Rattle.runlog.specs.declared.fault.LogFault.{LogFault}
use Rattle.runlog.specs.declared.fault.LogFault.TheVariants.{Shape, BadEvent, TooMany}

-- no event record stands after n of them: an end record that counts n, and nothing after it, or a fault
abbrev pub ended : List ℕ → ℕ → Result ℕ LogFault
ended s n =
    if is_end s (start n) && word s (start n + 4) == n then
    (if after_end n == length s then Ok n else Err (Shape (after_end n)))
    else Err (Shape (start n))

-- the records in turn, after n events and with at most k more to come: how many events there are, or the first fault
unfoldable pub scanned : ℕ → List ℕ → ℕ → Result ℕ LogFault
scanned zero s n = if is_event s (start n) then Err (TooMany (start n)) else ended s n
scanned (suc k) s n =
    if is_event s (start n) then
    (if is_ok (checked (raw_at s (start n))) then scanned k s (n + 1) else Err (BadEvent (start n)))
    else ended s n

-- the event of the record after k others
abbrev pub event_at : List ℕ → ℕ → Event
event_at s k = result_unwrap_or (checked (raw_at s (start k))) no_event

-- the events of the first n records
abbrev pub events_of : List ℕ → ℕ → List Event
events_of s n = map (event_at s) (range_with_len 0 n)

-- the events of all records, where these come to an end
abbrev pub recorded : List ℕ → Result (List Event) LogFault
recorded s = result_map_both (events_of s) (λ f. f) (scanned max_events s 0)

abbrev pub events_in : List ℕ → List Event
events_in s = result_unwrap_or (recorded s) []

abbrev linked_to : List Event → ℕ → Option ℕ → Bool
linked_to es i None = not (is_load (at es i).kind)
linked_to es i (Some w) = may_read es w i

-- event i has a writer that fits if it is a load, and none if it is not
abbrev pub linked : List Event → ℕ → Bool
linked es i = linked_to es i (writer_of (at es i))

-- the writers in turn, after those of i events and with k more to come: the run, or the first fault
unfoldable pub linked_up : ℕ → List Event → ℕ → Result (List Event) LogFault
linked_up zero es i = Ok es
linked_up (suc k) es i = if linked es (i + 1) then linked_up k es (i + 1) else Err (BadEvent (start i))

abbrev pub with_writers : Result (List Event) LogFault → Result (List Event) LogFault
with_writers (Ok es) = linked_up (length es) es 0
with_writers (Err f) = Err f

-- first the records in turn, then the writers
unfoldable pub reading : List ℕ → Result (List Event) LogFault
reading s = with_writers (recorded s)

-- the run that a log which opens shows
unfoldable pub shown : List ℕ → List Event
shown s = result_unwrap_or (reading s) []

-- what opening answers: nothing where there is a run, else the fault
abbrev pub answer : Result (List Event) LogFault → Result (Unit {0}) LogFault
answer r = result_map_both (λ _. tt) (λ f. f) r
