-- The reference model of a record: a list of events, which no memory is shown to. It is told how many places each call is handed.
use Rattle.std.specs.Prelude.{ℕ, ◌+◌, Bool, true, false, not, ◌&&◌, List, [], length, is_ok, Err, nat_le, nat_lt, if◌then◌else◌}
use Rattle.std.specs.Result.{result_unwrap_or}
use Rattle.events.specs.Limits.{max_events}
use Rattle.events.specs.Run.{at}
use Rattle.events.specs.declared.event.Event.{Event}
use Rattle.executions.specs.declared.fault.CheckerFault.TheVariants.{NoEvent}
use Rattle.recorder.specs.Edits.{Edited, unlinked, note_edit, link_edit, retract_edit, seal_edit}
use Rattle.recorder.specs.Record.{with_number, without_value}
use Rattle.sessions.specs.Handed.{places_handed}
use Rattle.sessions.specs.Calls.{Step, told, told_number}
use Rattle.sessions.specs.declared.calls.Call.{Call}
use Rattle.sessions.specs.declared.calls.Call.TheVariants as call
use Rattle.sessions.specs.declared.calls.Answer.{Answer}
use Rattle.sessions.specs.declared.calls.Answer.TheVariants.{Done, Counted, Shown, NotShown, Barred}
use Rattle.recorder.specs.declared.fault.RecordFault.TheVariants.{ShortMemory}

-- the events, and whether the record is sealed
pub record Reference : Type 0 where
  pub run : List Event
  pub is_sealed : Bool

-- a record as it is opened
abbrev pub fresh : Reference
fresh = record { run = []; is_sealed = false }

-- a call that is handed so many places is refused if these are too few
abbrev pub unless_short : ℕ → Edited → Edited
unless_short places r = if nat_lt places max_events then Err ShortMemory else r

-- the events after a call of an open record
abbrev pub run_after : Edited → List Event → Reference
run_after r es = record { run = result_unwrap_or r es; is_sealed = false }

-- a call of an open record
abbrev pub model_open : ℕ → ℕ → Call → List Event → Answer × Reference
model_open room others_room (call.Note handed t k m l) es =
    let r = unless_short (places_handed room others_room handed) (note_edit (unlinked t k m l) es) in
    (told_number (with_number (length es + 1) r), run_after r es)
model_open room others_room (call.Link handed i w) es =
    let r = unless_short (places_handed room others_room handed) (link_edit i w es) in
    (told (without_value r), run_after r es)
model_open room others_room (call.Retract handed) es =
    let r = unless_short (places_handed room others_room handed) (retract_edit es) in
    (told (without_value r), run_after r es)
model_open room others_room (call.Seal handed) es =
    let r = unless_short (places_handed room others_room handed) (seal_edit es) in
    (told (without_value r), record { run = es; is_sealed = is_ok r })
model_open room others_room _ es = (Barred, record { run = es; is_sealed = false })

-- event i of a sealed record
abbrev pub event_answer : List Event → ℕ → Answer
event_answer es i = if nat_le 1 i && nat_le i (length es) then Shown (at es i) else NotShown (NoEvent i)

-- what a sealed record that shows the run es answers
abbrev pub sealed_answer : List Event → Call → Answer
sealed_answer es call.Reopen = Done
sealed_answer es call.Count = Counted (length es)
sealed_answer es (call.Event i) = event_answer es i
sealed_answer es _ = Barred

abbrev pub is_reopen : Call → Bool
is_reopen call.Reopen = true
is_reopen _ = false

-- a call of a sealed record
abbrev pub model_sealed : Call → List Event → Answer × Reference
model_sealed c es = (sealed_answer es c, record { run = es; is_sealed = not (is_reopen c) })

-- the model over two memories of which it knows only how many places they have: the record's own, and the other
abbrev pub model_step : ℕ → ℕ → Step Reference
model_step room others_room c s = if s.is_sealed then model_sealed c s.run else model_open room others_room c s.run
