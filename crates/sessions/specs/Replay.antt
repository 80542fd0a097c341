-- A record over its memory, beside other memory, as its calls are proved to treat both; and that it keeps to the reference model.
use Rattle.std.specs.Prelude.{◌≡◌, ℕ, ◌+◌, ◌-◌, Bool, false, not, List, length, take, is_ok, if◌then◌else◌}
use Rattle.events.specs.declared.event.Event.{Event}
use Rattle.events.specs.declared.raw.RawEvent.{RawEvent}
use Rattle.recorder.specs.Places.{events_of}
use Rattle.recorder.specs.Edits.{unlinked, note_edit, link_edit, retract_edit, seal_edit}
use Rattle.recorder.specs.Record.{on_record, with_number, without_value, obeyed_or, with_place, with_link}
use Rattle.sessions.specs.Handed.{handed_to}
use Rattle.sessions.specs.Calls.{Step, after, answers_to, told, told_number}
use Rattle.sessions.specs.Reference.{fresh, model_step, sealed_answer, is_reopen}
use Rattle.sessions.specs.declared.calls.Call.{Call}
use Rattle.sessions.specs.declared.calls.Call.TheVariants as call
use Rattle.sessions.specs.declared.calls.Answer.{Answer}
use Rattle.sessions.specs.declared.calls.Answer.TheVariants.{Barred}

-- a record: the number of its events, and whether it is sealed; and all of its own memory
pub record Kept : Type 0 where
  pub count : ℕ
  pub memory : List RawEvent
  pub is_sealed : Bool

-- a record as it is opened
abbrev pub opened : List RawEvent → Kept
opened memory = record { count = 0; memory = memory; is_sealed = false }

-- the events of the record
abbrev pub run_in : Kept → List Event
run_in s = events_of (take s.count s.memory)

-- beside the other memory, which no call writes: a part of it is too short for any call, so what is obeyed is over the record's own
module _ (others : List RawEvent) where
  -- a call of an open record
  abbrev pub record_open : Call → Kept → Answer × Kept
  record_open (call.Note handed t k m l) s =
      let x = unlinked t k m l in
      let r = on_record s.count (handed_to handed s.memory others) (note_edit x) in (
        told_number (with_number (s.count + 1) r),
        record {
          count = obeyed_or r (s.count + 1) s.count;
          memory = obeyed_or r (with_place s.memory (s.count + 1) x) s.memory;
          is_sealed = false;
        },
      )
  record_open (call.Link handed i w) s =
      let r = on_record s.count (handed_to handed s.memory others) (link_edit i w) in
      (told (without_value r), record { count = s.count; memory = obeyed_or r (with_link s.memory i w) s.memory; is_sealed = false })
  record_open (call.Retract handed) s =
      let r = on_record s.count (handed_to handed s.memory others) retract_edit in
      (told (without_value r), record { count = obeyed_or r (s.count - 1) s.count; memory = s.memory; is_sealed = false })
  record_open (call.Seal handed) s =
      let r = on_record s.count (handed_to handed s.memory others) seal_edit in
      (told (without_value r), record { count = s.count; memory = s.memory; is_sealed = is_ok r })
  record_open _ s = (Barred, s)

  -- a call of a sealed record
  abbrev pub record_sealed : Call → Kept → Answer × Kept
  record_sealed c s = (sealed_answer (run_in s) c, record { count = s.count; memory = s.memory; is_sealed = not (is_reopen c) })

  abbrev pub record_step : Step Kept
  record_step c s = if s.is_sealed then record_sealed c s else record_open c s

-- whatever the calls and the two memories: every answer is that of the reference model, and so is what the record holds, sealed or not
pub record KeepsToReference (calls : List Call) (memory others : List RawEvent) : Type 0 where
  pub answers :
      (n : ℕ) → answers_to (record_step others) (opened memory) calls n
      ≡ answers_to (model_step (length memory) (length others)) fresh calls n
  pub is_sealed :
      (n : ℕ) → (after (record_step others) (opened memory) calls n).is_sealed
      ≡ (after (model_step (length memory) (length others)) fresh calls n).is_sealed
  pub run :
      (n : ℕ) → run_in (after (record_step others) (opened memory) calls n)
      ≡ (after (model_step (length memory) (length others)) fresh calls n).run
