-- What a call writes in the part of the memory that it is handed, it writes in the memory.
use Rattle.std.proofs.Common.{◌≡◌, ℕ, ◌+◌, ◌-◌, ◌<◌, ◌≤◌, Bool, true, false, List, [], ◌++◌, length, min, take, drop, is_ok, Ok, Err, refl, sym, ap, ◌∙◌, arith}
use Rattle.std.proofs.lemmas.List.{set-append_left, take-append-drop, length-take, length-map, get_or-take}
use Rattle.std.specs.Prelude.{slice_set, if◌then◌else◌}
use Rattle.std.specs.Result.{result_unwrap_or}
use Rattle.events.specs.Limits.{max_events}
use Rattle.events.specs.declared.event.Event.{Event}
use Rattle.events.specs.declared.raw.RawEvent.{RawEvent}
use Rattle.recorder.specs.Places.{no_place, place_of, events_in}
use Rattle.recorder.specs.Edits.{Edited, note_edit, link_edit}
use Rattle.recorder.specs.Record.{and_then, on_record, obeyed_or, with_place, with_link}
use Rattle.events.proofs.Results.{ok_value}
use Rattle.recorder.proofs.Refusals.{Memory, memory_is}
use Rattle.sessions.proofs.Obeyed.{noted_ok, linked_ok}

part_set : (m : List RawEvent) (p i : ℕ) (x : RawEvent) → i < length (take p m) → slice_set (take p m) i x ++ drop p m ≡ slice_set m i x
part_set m p i x within = sym (set-append_left (take p m) (drop p m) i x within) ∙ ap (λ l. slice_set l i x) (take-append-drop p m)

part_link : (m : List RawEvent) (p i w : ℕ) → i - 1 < length (take p m) → with_link (take p m) i w ++ drop p m ≡ with_link m i w
part_link m p i w within = rw (get_or-take p m (i - 1) no_place (omega (arith, length-take {A = RawEvent}))) (part_set m p (i - 1) (record (place_of m i) { writer = w }) within)

part_or : (m : List RawEvent) (p : ℕ) (b : Bool) (new_part new : List RawEvent) → (b ≡ true → new_part ++ drop p m ≡ new) → (if b then new_part else take p m) ++ drop p m ≡ (if b then new else m)
part_or m p true new_part new is = is refl
part_or m p false new_part new is = take-append-drop p m

-- the events are as many as the record counts, if there are places for so many
held_count : (n : ℕ) (memory : List RawEvent) (es : List Event) → Memory n memory (Ok es) → (max_events ≤ length memory) × (length es ≡ min n (length memory))
held_count n memory es (whole, shows) = (whole.long, omega (arith, ap length shows, length-map {A = RawEvent} {B = Event}, length-take {A = RawEvent}))

-- where a call is obeyed, the events are those in the memory
record Found (n : ℕ) (memory : List RawEvent) (edit : List Event → Edited) : Type 0 where
  es : List Event
  now : List Event
  here : Memory n memory (Ok es)
  made : edit es ≡ Ok now

found_by : (n : ℕ) (memory : List RawEvent) (edit : List Event → Edited) (r : Edited) → Memory n memory r → is_ok (and_then edit r) ≡ true → Found n memory edit
found_by n memory edit (Ok es) m ok = record { es = es; now = result_unwrap_or (edit es) []; here = m; made = ok_value (edit es) [] ok }
found_by n memory edit (Err f) m ok = absurd (grind arith)

found : (n : ℕ) (memory : List RawEvent) (edit : List Event → Edited) → is_ok (on_record n memory edit) ≡ true → Found n memory edit
found n memory edit ok = found_by n memory edit (events_in n memory) (memory_is n memory) ok

-- so the place that the call writes is in the memory
module _ (n : ℕ) (memory : List RawEvent) where
  note_room : (x : RawEvent) → is_ok (on_record n memory (note_edit x)) ≡ true → n < length memory
  note_room x ok =
      let f = found n memory (note_edit x) ok in
      let count = held_count n memory f.es f.here in
      let room = (noted_ok x f.es f.now f.made).room in
      omega arith

  link_room : (i w : ℕ) → is_ok (on_record n memory (link_edit i w)) ≡ true → i - 1 < length memory
  link_room i w ok =
      let f = found n memory (link_edit i w) ok in
      let count = held_count n memory f.es f.here in
      let within = (linked_ok i w f.es f.now f.made).load.0 in
      omega arith

-- and the write to the part is one to the memory
module _ (n : ℕ) (memory : List RawEvent) (places : ℕ) where
  abbrev part : List RawEvent
  part = take places memory

  pub note_part : (x : RawEvent) → let r = on_record n part (note_edit x) in obeyed_or r (with_place part (n + 1) x) part ++ drop places memory ≡ obeyed_or r (with_place memory (n + 1) x) memory
  note_part x = part_or memory places (is_ok (on_record n part (note_edit x))) _ _ (λ ok. part_set memory places (n + 1 - 1) x (omega (arith, note_room n part x ok)))

  pub link_part : (i w : ℕ) → let r = on_record n part (link_edit i w) in obeyed_or r (with_link part i w) part ++ drop places memory ≡ obeyed_or r (with_link memory i w) memory
  link_part i w = part_or memory places _ _ _ (λ ok. part_link memory places i w (link_room n part i w ok))
