-- A record keeps to the reference model, call by call.
use Rattle.std.proofs.Common.{◌≡◌, ℕ, zero, suc, ◌+◌, ◌-◌, ◌<◌, ◌≤◌, min, Bool, true, false, List, [], ◌∷◌, length, take, drop, map, Ok, Err, refl, sym, ap, ◌∙◌, arith}
use Rattle.std.proofs.lemmas.Bool.{cond_both}
use Rattle.std.proofs.lemmas.Bool.Decides.{nat_tests}
use Rattle.std.proofs.lemmas.List.{length-take, length-drop, length-set, length_push, take-take, take_more_set, map_push, map-set, take-map, get_or-take}
use Rattle.std.proofs.Math.Seq.{take-set-lt}
use Rattle.std.specs.Prelude.{nat_lt}
use Rattle.std.specs.List.{range_with_len}
use Rattle.events.specs.Limits.{max_events}
use Rattle.events.specs.Raw.{raw_of}
use Rattle.events.specs.Run.{at}
use Rattle.events.specs.declared.event.Event.{Event as EventOf}
use Rattle.events.specs.declared.raw.RawEvent.{RawEvent}
use Rattle.recorder.specs.Places.{events_of, events_in, no_place, place_of}
use Rattle.recorder.specs.Edits.{Edited, unlinked, note_edit, link_edit, retract_edit, seal_edit}
use Rattle.recorder.specs.Record.{on_record, with_number, without_value, obeyed_or, with_place, with_link}
use Rattle.recorder.proofs.Runs.{OpenRun}
use Rattle.sessions.specs.Handed.{handed_to, places_handed}
use Rattle.sessions.specs.Calls.{Step, call_at, after, answer_after, answers_to, told, told_number}
use Rattle.sessions.specs.Reference.{Reference, fresh, unless_short, run_after, model_sealed as on_sealed_list, model_step, sealed_answer}
use Rattle.sessions.specs.Replay.{Kept, opened, run_in, record_open, record_sealed, record_step, KeepsToReference}
use Rattle.recorder.specs.declared.fault.RecordFault.TheVariants.{ShortMemory}
use Rattle.sessions.specs.declared.handed.ShortPart.{ShortPart}
use Rattle.sessions.specs.declared.handed.Handed.{Handed}
use Rattle.sessions.specs.declared.handed.Handed.TheVariants.{Own, Other}
use Rattle.sessions.specs.declared.calls.Call.{Call}
use Rattle.sessions.specs.declared.calls.Call.TheVariants.{Note, Link, Retract, Seal, Reopen, Count, Event}
use Rattle.sessions.specs.declared.calls.Answer.{Answer}
use Rattle.recorder.proofs.Undamaged.{shown_raw, place_raw, raw_whole}
use Rattle.recorder.proofs.Refusals.{whole_held}
use Rattle.sessions.proofs.Obeyed.{Appended, Linked, Retracted, noted_ok, linked_ok, retracted_ok, sealed_ok}
use Rattle.sessions.proofs.OpenRuns.{open_none, numbers, open_appended, open_linked, open_retracted}

-- the memory holds the run es
pub record Holds (n : ℕ) (memory : List RawEvent) (es : List EventOf) : Type 0 where
  pub count : n ≡ length es
  pub run : OpenRun es
  pub places : take n memory ≡ map raw_of es

pub holds_none : (memory : List RawEvent) → Holds 0 memory []
holds_none memory = record { count = refl; run = open_none; places = refl }

-- what a call finds that is handed a part of the memory
held_part : (n p : ℕ) (memory : List RawEvent) (es : List EventOf) → Holds n memory es → max_events ≤ length (take p memory) → events_in n (take p memory) ≡ Ok es
held_part n p memory es h long =
    let few : n ≤ max_events = omega (arith, h.count, h.run.few) in
    let same : take n (take p memory) ≡ map raw_of es = take-take n p memory (omega (arith, length-take p memory)) ∙ h.places in
    whole_held n (take p memory) (raw_whole n (take p memory) few es long h.run same) ∙ ap Ok (ap events_of same ∙ shown_raw es)

on_own : (n p : ℕ) (memory : List RawEvent) (es : List EventOf) (edit : List EventOf → Edited) → Holds n memory es → on_record n (take p memory) edit ≡ unless_short (min p (length memory)) (edit es)
on_own n p memory es edit h =
    let size : length (take p memory) ≡ min p (length memory) = length-take p memory in
    cond_both (nat_lt (min p (length memory)) max_events) (Err ShortMemory) (edit es) (λ r. on_record n (take p memory) edit ≡ r)
    (λ less. grind (arith, nat_tests))
    (λ no. let here = held_part n p memory es h (grind (arith, nat_tests)) in grind arith)

-- and what it finds that is handed memory with too few places
pub on_short : (n : ℕ) (part : List RawEvent) (edit : List EventOf → Edited) → length part < max_events → on_record n part edit ≡ Err ShortMemory
on_short n part edit less = grind (arith, nat_tests)

pub part_size : (p : ShortPart) (others : List RawEvent) → length (take p.places (drop p.from others)) ≡ min p.places (length others - p.from)
part_size p others = length-take p.places (drop p.from others) ∙ ap (min p.places) (length-drop p.from others)

on_other : (n : ℕ) (p : ShortPart) (others : List RawEvent) (es : List EventOf) (edit : List EventOf → Edited) → on_record n (take p.places (drop p.from others)) edit ≡ unless_short (min p.places (length others - p.from)) (edit es)
on_other n p others es edit =
    let less : min p.places (length others - p.from) < max_events = omega (arith, p.short) in
    on_short n (take p.places (drop p.from others)) edit (omega (arith, part_size p others)) ∙ grind (arith, nat_tests)

-- so a call is refused for the number of its places, or does to the events what it says
pub on_handed : (n : ℕ) (d : Handed) (memory others : List RawEvent) (es : List EventOf) (edit : List EventOf → Edited) → Holds n memory es → on_record n (handed_to d memory others) edit ≡ unless_short (places_handed (length memory) (length others) d) (edit es)
on_handed n (Own p) memory others es edit h = on_own n p memory es edit h
on_handed n (Other p) memory others es edit h = on_other n p others es edit

-- a call that is handed enough is handed the record's own memory
long_own : (d : Handed) (room others_room : ℕ) → max_events ≤ places_handed room others_room d → max_events ≤ room
long_own (Own p) room others_room long = omega arith
long_own (Other p) room others_room long = absurd (omega (arith, p.short))

-- what an obeyed call writes
note_holds : (n : ℕ) (memory : List RawEvent) (es now : List EventOf) (x : RawEvent) → Holds n memory es → x.writer ≡ 0 → Appended x es now → n < length memory → Holds (n + 1) (with_place memory (n + 1) x) now
note_holds n memory es now x h unlinked a room =
    record {
      count = ap (λ k. k + 1) h.count ∙ sym (length_push es a.event) ∙ ap length (sym a.last);
      run = open_appended es h.run x now a unlinked;
      places =
          let one : n + 1 - 1 ≡ n = omega arith in
          rw (one, take_more_set memory n x room, h.places, a.last, map_push raw_of es a.event, numbers es h.run x now a unlinked) refl;
    }

link_holds : (n : ℕ) (memory : List RawEvent) (es now : List EventOf) (i w : ℕ) → Holds n memory es → Linked i w es now → Holds n (with_link memory i w) now
link_holds n memory es now i w h l =
    record {
      count = h.count ∙ sym (ap length l.gives ∙ length-set es (i - 1) _);
      run = open_linked es h.run i w now l;
      places =
          let inside : i - 1 < n = omega (arith, h.count, l.load.0) in
          let here : place_of memory i ≡ raw_of (at es i) = sym (get_or-take n memory (i - 1) no_place inside) ∙ ap (λ ps. place_of ps i) h.places ∙ place_raw es i l.load.0 in
          rw (take-set-lt n memory (i - 1) (record (place_of memory i) { writer = w }) inside, h.places, here, l.gives, map-set raw_of es (i - 1) (record (at es i) { writer = w })) refl;
    }

retract_holds : (n : ℕ) (memory : List RawEvent) (es now : List EventOf) → Holds n memory es → Retracted es now → Holds (n - 1) memory now
retract_holds n memory es now h t =
    record {
      count = omega (arith, h.count, ap length t.rest, length-take {A = EventOf});
      run = open_retracted es h.run now t;
      places =
          sym (take-take (n - 1) n memory (omega arith)) ∙ ap (take (n - 1)) h.places ∙ take-map raw_of (n - 1) es
          ∙ rw h.count (ap (map raw_of) (sym t.rest));
    }

pub given_ok : (k : ℕ) (q : Edited) (now : List EventOf) → unless_short k q ≡ Ok now → (max_events ≤ k) × (q ≡ Ok now)
given_ok k q now is = grind (arith, nat_tests)

-- a record that is sealed shows the events in the memory, and all of them
pub sealed_run : (n : ℕ) (d : Handed) (memory others : List RawEvent) (es now : List EventOf) → Holds n memory es → on_record n (handed_to d memory others) seal_edit ≡ Ok now → (now ≡ events_of (take n memory)) × (length now ≡ n)
sealed_run n d memory others es now h is =
    let given_is : unless_short (places_handed (length memory) (length others) d) (seal_edit es) ≡ Ok now = sym (on_handed n d memory others es seal_edit h) ∙ is in
    let same = sealed_ok es now (given_ok _ (seal_edit es) now given_is).1 in
    (same ∙ sym (ap events_of h.places ∙ shown_raw es), ap length same ∙ sym h.count)

-- the record and the model hold the same
pub record Same (room : ℕ) (s : Kept) (t : Reference) : Type 0 where
  pub holds : Holds s.count s.memory t.run
  pub long : length s.memory ≡ room
  pub sealing : s.is_sealed ≡ t.is_sealed

-- and still do after a call, with the same answer
abbrev SameAfter : ℕ → Answer × Kept → Answer × Reference → Type 0
SameAfter room a b = (a.0 ≡ b.0) × Same room a.1 b.1

module _ (others : List RawEvent) (n : ℕ) (memory : List RawEvent) (es : List EventOf) (h : Holds n memory es) where
  abbrev room : ℕ
  room = length memory

  abbrev others_room : ℕ
  others_room = length others

  abbrev s : Kept
  s = record { count = n; memory = memory; is_sealed = false }

  abbrev t : Reference
  t = record { run = es; is_sealed = false }

  note_same : (x : RawEvent) (r : Edited) → ((now : List EventOf) → r ≡ Ok now → Holds (n + 1) (with_place memory (n + 1) x) now) → SameAfter room (told_number (with_number (n + 1) r), record { count = obeyed_or r (n + 1) n; memory = obeyed_or r (with_place memory (n + 1) x) memory; is_sealed = false }) (told_number (with_number (length es + 1) r), run_after r es)
  note_same x (Ok now) writes = (ap (λ k. told_number (with_number (k + 1) (Ok now))) h.count, record { holds = writes now refl; long = length-set memory (n + 1 - 1) x; sealing = refl })
  note_same x (Err f) writes = (refl, record { holds = h; long = refl; sealing = refl })

  link_same : (i w : ℕ) (r : Edited) → ((now : List EventOf) → r ≡ Ok now → Holds n (with_link memory i w) now) → SameAfter room (told (without_value r), record { count = n; memory = obeyed_or r (with_link memory i w) memory; is_sealed = false }) (told (without_value r), run_after r es)
  link_same i w (Ok now) writes = (refl, record { holds = writes now refl; long = length-set memory (i - 1) _; sealing = refl })
  link_same i w (Err f) writes = (refl, record { holds = h; long = refl; sealing = refl })

  retract_same : (r : Edited) → ((now : List EventOf) → r ≡ Ok now → Holds (n - 1) memory now) → SameAfter room (told (without_value r), record { count = obeyed_or r (n - 1) n; memory = memory; is_sealed = false }) (told (without_value r), run_after r es)
  retract_same (Ok now) writes = (refl, record { holds = writes now refl; long = refl; sealing = refl })
  retract_same (Err f) writes = (refl, record { holds = h; long = refl; sealing = refl })

  -- a call that is handed this memory
  module _ (d : Handed) where
    abbrev given : Edited → Edited
    given = unless_short (places_handed room others_room d)

    finds : (edit : List EventOf → Edited) → on_record n (handed_to d memory others) edit ≡ given (edit es)
    finds edit = on_handed n d memory others es edit h

    long : (r : Edited) (now : List EventOf) → given r ≡ Ok now → max_events ≤ length memory
    long r now is = long_own d room others_room (given_ok (places_handed room others_room d) r now is).0

    allowed : (r : Edited) (now : List EventOf) → given r ≡ Ok now → r ≡ Ok now
    allowed r now is = (given_ok (places_handed room others_room d) r now is).1

  open_same : (c : Call) → SameAfter room (record_open others c s) (model_step room others_room c t)
  open_same (Note d k o m l) =
      let x = unlinked k o m l in
      rw (finds d (note_edit x)) (note_same x (given d (note_edit x es)) (λ now is.
      let a = noted_ok x es now (allowed d (note_edit x es) now is) in
      note_holds n memory es now x h refl a (omega (arith, h.count, a.room, long d (note_edit x es) now is))))
  open_same (Link d i w) = rw (finds d (link_edit i w)) (link_same i w (given d (link_edit i w es)) (λ now is. link_holds n memory es now i w h (linked_ok i w es now (allowed d (link_edit i w es) now is))))
  open_same (Retract d) = rw (finds d retract_edit) (retract_same (given d (retract_edit es)) (λ now is. retract_holds n memory es now h (retracted_ok es now (allowed d (retract_edit es) now is))))
  open_same (Seal d) = rw (finds d seal_edit) (refl, record { holds = h; long = refl; sealing = refl })
  open_same Reopen = (refl, record { holds = h; long = refl; sealing = refl })
  open_same Count = (refl, record { holds = h; long = refl; sealing = refl })
  open_same (Event i) = (refl, record { holds = h; long = refl; sealing = refl })

-- the events that the record shows are the model's
pub shows_run : (room : ℕ) (s : Kept) (t : Reference) → Same room s t → run_in s ≡ t.run
shows_run places s t same = ap events_of same.holds.places ∙ shown_raw t.run

sealed_same : (others : List RawEvent) (room : ℕ) (s : Kept) (t : Reference) (c : Call) → Same room s t → SameAfter room (record_sealed others c s) (on_sealed_list c t.run)
sealed_same others places s t c same = (ap (λ es. sealed_answer es c) (shows_run places s t same), record { holds = same.holds; long = same.long; sealing = refl })

module _ (others : List RawEvent) (places : ℕ) where
  same_parts : (n : ℕ) (memory : List RawEvent) (b : Bool) (es : List EventOf) (e : Bool) (c : Call) → let s : Kept = record { count = n; memory = memory; is_sealed = b } in let t : Reference = record { run = es; is_sealed = e } in Same places s t → SameAfter places (record_step others c s) (model_step places (length others) c t)
  same_parts n memory true es true c same = sealed_same others places _ _ c same
  same_parts n memory false es false c same = rw (← same.long) (open_same others n memory es same.holds c)
  same_parts n memory true es false c same = absurd (grind (arith, same.sealing))
  same_parts n memory false es true c same = absurd (grind (arith, same.sealing))

  same_step : (s : Kept) (t : Reference) (c : Call) → Same places s t → SameAfter places (record_step others c s) (model_step places (length others) c t)
  same_step s t c same = same_parts s.count s.memory s.is_sealed t.run t.is_sealed c same

map_alike : {A B : Type 0} (f g : A → B) → ((x : A) → f x ≡ g x) → (xs : List A) → map f xs ≡ map g xs
map_alike f g same [] = refl
map_alike f g same (x ∷ xs) = rw (same x, map_alike f g same xs) refl

-- so any calls leave both the same
module _ (calls : List Call) (memory others : List RawEvent) where
  abbrev by_record : Step Kept
  by_record = record_step others

  abbrev by_model : Step Reference
  by_model = model_step (length memory) (length others)

  pub same_after : (n : ℕ) → Same (length memory) (after by_record (opened memory) calls n) (after by_model fresh calls n)
  same_after zero = record { holds = holds_none memory; long = refl; sealing = refl }
  same_after (suc n) = (same_step others (length memory) _ _ (call_at calls n) (same_after n)).1

  pub same_answer : (n : ℕ) → answer_after by_record (opened memory) calls n ≡ answer_after by_model fresh calls n
  same_answer n = (same_step others (length memory) _ _ (call_at calls n) (same_after n)).0

  pub same_answers : (n : ℕ) → answers_to by_record (opened memory) calls n ≡ answers_to by_model fresh calls n
  same_answers n = map_alike _ _ same_answer (range_with_len 0 n)

  pub keeps : KeepsToReference calls memory others
  keeps =
      record {
        answers = same_answers;
        is_sealed = λ n. (same_after n).sealing;
        run = λ n. shows_run (length memory) _ _ (same_after n);
      }
