-- What a call does to the events of the reference model, by the call and its answer.
use Rattle.std.proofs.Common.{◌≡◌, ◌≢◌, ℕ, ◌+◌, ◌-◌, ◌<◌, Bool, true, false, List, ◌∷◌, ◌++◌, [], length, take, Ok, Err, refl, sym, ap}
use Rattle.events.specs.Events.{kind_number, mode_number}
use Rattle.events.specs.Run.{Within}
use Rattle.events.specs.declared.event.Event.{Event as EventOf}
use Rattle.events.proofs.Fields.{checked_legal}
use Rattle.recorder.specs.Edits.{Edited, unlinked, note_edit, link_edit, with_writer, retract_edit}
use Rattle.recorder.specs.Record.{with_number, without_value}
use Rattle.sessions.specs.Handed.{places_handed}
use Rattle.sessions.specs.declared.handed.Handed.{Handed}
use Rattle.sessions.specs.Calls.{told, told_number}
use Rattle.sessions.specs.Reference.{Reference, unless_short, run_after, model_step, model_open, model_sealed}
use Rattle.sessions.specs.History.{count_step}
use Rattle.sessions.specs.declared.calls.Call.{Call}
use Rattle.sessions.specs.declared.calls.Call.TheVariants.{Note, Link, Retract, Seal, Reopen, Count, Event}
use Rattle.sessions.specs.declared.calls.Answer.{Answer}
use Rattle.sessions.specs.declared.calls.Answer.TheVariants.{Noted, Done}
use Rattle.sessions.proofs.Obeyed.{Appended, Linked, Retracted, noted_ok, linked_ok, retracted_ok}
use Rattle.sessions.proofs.Keeping.{given_ok}

pub data Change (c : Call) (a : Answer) (run now : List EventOf) : Type 0 where
  adds : (handed : Handed) (e : EventOf) → c ≡ Note handed e.thread (kind_number e.kind) (mode_number e.mode) e.location → a ≡ Noted (length run + 1) → e.writer ≡ 0 → now ≡ run ++ e ∷ [] → Change c a run now
  gives : (handed : Handed) (i w : ℕ) → c ≡ Link handed i w → a ≡ Done → Within run i → now ≡ with_writer run i w → Change c a run now
  drops : (handed : Handed) → c ≡ Retract handed → a ≡ Done → 0 < length run → now ≡ take (length run - 1) run → Change c a run now
  leaves : ((n : ℕ) → count_step c a n ≡ n) → ((handed : Handed) (i w : ℕ) → c ≡ Link handed i w → a ≢ Done) → now ≡ run → Change c a run now

note_change : (p : Handed) (t k m l : ℕ) (es : List EventOf) (r : Edited) → ((now : List EventOf) → r ≡ Ok now → Appended (unlinked t k m l) es now) → Change (Note p t k m l) (told_number (with_number (length es + 1) r)) es (run_after r es).run
note_change p t k m l es (Ok now) says =
    let a = says now refl in
    let x = (checked_legal (unlinked t k m l) a.event a.passes).1 in
    let called : Note p t k m l ≡ Note p a.event.thread (kind_number a.event.kind) (mode_number a.event.mode) a.event.location = ap (λ y. Note p y.thread y.kind y.mode y.location) (sym x) in
    adds p a.event called refl (ap (λ y. y.writer) x) a.last
note_change p t k m l es (Err f) says = leaves (λ n. refl) (λ q i w no. cc) refl

link_change : (p : Handed) (i w : ℕ) (es : List EventOf) (r : Edited) → ((now : List EventOf) → r ≡ Ok now → Linked i w es now) → Change (Link p i w) (told (without_value r)) es (run_after r es).run
link_change p i w es (Ok now) says = let l = says now refl in gives p i w refl refl l.load.0 l.gives
link_change p i w es (Err f) says = leaves (λ n. refl) (λ q j v is done. cc) refl

retract_change : (p : Handed) (es : List EventOf) (r : Edited) → ((now : List EventOf) → r ≡ Ok now → Retracted es now) → Change (Retract p) (told (without_value r)) es (run_after r es).run
retract_change p es (Ok now) says = let t = says now refl in drops p refl refl t.some t.rest
retract_change p es (Err f) says = leaves (λ n. refl) (λ q i w no. cc) refl

open_change : (room others_room : ℕ) (c : Call) (es : List EventOf) → Change c (model_open room others_room c es).0 es (model_open room others_room c es).1.run
open_change room others_room (Note p t k m l) es = note_change p t k m l es (unless_short (places_handed room others_room p) (note_edit (unlinked t k m l) es)) (λ now is. noted_ok _ es now (given_ok _ _ now is).1)
open_change room others_room (Link p i w) es = link_change p i w es (unless_short (places_handed room others_room p) (link_edit i w es)) (λ now is. linked_ok i w es now (given_ok _ _ now is).1)
open_change room others_room (Retract p) es = retract_change p es (unless_short (places_handed room others_room p) (retract_edit es)) (λ now is. retracted_ok es now (given_ok _ _ now is).1)
open_change room others_room (Seal p) es = leaves (λ n. refl) (λ q i w no. cc) refl
open_change room others_room Reopen es = leaves (λ n. refl) (λ q i w no. cc) refl
open_change room others_room Count es = leaves (λ n. refl) (λ q i w no. cc) refl
open_change room others_room (Event i) es = leaves (λ n. refl) (λ q j w no. cc) refl

sealed_change : (c : Call) (es : List EventOf) → Change c (model_sealed c es).0 es (model_sealed c es).1.run
sealed_change (Note p t k m l) es = leaves (λ n. refl) (λ q i w no. cc) refl
sealed_change (Link p i w) es = leaves (λ n. refl) (λ q j v is done. cc) refl
sealed_change (Retract p) es = leaves (λ n. refl) (λ q i w no. cc) refl
sealed_change (Seal p) es = leaves (λ n. refl) (λ q i w no. cc) refl
sealed_change Reopen es = leaves (λ n. refl) (λ q i w no. cc) refl
sealed_change Count es = leaves (λ n. refl) (λ q i w no. cc) refl
sealed_change (Event i) es = leaves (λ n. refl) (λ q j w no. cc) refl

change_by : (room others_room : ℕ) (c : Call) (es : List EventOf) (b : Bool) → let t : Reference = record { run = es; is_sealed = b } in Change c (model_step room others_room c t).0 es (model_step room others_room c t).1.run
change_by room others_room c es true = sealed_change c es
change_by room others_room c es false = open_change room others_room c es

pub change : (room others_room : ℕ) (c : Call) (t : Reference) → Change c (model_step room others_room c t).0 t.run (model_step room others_room c t).1.run
change room others_room c t = change_by room others_room c t.run t.is_sealed
