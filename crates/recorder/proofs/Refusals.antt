-- Each call is refused for exactly the reasons that are given in words.
use Rattle.std.proofs.Common.{◌≡◌, ℕ, ◌+◌, ◌≤◌, true, not, ◌&&◌, ◌||◌, List, length, take, Some, None, Ok, Err, Option, Result, refl, arith}
use Rattle.std.proofs.lemmas.Bool.{cond_both, false_from_ne_true}
use Rattle.std.proofs.lemmas.Bool.Decides.{nat_tests}
use Rattle.std.specs.Bool.{Decides}
use Rattle.std.specs.Result.{result_map_both}
use Rattle.std.specs.Prelude.{◌↔◌, ◌==◌, nat_lt, nat_le}
use Rattle.events.specs.Limits.{max_events}
use Rattle.events.specs.Events.{is_load}
use Rattle.events.specs.Raw.{checked, FirstField}
use Rattle.events.specs.Run.{at, Load, MayRead, may_read}
use Rattle.events.specs.Graph.{Rf}
use Rattle.events.specs.declared.event.Event.{Event}
use Rattle.events.specs.declared.raw.RawEvent.{RawEvent}
use Rattle.events.specs.declared.raw.FieldFault.{FieldFault}
use Rattle.events.proofs.Fields.{checks, checked_legal, legal_checked}
use Rattle.events.proofs.Numbers.{load_within, store_within}
use Rattle.recorder.specs.Lowest.{lowest}
use Rattle.recorder.specs.Places.{events_of, place_of, sound, first_damaged, events_in, undamaged}
use Rattle.recorder.specs.Edits.{Edited, appended, without_last, complete, note_edit, link_edit, retract_edit, seal_edit, is_reader_of, lacks_writer}
use Rattle.recorder.specs.Record.{on_record, with_number, without_value}
use Rattle.recorder.specs.Refusals.{IsDamaged, Whole, Refusal, NoteFault, LinkFault, RetractFault, SealFault, Refuses}
use Rattle.recorder.specs.Refusals.IsDamaged.{fields, writer}
use Rattle.recorder.specs.Refusals.Refusal.{short, damaged, asked}
use Rattle.recorder.specs.Refusals.NoteFault.{field, too_many}
use Rattle.recorder.specs.Refusals.LinkFault.{no_event, not_a_load, unfit}
use Rattle.recorder.specs.Refusals.RetractFault.{no_events, still_read}
use Rattle.recorder.specs.Refusals.SealFault.{no_writer}
use Rattle.recorder.specs.declared.fault.RecordFault.{RecordFault}
use Rattle.recorder.proofs.Lowest.{lowest_is, is_lowest, lowest_none, none_lowest}

pub Decides-may_read : (es : List Event) (w i : ℕ) → Decides (may_read es w i) (MayRead es w i)
Decides-may_read es w i = grind (arith, nat_tests, load_within es i, store_within es w)

pub fails_checked : (x : RawEvent) (f : FieldFault) → (checked x ≡ Err f) ↔ FirstField x f
fails_checked x f = (checks x (checked x) refl).fails f

damaged_by : (places : List RawEvent) (i : ℕ) (r : Result Event FieldFault) → checked (place_of places i) ≡ r → not (sound places i) ≡ true → IsDamaged places i
damaged_by places i (Err f) is bad = fields ((fails_checked _ f).0 is)
damaged_by places i (Ok e) is bad =
    writer
    (λ none. grind (arith, nat_tests))
    (λ reads. let yes = (Decides-may_read (events_of places) _ i).1 reads in grind (arith, nat_tests))

damaged_from : (places : List RawEvent) (i : ℕ) → not (sound places i) ≡ true → IsDamaged places i
damaged_from places i = damaged_by places i (checked (place_of places i)) refl

from_damaged : (places : List RawEvent) (i : ℕ) → IsDamaged places i → not (sound places i) ≡ true
from_damaged places i (fields {f} fault) = let is = (fails_checked (place_of places i) f).1 fault in grind (arith, nat_tests)
from_damaged places i (writer some never) = let no = false_from_ne_true _ (λ yes. never ((Decides-may_read (events_of places) _ i).0 yes)) in grind (arith, nat_tests)

-- the test of a place says whether it is damaged
pub Decides-damaged : (places : List RawEvent) (i : ℕ) → Decides (not (sound places i)) (IsDamaged places i)
Decides-damaged places i = (damaged_from places i, from_damaged places i)

pub Decides-reader : (es : List Event) (w i : ℕ) → Decides (is_reader_of es w i) (Rf es w i)
Decides-reader es w i = grind (arith, nat_tests, load_within es i)

pub Decides-lacks_writer : (es : List Event) (i : ℕ) → Decides (lacks_writer es i) (Load es i × ((at es i).writer ≡ 0))
Decides-lacks_writer es i = grind (arith, nat_tests, load_within es i)

-- what the memory comes to
abbrev pub Memory : ℕ → List RawEvent → Edited → Type 0
Memory n memory (Ok es) = Whole n memory × (es ≡ events_of (take n memory))
Memory n memory (Err f) = Refusal n memory (λ _ _. ⊥) f

undamaged_is : (n : ℕ) (memory : List RawEvent) (o : Option ℕ) → max_events ≤ length memory → first_damaged (take n memory) ≡ o → Memory n memory (undamaged (take n memory) o)
undamaged_is n memory None long is = (record { long = long; sound = lowest_none _ _ _ (λ i low high. Decides-damaged (take n memory) i) is }, refl)
undamaged_is n memory (Some i) long is = damaged long (lowest_is _ _ _ (λ j low high. Decides-damaged (take n memory) j) i is)

module _ (n : ℕ) (memory : List RawEvent) where
  pub memory_is : Memory n memory (events_in n memory)
  memory_is =
      cond_both (nat_lt (length memory) max_events) _ _ (Memory n memory)
      (λ less. short (grind (arith, nat_tests)))
      (λ no. undamaged_is n memory (first_damaged (take n memory)) (grind (arith, nat_tests)) refl)

  pub whole_held : Whole n memory → events_in n memory ≡ Ok (events_of (take n memory))
  whole_held w = let none = none_lowest _ _ _ (λ i low high. Decides-damaged (take n memory) i) w.sound in grind (arith, nat_tests, w.long)

  -- a call with a law of its own is refused as the law says, after the memory
  module _ (edit : List Event → Edited) (Fault : List Event → RecordFault → Type 0) (law : (es : List Event) → Refuses (Fault es) (edit es)) where
    widened : (f : RecordFault) → Refusal n memory (λ _ _. ⊥) f → Refusal n memory Fault f
    widened _ (short less) = short less
    widened _ (damaged long first) = damaged long first
    widened f (asked w never) = absurd never

    refused_as : (r : Edited) → events_in n memory ≡ r → Memory n memory r → (f : RecordFault) → on_record n memory edit ≡ Err f → Refusal n memory Fault f
    refused_as (Ok es) is m f e = let said = rw (is, m.1) at e in asked m.0 ((law (events_of (take n memory)) f).0 said)
    refused_as (Err g) is m f e = let said : g ≡ f = let one : Edited = Err g in grind arith in rw said at (widened g m)

    as_refused : (f : RecordFault) → Refusal n memory Fault f → on_record n memory edit ≡ Err f
    as_refused _ (short less) = grind (arith, nat_tests)
    as_refused _ (damaged {i} long first) = let is = is_lowest _ _ _ (λ j low high. Decides-damaged (take n memory) j) i first in grind (arith, nat_tests)
    as_refused f (asked w fault) = let all = whole_held w in let said = (law (events_of (take n memory)) f).1 fault in grind arith

    pub refuses_as : Refuses (Refusal n memory Fault) (on_record n memory edit)
    refuses_as f = (refused_as (events_in n memory) refl memory_is f, as_refused f)

-- what a refusal says is so
abbrev Says : (RecordFault → Type 0) → Edited → Type 0
Says Fault (Ok es) = Unit {0}
Says Fault (Err f) = Fault f

said : (Fault : RecordFault → Type 0) (r : Edited) (f : RecordFault) → Says Fault r → r ≡ Err f → Fault f
said Fault r f s e = rw e at s

-- the law of each call
appended_says : (x : RawEvent) (es : List Event) (r : Result Event FieldFault) → checked x ≡ r → Says (NoteFault x es) (appended es r)
appended_says x es (Ok e) is =
    cond_both (nat_lt (length es) max_events) _ _ (Says (NoteFault x es))
    (λ _. tt)
    (λ no. let legal = checked_legal x e is in too_many e legal.0 legal.1 (grind (arith, nat_tests)))
appended_says x es (Err f) is = field ((fails_checked x f).0 is)

note_fault : (x : RawEvent) (es : List Event) (f : RecordFault) → NoteFault x es f → note_edit x es ≡ Err f
note_fault x es _ (field {f} fault) = let is = (fails_checked x f).1 fault in grind arith
note_fault x es _ (too_many e legal raw long) = let is = legal_checked x e legal raw in grind (arith, nat_tests)

pub note_refuses : (x : RawEvent) (es : List Event) → Refuses (NoteFault x es) (note_edit x es)
note_refuses x es f = (said _ _ f (appended_says x es (checked x) refl), note_fault x es f)

linked_says : (i w : ℕ) (es : List Event) → Says (LinkFault i w es) (link_edit i w es)
linked_says i w es =
    cond_both (not (nat_le 1 i && nat_le i (length es))) _ _ (Says (LinkFault i w es))
    (λ out. no_event (λ within. grind (arith, nat_tests)))
    (λ inside. cond_both (not (is_load (at es i).kind)) _ _ (Says (LinkFault i w es))
    (λ other. not_a_load (grind (arith, nat_tests)) (grind (arith, nat_tests)))
    (λ load. cond_both (w == 0 || may_read es w i) _ _ (Says (LinkFault i w es))
    (λ _. tt)
    (λ no.
    let reads : Load es i = (grind (arith, nat_tests), grind (arith, nat_tests)) in
    unfit reads (grind (arith, nat_tests)) (λ fits. let yes = (Decides-may_read es w i).1 (reads, fits) in grind (arith, nat_tests)))))

link_fault : (i w : ℕ) (es : List Event) (f : RecordFault) → LinkFault i w es f → link_edit i w es ≡ Err f
link_fault i w es _ (no_event never) =
    let no = false_from_ne_true (nat_le 1 i && nat_le i (length es)) (λ yes. never (grind (arith, nat_tests))) in
    grind (arith, nat_tests)
link_fault i w es _ (not_a_load within is) = grind (arith, nat_tests)
link_fault i w es _ (unfit load some never) =
    let no = false_from_ne_true (may_read es w i) (λ yes. never ((Decides-may_read es w i).0 yes).1) in
    grind (arith, nat_tests)

pub link_refuses : (i w : ℕ) (es : List Event) → Refuses (LinkFault i w es) (link_edit i w es)
link_refuses i w es f = (said _ _ f (linked_says i w es), link_fault i w es f)

without_last_says : (es : List Event) (o : Option ℕ) → lowest (is_reader_of es (length es)) (length es) ≡ o → Says (RetractFault es) (without_last es o)
without_last_says es None is = tt
without_last_says es (Some i) is = still_read (lowest_is _ _ _ (λ j low high. Decides-reader es (length es) j) i is)

retracted_says : (es : List Event) → Says (RetractFault es) (retract_edit es)
retracted_says es =
    cond_both (length es == 0) _ _ (Says (RetractFault es))
    (λ none. no_events (grind (arith, nat_tests)))
    (λ some. without_last_says es _ refl)

retract_fault : (es : List Event) (f : RecordFault) → RetractFault es f → retract_edit es ≡ Err f
retract_fault es _ (no_events none) = grind (arith, nat_tests)
retract_fault es _ (still_read {i} first) = let is = is_lowest _ _ _ (λ j low high. Decides-reader es (length es) j) i first in grind (arith, nat_tests, first.is.0, first.is.1)

pub retract_refuses : (es : List Event) → Refuses (RetractFault es) (retract_edit es)
retract_refuses es f = (said _ _ f (retracted_says es), retract_fault es f)

complete_says : (es : List Event) (o : Option ℕ) → lowest (lacks_writer es) (length es) ≡ o → Says (SealFault es) (complete es o)
complete_says es None is = tt
complete_says es (Some i) is = no_writer (lowest_is _ _ _ (λ j low high. Decides-lacks_writer es j) i is)

seal_fault : (es : List Event) (f : RecordFault) → SealFault es f → seal_edit es ≡ Err f
seal_fault es _ (no_writer {i} first) = let is = is_lowest _ _ _ (λ j low high. Decides-lacks_writer es j) i first in grind (arith, nat_tests)

pub seal_refuses : (es : List Event) → Refuses (SealFault es) (seal_edit es)
seal_refuses es f = (said _ _ f (complete_says es _ refl), seal_fault es f)

err_back : {A : Type 0} (g : List Event → A) (r : Edited) (f : RecordFault) → result_map_both g (λ h. h) r ≡ Err f → r ≡ Err f
err_back g r f e = grind arith

-- an answer that is made of what the events come to is refused alike
pub answers_refuse : {A : Type 0} (Reason : RecordFault → Type 0) (g : List Event → A) (r : Edited) (a : Result A RecordFault) → a ≡ result_map_both g (λ f. f) r → Refuses Reason r → Refuses Reason a
answers_refuse Reason g r a is law f = (λ e. (law f).0 (err_back g r f (rw is at e)), λ why. let said = (law f).1 why in cc)

-- each call, with its memory
module _ (n : ℕ) (memory : List RawEvent) where
  pub note_told : (x : RawEvent) (a : Result ℕ RecordFault) → a ≡ with_number (n + 1) (on_record n memory (note_edit x)) → Refuses (Refusal n memory (NoteFault x)) a
  note_told x a is = answers_refuse _ _ _ a is (refuses_as n memory (note_edit x) (NoteFault x) (note_refuses x))

  pub link_told : (i w : ℕ) (a : Result (Unit {0}) RecordFault) → a ≡ without_value (on_record n memory (link_edit i w)) → Refuses (Refusal n memory (LinkFault i w)) a
  link_told i w a is = answers_refuse _ _ _ a is (refuses_as n memory (link_edit i w) (LinkFault i w) (link_refuses i w))

  pub retract_told : (a : Result (Unit {0}) RecordFault) → a ≡ without_value (on_record n memory retract_edit) → Refuses (Refusal n memory RetractFault) a
  retract_told a is = answers_refuse _ _ _ a is (refuses_as n memory retract_edit RetractFault retract_refuses)

  pub seal_told : (a : Result (Unit {0}) RecordFault) → a ≡ without_value (on_record n memory seal_edit) → Refuses (Refusal n memory SealFault) a
  seal_told a is = answers_refuse _ _ _ a is (refuses_as n memory seal_edit SealFault seal_refuses)
