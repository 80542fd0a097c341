-- What holds where a call is obeyed.
use Rattle.std.proofs.Common.{◌≡◌, ◌≢◌, ℕ, ◌-◌, ◌<◌, not, ◌&&◌, ◌||◌, List, [], ◌∷◌, ◌++◌, length, take, Some, None, Ok, Err, Option, Result, refl, arith}
use Rattle.std.proofs.lemmas.Bool.{cond_both}
use Rattle.std.proofs.lemmas.Bool.Decides.{nat_tests}
use Rattle.std.specs.Prelude.{◌==◌, nat_lt, nat_le}
use Rattle.events.specs.Limits.{max_events}
use Rattle.events.specs.Events.{is_load}
use Rattle.events.specs.Raw.{checked}
use Rattle.events.specs.Run.{at, Load, MayRead, may_read}
use Rattle.events.specs.Graph.{Rf}
use Rattle.events.specs.declared.event.Event.{Event}
use Rattle.events.specs.declared.raw.RawEvent.{RawEvent}
use Rattle.events.specs.declared.raw.FieldFault.{FieldFault}
use Rattle.recorder.specs.Lowest.{lowest}
use Rattle.recorder.specs.Edits.{Edited, appended, note_edit, with_writer, link_edit, is_reader_of, without_last, retract_edit, complete, seal_edit, lacks_writer}
use Rattle.recorder.proofs.Lowest.{lowest_none}
use Rattle.recorder.proofs.Refusals.{Decides-may_read, Decides-reader}

-- the event with these numbers was appended
pub record Appended (x : RawEvent) (es now : List Event) : Type 0 where
  pub event : Event
  pub passes : checked x ≡ Ok event
  pub room : length es < max_events
  pub last : now ≡ es ++ event ∷ []

-- a load was given a writer that fits, or none
pub record Linked (i w : ℕ) (es now : List Event) : Type 0 where
  pub load : Load es i
  pub fits : w ≢ 0 → MayRead es w i
  pub gives : now ≡ with_writer es i w

-- the last event, from which no load reads, was dropped
pub record Retracted (es now : List Event) : Type 0 where
  pub some : 0 < length es
  pub unread : (r : ℕ) → ¬ Rf es (length es) r
  pub rest : now ≡ take (length es - 1) es

abbrev Obeyed : (List Event → Type 0) → Edited → Type 0
Obeyed P (Ok now) = P now
Obeyed P (Err f) = Unit {0}

obeyed : (P : List Event → Type 0) (r : Edited) (now : List Event) → Obeyed P r → r ≡ Ok now → P now
obeyed P r now o is = rw is at o

appended_ok : (x : RawEvent) (es : List Event) (r : Result Event FieldFault) → checked x ≡ r → Obeyed (Appended x es) (appended es r)
appended_ok x es (Ok e) is = cond_both (nat_lt (length es) max_events) _ _ (Obeyed (Appended x es)) (λ less. record { event = e; passes = is; room = grind (arith, nat_tests); last = refl }) (λ _. tt)
appended_ok x es (Err f) is = tt

pub noted_ok : (x : RawEvent) (es now : List Event) → note_edit x es ≡ Ok now → Appended x es now
noted_ok x es now is = obeyed _ _ now (appended_ok x es (checked x) refl) is

linked_if : (i w : ℕ) (es : List Event) → Obeyed (Linked i w es) (link_edit i w es)
linked_if i w es =
    cond_both (not (nat_le 1 i && nat_le i (length es))) _ _ (Obeyed (Linked i w es))
    (λ _. tt)
    (λ inside. cond_both (not (is_load (at es i).kind)) _ _ (Obeyed (Linked i w es))
    (λ _. tt)
    (λ load. cond_both (w == 0 || may_read es w i) _ _ (Obeyed (Linked i w es))
    (λ fits. record {
      load = (grind (arith, nat_tests), grind (arith, nat_tests));
      fits = λ some. (Decides-may_read es w i).0 (grind (arith, nat_tests));
      gives = refl;
    })
    (λ _. tt)))

pub linked_ok : (i w : ℕ) (es now : List Event) → link_edit i w es ≡ Ok now → Linked i w es now
linked_ok i w es now is = obeyed _ _ now (linked_if i w es) is

without_last_if : (es : List Event) (o : Option ℕ) → 0 < length es → lowest (is_reader_of es (length es)) (length es) ≡ o → Obeyed (Retracted es) (without_last es o)
without_last_if es None some is =
    record {
      some = some;
      unread = λ r reads. lowest_none _ _ _ (λ i low high. Decides-reader es (length es) i) is r reads.0.0.0 reads.0.0.1 reads;
      rest = refl;
    }
without_last_if es (Some i) some is = tt

retracted_if : (es : List Event) → Obeyed (Retracted es) (retract_edit es)
retracted_if es = cond_both (length es == 0) _ _ (Obeyed (Retracted es)) (λ _. tt) (λ some. without_last_if es _ (grind (arith, nat_tests)) refl)

pub retracted_ok : (es now : List Event) → retract_edit es ≡ Ok now → Retracted es now
retracted_ok es now is = obeyed _ _ now (retracted_if es) is

complete_ok : (es now : List Event) (o : Option ℕ) → complete es o ≡ Ok now → now ≡ es
complete_ok es now o is = grind arith

pub sealed_ok : (es now : List Event) → seal_edit es ≡ Ok now → now ≡ es
sealed_ok es now is = complete_ok es now (lowest (lacks_writer es) (length es)) is
