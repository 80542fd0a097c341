-- What the reference model answers to the questions.
use Rattle.std.proofs.Common.{◌≡◌, ◌≢◌, ℕ, ◌<◌, Bool, true, false, List, length, Ok, Err, Result, refl, sym, ap, ◌∙◌, arith}
use Rattle.std.proofs.lemmas.Bool.Decides.{nat_tests}
use Rattle.std.specs.Prelude.{◌↔◌}
use Rattle.events.specs.Run.{at, Within}
use Rattle.events.specs.declared.event.Event.{Event as EventOf}
use Rattle.executions.specs.declared.fault.CheckerFault.{CheckerFault}
use Rattle.executions.specs.declared.fault.CheckerFault.TheVariants.{NoEvent}
use Rattle.recorder.specs.declared.fault.RecordFault.{RecordFault}
use Rattle.sessions.specs.Calls.{call_at, answer_at, after, answer_after, told, told_number}
use Rattle.sessions.specs.Reference.{Reference, fresh, model_step, model_open, model_sealed, event_answer}
use Rattle.sessions.specs.History.{IsSealed, Stands, HoldsWhatStands, TellsWhatStands}
use Rattle.sessions.specs.declared.calls.Call.{Call}
use Rattle.sessions.specs.declared.calls.Call.TheVariants.{Note, Link, Retract, Seal, Reopen, Count, Event}
use Rattle.sessions.specs.declared.calls.Answer.{Answer}
use Rattle.sessions.specs.declared.calls.Answer.TheVariants.{Noted, Done, Refused, Barred, Counted, Shown, NotShown}
use Rattle.sessions.proofs.Seals.{sealed_as_model}
use Rattle.sessions.proofs.Histories.{model_holds_what_stands}

-- an answer that tells nothing of the events
record Untold (a : Answer) : Type 0 where
  count : (n : ℕ) → a ≢ Counted n
  event : (e : EventOf) → a ≢ Shown e
  none : (f : CheckerFault) → a ≢ NotShown f

-- what a call is told, by the call, the events and the seal
data Reply (c : Call) (a : Answer) (es : List EventOf) (seal : Bool) : Type 0 where
  count : c ≡ Count → seal ≡ true → a ≡ Counted (length es) → Reply c a es seal
  event : (i : ℕ) → c ≡ Event i → seal ≡ true → Within es i → a ≡ Shown (at es i) → Reply c a es seal
  hidden : (i : ℕ) → c ≡ Event i → seal ≡ true → ¬ Within es i → a ≡ NotShown (NoEvent i) → Reply c a es seal
  other : Untold a → (c ≡ Count → seal ≢ true) → ((i : ℕ) → c ≡ Event i → seal ≢ true) → Reply c a es seal

untold_number : (r : Result ℕ RecordFault) → Untold (told_number r)
untold_number (Ok n) = record { count = λ n is. cc; event = λ e is. cc; none = λ f is. cc }
untold_number (Err f) = record { count = λ n is. cc; event = λ e is. cc; none = λ f is. cc }

untold : (r : Result (Unit {0}) RecordFault) → Untold (told r)
untold (Ok u) = record { count = λ n is. cc; event = λ e is. cc; none = λ f is. cc }
untold (Err f) = record { count = λ n is. cc; event = λ e is. cc; none = λ f is. cc }

barred : Untold Barred
barred = record { count = λ n is. cc; event = λ e is. cc; none = λ f is. cc }

done : Untold Done
done = record { count = λ n is. cc; event = λ e is. cc; none = λ f is. cc }

open_reply : (room others_room : ℕ) (c : Call) (es : List EventOf) → Reply c (model_open room others_room c es).0 es false
open_reply room others_room (Note p t k m l) es = other (untold_number _) (λ is yes. cc) (λ i is yes. cc)
open_reply room others_room (Link p i w) es = other (untold _) (λ is yes. cc) (λ j is yes. cc)
open_reply room others_room (Retract p) es = other (untold _) (λ is yes. cc) (λ i is yes. cc)
open_reply room others_room (Seal p) es = other (untold _) (λ is yes. cc) (λ i is yes. cc)
open_reply room others_room Reopen es = other barred (λ is yes. cc) (λ i is yes. cc)
open_reply room others_room Count es = other barred (λ is yes. cc) (λ i is yes. cc)
open_reply room others_room (Event i) es = other barred (λ is yes. cc) (λ j is yes. cc)

event_reply : (es : List EventOf) (i : ℕ) (a : Answer) → event_answer es i ≡ a → Reply (Event i) a es true
event_reply es i (Shown e) is = event i refl refl (grind (arith, nat_tests)) (grind arith)
event_reply es i (NotShown f) is = hidden i refl refl (grind (arith, nat_tests)) (grind arith)
event_reply es i (Counted n) is = absurd (grind arith)
event_reply es i (Noted n) is = absurd (grind arith)
event_reply es i Done is = absurd (grind arith)
event_reply es i (Refused f) is = absurd (grind arith)
event_reply es i Barred is = absurd (grind arith)

sealed_reply : (c : Call) (es : List EventOf) → Reply c (model_sealed c es).0 es true
sealed_reply Count es = count refl refl refl
sealed_reply (Event i) es = event_reply es i _ refl
sealed_reply Reopen es = other done (λ is yes. cc) (λ i is yes. cc)
sealed_reply (Note p t k m l) es = other barred (λ is yes. cc) (λ i is yes. cc)
sealed_reply (Link p j w) es = other barred (λ is yes. cc) (λ i is yes. cc)
sealed_reply (Retract p) es = other barred (λ is yes. cc) (λ i is yes. cc)
sealed_reply (Seal p) es = other barred (λ is yes. cc) (λ i is yes. cc)

reply_by : (room others_room : ℕ) (c : Call) (es : List EventOf) (b : Bool) → let t : Reference = record { run = es; is_sealed = b } in Reply c (model_step room others_room c t).0 es b
reply_by room others_room c es true = sealed_reply c es
reply_by room others_room c es false = open_reply room others_room c es

reply : (room others_room : ℕ) (c : Call) (t : Reference) → Reply c (model_step room others_room c t).0 t.run t.is_sealed
reply room others_room c t = reply_by room others_room c t.run t.is_sealed

module _ (calls : List Call) (answers : List Answer) (k : ℕ) (es : List EventOf) (seal : Bool) (stand : HoldsWhatStands calls answers k es) (sealing : IsSealed calls answers k ↔ (seal ≡ true)) where
  -- an event that stands is in the run
  stands_in : (i : ℕ) (e : EventOf) → Stands calls answers k i e → Within es i × (at es i ≡ e)
  stands_in i e s = (stand.1 i e).1 s

  in_stands : (i : ℕ) → Within es i → Stands calls answers k i (at es i)
  in_stands i within = (stand.1 i (at es i)).0 (within, refl)

  tells : Reply (call_at calls k) (answer_at answers k) es seal → TellsWhatStands calls answers k
  tells (count c on a) =
      record {
        count = λ n. (
          λ is. (c, sealing.1 on, let same : Counted n ≡ Counted (length es) = sym is ∙ a in let long : n ≡ length es = cc in long ∙ stand.0),
          λ (asks, sealed, is). a ∙ ap Counted (stand.0 ∙ sym is),
        );
        event = λ e. (λ is. absurd (cc), λ (i, asks, sealed, stands). absurd (cc));
        none = λ f. (λ is. absurd (cc), λ (i, asks, sealed, never, is). absurd (cc));
      }
  tells (event j c on within a) =
      record {
        count = λ n. (λ is. absurd (cc), λ (asks, sealed, is). absurd (cc));
        event = λ e. (
          λ is. (j, c, sealing.1 on, let same : Shown e ≡ Shown (at es j) = sym is ∙ a in let here : at es j ≡ e = cc in rw here at (in_stands j within)),
          λ (i, asks, sealed, stands).
              let asked : Event j ≡ Event i = sym c ∙ asks in
              let same : j ≡ i = cc in
              a ∙ ap Shown (ap (at es) same ∙ (stands_in i e stands).1),
        );
        none = λ f. (
          λ is. absurd (cc),
          λ (i, asks, sealed, never, is).
              let asked : Event j ≡ Event i = sym c ∙ asks in
              let same : j ≡ i = cc in
              absurd (never _ (in_stands i (rw same at within))),
        );
      }
  tells (hidden j c on without a) =
      record {
        count = λ n. (λ is. absurd (cc), λ (asks, sealed, is). absurd (cc));
        event = λ e. (
          λ is. absurd (cc),
          λ (i, asks, sealed, stands).
              let asked : Event j ≡ Event i = sym c ∙ asks in
              let same : i ≡ j = cc in
              absurd (without (rw same at (stands_in i e stands).0)),
        );
        none = λ f. (
          λ is. (j, c, sealing.1 on, λ e s. without (stands_in j e s).0, let both : NotShown f ≡ NotShown (NoEvent j) = sym is ∙ a in cc),
          λ (i, asks, sealed, never, is).
              let asked : Event j ≡ Event i = sym c ∙ asks in
              let same : j ≡ i = cc in
              a ∙ ap (λ m. NotShown (NoEvent m)) same ∙ ap NotShown (sym is),
        );
      }
  tells (other none no_count no_event) =
      record {
        count = λ n. (λ is. absurd (none.count n is), λ (asks, sealed, is). absurd (no_count asks (sealing.0 sealed)));
        event = λ e. (λ is. absurd (none.event e is), λ (i, asks, sealed, stands). absurd (no_event i asks (sealing.0 sealed)));
        none = λ f. (λ is. absurd (none.none f is), λ (i, asks, sealed, never, is). absurd (no_event i asks (sealing.0 sealed)));
      }

pub model_tells_what_stands : (room others_room : ℕ) (calls : List Call) (answers : List Answer) (n : ℕ) (told : (k : ℕ) → k < n → answer_at answers k ≡ answer_after (model_step room others_room) fresh calls k) (k : ℕ) → k < n → TellsWhatStands calls answers k
model_tells_what_stands room others_room calls answers n told k low =
    tells calls answers k _ _ (model_holds_what_stands room others_room calls answers n told k (omega arith)) (sealed_as_model room others_room calls answers n told k (omega arith))
    (rw (told k low) (reply room others_room (call_at calls k) (after (model_step room others_room) fresh calls k)))
