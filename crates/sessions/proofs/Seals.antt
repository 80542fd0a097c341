-- The reference model is sealed exactly if one of the calls sealed it and none opened it again since.
use Rattle.std.proofs.Common.{◌≡◌, ◌≢◌, ℕ, zero, suc, ◌<◌, ◌≤◌, Bool, true, false, is_ok, List, Ok, Err, refl, sym, ◌∙◌, ◌⊎◌, inl, inr, arith}
use Rattle.std.proofs.lemmas.Bool.{cases_lt}
use Rattle.std.specs.Prelude.{◌↔◌}
use Rattle.events.specs.declared.event.Event.{Event as EventOf}
use Rattle.recorder.specs.Edits.{Edited, seal_edit}
use Rattle.recorder.specs.Record.{without_value}
use Rattle.sessions.specs.Handed.{places_handed}
use Rattle.sessions.specs.declared.handed.Handed.{Handed}
use Rattle.sessions.specs.Calls.{call_at, answer_at, after, answer_after, told}
use Rattle.sessions.specs.Reference.{Reference, fresh, unless_short, model_step, model_open, model_sealed}
use Rattle.sessions.specs.History.{Seals, Reopens, IsSealed}
use Rattle.sessions.proofs.Histories.{below_suc}
use Rattle.sessions.specs.declared.calls.Call.{Call}
use Rattle.sessions.specs.declared.calls.Call.TheVariants.{Note, Link, Retract, Seal, Reopen, Count, Event}
use Rattle.sessions.specs.declared.calls.Answer.{Answer}
use Rattle.sessions.specs.declared.calls.Answer.TheVariants.{Done}

-- what a call does to the seal, by the call and its answer
data Sealing (c : Call) (a : Answer) (was now : Bool) : Type 0 where
  seals : (handed : Handed) → c ≡ Seal handed → a ≡ Done → now ≡ true → Sealing c a was now
  reopens : c ≡ Reopen → a ≡ Done → now ≡ false → Sealing c a was now
  leaves : ((handed : Handed) → c ≡ Seal handed → a ≢ Done) → (c ≡ Reopen → a ≢ Done) → now ≡ was → Sealing c a was now

seal_sealing : (handed : Handed) (es : List EventOf) (r : Edited) → Sealing (Seal handed) (told (without_value r)) false (is_ok r)
seal_sealing handed es (Ok now) = seals handed refl refl refl
seal_sealing handed es (Err f) = leaves (λ h is done. cc) (λ is done. cc) refl

open_sealing : (room others_room : ℕ) (c : Call) (es : List EventOf) → Sealing c (model_open room others_room c es).0 false (model_open room others_room c es).1.is_sealed
open_sealing room others_room (Note p t k m l) es = leaves (λ h is done. cc) (λ is done. cc) refl
open_sealing room others_room (Link p i w) es = leaves (λ h is done. cc) (λ is done. cc) refl
open_sealing room others_room (Retract p) es = leaves (λ h is done. cc) (λ is done. cc) refl
open_sealing room others_room (Seal p) es = seal_sealing p es (unless_short (places_handed room others_room p) (seal_edit es))
open_sealing room others_room Reopen es = leaves (λ h is done. cc) (λ is done. cc) refl
open_sealing room others_room Count es = leaves (λ h is done. cc) (λ is done. cc) refl
open_sealing room others_room (Event i) es = leaves (λ h is done. cc) (λ is done. cc) refl

sealed_sealing : (c : Call) (es : List EventOf) → Sealing c (model_sealed c es).0 true (model_sealed c es).1.is_sealed
sealed_sealing Reopen es = reopens refl refl refl
sealed_sealing (Note p t k m l) es = leaves (λ h is done. cc) (λ is done. cc) refl
sealed_sealing (Link p i w) es = leaves (λ h is done. cc) (λ is done. cc) refl
sealed_sealing (Retract p) es = leaves (λ h is done. cc) (λ is done. cc) refl
sealed_sealing (Seal p) es = leaves (λ h is done. cc) (λ is done. cc) refl
sealed_sealing Count es = leaves (λ h is done. cc) (λ is done. cc) refl
sealed_sealing (Event i) es = leaves (λ h is done. cc) (λ is done. cc) refl

sealing_by : (room others_room : ℕ) (c : Call) (es : List EventOf) (b : Bool) → let t : Reference = record { run = es; is_sealed = b } in Sealing c (model_step room others_room c t).0 b (model_step room others_room c t).1.is_sealed
sealing_by room others_room c es true = sealed_sealing c es
sealing_by room others_room c es false = open_sealing room others_room c es

module _ (calls : List Call) (answers : List Answer) where
  abbrev Sealed : ℕ → Type 0
  Sealed k = IsSealed calls answers k

  sealed_on : (k : ℕ) → Sealed k → ¬ Reopens calls answers k → Sealed (suc k)
  sealed_on k s not = record { sealed = s.sealed; before = omega (arith, s.before); seals = s.seals; stays = λ j above below. below_suc (λ j. s.sealed < j → ¬ Reopens calls answers j) k (λ j less above. s.stays j above less) (λ _. not) j below above }

  sealed_by : (k : ℕ) → Seals calls answers k → Sealed (suc k)
  sealed_by k now = record { sealed = k; before = omega arith; seals = now; stays = λ j above below. absurd (omega arith) }

  -- a record that is sealed after a call was so before it, or the call sealed it
  earlier : (k : ℕ) (s : Sealed (suc k)) → s.sealed < k → Sealed k
  earlier k s less = record { sealed = s.sealed; before = less; seals = s.seals; stays = λ j above below. s.stays j above (omega arith) }

  just_now : (k : ℕ) (s : Sealed (suc k)) → k ≤ s.sealed → Seals calls answers k
  just_now k s more = let same : s.sealed ≡ k = omega (arith, s.before) in rw same at s.seals

  true_by : (k : ℕ) (was now : Bool) → Sealing (call_at calls k) (answer_at answers k) was now → (Sealed k → was ≡ true) → (s : Sealed (suc k)) → (s.sealed < k) ⊎ (k ≤ s.sealed) → now ≡ true
  true_by k was now (seals h c a is) before s which = is
  true_by k was now (reopens c a is) before s (inl less) = absurd (s.stays k less (omega arith) (c, a))
  true_by k was now (reopens c a is) before s (inr more) = let (h, c', a') = just_now k s more in absurd (cc)
  true_by k was now (leaves no_seal no_open is) before s (inl less) = is ∙ before (earlier k s less)
  true_by k was now (leaves no_seal no_open is) before s (inr more) = let (h, c, a) = just_now k s more in absurd (no_seal h c a)

  sealed_from : (k : ℕ) (was now : Bool) → Sealing (call_at calls k) (answer_at answers k) was now → (was ≡ true → Sealed k) → now ≡ true → Sealed (suc k)
  sealed_from k was now (seals h c a is) back holds = sealed_by k (h, c, a)
  sealed_from k was now (reopens c a is) back holds = absurd (cc)
  sealed_from k was now (leaves no_seal no_open is) back holds = sealed_on k (back (sym is ∙ holds)) (λ (c, a). no_open c a)

  sealed_next : (k : ℕ) (was now : Bool) → Sealing (call_at calls k) (answer_at answers k) was now → (Sealed k ↔ (was ≡ true)) → Sealed (suc k) ↔ (now ≡ true)
  sealed_next k was now step (forth, back) = (λ s. true_by k was now step forth s (cases_lt s.sealed k), sealed_from k was now step back)

module _ (room others_room : ℕ) (calls : List Call) (answers : List Answer) (n : ℕ) (told_so : (k : ℕ) → k < n → answer_at answers k ≡ answer_after (model_step room others_room) fresh calls k) where
  abbrev state : ℕ → Reference
  state k = after (model_step room others_room) fresh calls k

  pub sealed_as_model : (k : ℕ) → k ≤ n → IsSealed calls answers k ↔ ((state k).is_sealed ≡ true)
  sealed_as_model zero low = (λ s. absurd (omega (arith, s.before)), λ no. absurd (cc))
  sealed_as_model (suc k) low =
      sealed_next calls answers k (state k).is_sealed _
      (rw (told_so k (omega arith)) (sealing_by room others_room (call_at calls k) (state k).run (state k).is_sealed))
      (sealed_as_model k (omega arith))
