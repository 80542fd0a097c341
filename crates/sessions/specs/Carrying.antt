-- The parts of carrying out calls, for the functions that do.
use Rattle.std.specs.Prelude.{◌≡◌, ℕ, ◌+◌, ◌-◌, ◌<◌, ◌≤◌, true, false, List, length, min, Some, None, Ok, Err, Option, Result, slice_set}
use Rattle.events.specs.declared.event.Event.{Event}
use Rattle.events.specs.declared.raw.RawEvent.{RawEvent}
use Rattle.recorder.specs.Edits.{Edited, unlinked, note_edit, link_edit, retract_edit}
use Rattle.recorder.specs.Record.{on_record, with_number, without_value, obeyed_or, with_place, with_link}
use Rattle.sessions.specs.Calls.{call_at, answer_at, told, told_number}
use Rattle.sessions.specs.Reference.{sealed_answer, is_reopen}
use Rattle.sessions.specs.Replay.{record_open}
use Rattle.sessions.specs.declared.handed.Handed.{Handed}
use Rattle.sessions.specs.declared.calls.Call.{Call}
use Rattle.sessions.specs.declared.calls.Call.TheVariants as call
use Rattle.sessions.specs.declared.calls.Answer.{Answer}
use Rattle.sessions.specs.declared.calls.Answer.TheVariants.{Done, Refused, Barred}

-- the calls from one on, and before another, were answered for the sealed run es, and no other answer changed
pub record SealedAnswers (es : List Event) (calls : List Call) (old new : List Answer) (from to : ℕ) : Type 0 where
  pub answered : (k : ℕ) → from ≤ k → k < to → answer_at new k ≡ sealed_answer es (call_at calls k)
  pub before : (k : ℕ) → k < from → answer_at new k ≡ answer_at old k
  pub later : (k : ℕ) → to ≤ k → answer_at new k ≡ answer_at old k

-- none of the calls from one on, and before another, reopens the record
abbrev pub NoneReopens : List Call → ℕ → ℕ → Type 0
NoneReopens calls from to = (k : ℕ) → from ≤ k → k < to → is_reopen (call_at calls k) ≡ false

-- the record is reopened by the last call before the next one, or by none
abbrev pub UntilReopened : List Event → List Call → List Answer → List Answer → ℕ → Option (ℕ × ℕ) → Type 0
UntilReopened es calls old new from None =
    let end = min (length calls) (length old) in SealedAnswers es calls old new from end × NoneReopens calls from end
UntilReopened es calls old new from (Some (count, next)) =
    SealedAnswers es calls old new from next × NoneReopens calls from (next - 1) × (is_reopen (call_at calls (next - 1)) ≡ true)
    × (from < next) × (next ≤ min (length calls) (length old)) × (count ≡ length es)

-- the memory that a note, a link or a taking back is handed
abbrev pub handed_by : Call → Option Handed
handed_by (call.Note handed t k m l) = Some handed
handed_by (call.Link handed i w) = Some handed
handed_by (call.Retract handed) = Some handed
handed_by _ = None

-- one of these calls over just this memory
abbrev pub PartCall : Call → ℕ → List RawEvent → ℕ → List RawEvent → Answer → Type 0
PartCall (call.Note _ t k m l) n part n' part' a =
    let x = unlinked t k m l in
    let r = on_record n part (note_edit x) in
    (a ≡ told_number (with_number (n + 1) r)) × (n' ≡ obeyed_or r (n + 1) n) × (part' ≡ obeyed_or r (with_place part (n + 1) x) part)
PartCall (call.Link _ i w) n part n' part' a =
    let r = on_record n part (link_edit i w) in
    (a ≡ told (without_value r)) × (n' ≡ n) × (part' ≡ obeyed_or r (with_link part i w) part)
PartCall (call.Retract _) n part n' part' a =
    let r = on_record n part retract_edit in
    (a ≡ told (without_value r)) × (n' ≡ obeyed_or r (n - 1) n) × (part' ≡ part)
PartCall _ n part n' part' a = (a ≡ Barred) × (n' ≡ n) × (part' ≡ part)

-- a call of an open record; or the memory that is handed to one that seals it
abbrev pub OpenCall : Call → ℕ → List RawEvent → List RawEvent → ℕ → List RawEvent → List RawEvent → Result Answer Handed → Type 0
OpenCall c n memory others n' memory' others' (Ok a) =
    ((a, record { count = n'; memory = memory'; is_sealed = false })
    ≡ record_open others c (record { count = n; memory = memory; is_sealed = false })) × (others' ≡ others)
OpenCall c n memory others n' memory' others' (Err handed) =
    (c ≡ call.Seal handed) × (n' ≡ n) × (memory' ≡ memory) × (others' ≡ others)

-- the call after k others seals the record, if it may, and the calls after it are answered; or it is refused, and the next one is
-- to be carried out
abbrev pub SealCall : ℕ → List Call → List Answer → List Answer → ℕ → Edited → Option (ℕ × ℕ) → Type 0
SealCall n calls old new k (Ok es) r = UntilReopened es calls (slice_set old k Done) new (k + 1) r
SealCall n calls old new k (Err f) r = (new ≡ slice_set old k (Refused f)) × (r ≡ Some (n, k + 1))
