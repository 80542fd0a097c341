-- One call at a time, as it is carried out and as it is defined.
use Rattle.std.proofs.Common.{below_more, ◌≡◌, ◌≢◌, ℕ, ◌+◌, ◌-◌, ◌<◌, ◌≤◌, min, false, List, ◌++◌, length, get_or, take, drop, Some, Err, refl, sym, ap, ◌∙◌, ◌⊎◌, inl, inr, arith}
use Rattle.std.proofs.lemmas.Bool.{cases_lt}
use Rattle.std.proofs.lemmas.List.{take_min, drop_min, take-append-drop, length-drop, get_or-set_same, get_or-set_other}
use Rattle.std.specs.Prelude.{slice_set}
use Rattle.events.specs.declared.event.Event.{Event as EventOf}
use Rattle.events.specs.declared.raw.RawEvent.{RawEvent}
use Rattle.recorder.specs.Edits.{Edited, unlinked, note_edit, link_edit, retract_edit}
use Rattle.recorder.specs.Record.{on_record}
use Rattle.recorder.specs.declared.fault.RecordFault.TheVariants.{ShortMemory}
use Rattle.sessions.specs.Calls.{call_at, answer_at}
use Rattle.sessions.specs.Reference.{sealed_answer, is_reopen}
use Rattle.sessions.specs.Replay.{Kept, record_open}
use Rattle.sessions.specs.Carrying.{SealedAnswers, NoneReopens, UntilReopened, handed_by, PartCall}
use Rattle.sessions.specs.declared.calls.Call.{Call}
use Rattle.sessions.specs.declared.calls.Call.TheVariants.{Note, Link, Retract, Seal, Reopen, Count, Event}
use Rattle.sessions.specs.declared.calls.Answer.{Answer}
use Rattle.sessions.specs.declared.calls.Answer.TheVariants.{Barred}
use Rattle.sessions.specs.declared.handed.ShortPart.{ShortPart}
use Rattle.sessions.specs.declared.handed.Handed.TheVariants.{Own, Other}
use Rattle.sessions.proofs.Keeping.{on_short, part_size}
use Rattle.sessions.proofs.Parts.{note_part, link_part}

-- a note, a link or a taking back, over the memory that it is handed
module _ (others : List RawEvent) (n : ℕ) (m : List RawEvent) (a : Answer) (n' : ℕ) (part : List RawEvent) where
  abbrev before : Kept
  before = record { count = n; memory = m; is_sealed = false }

  -- a part of the record's own memory
  module _ (places end : ℕ) (is : end ≡ min places (length m)) where
    abbrev now : Kept
    now = record { count = n'; memory = part ++ drop end m; is_sealed = false }

    pub own_carried : (c : Call) → handed_by c ≡ Some (Own places) → PartCall c n (take end m) n' part a → (a, now) ≡ record_open others c before
    own_carried (Note d t k o l) given (said, counts, writes) = let own : d ≡ Own places = cc in rw (own, said, counts, writes, is, take_min places m, drop_min places m, note_part n m places (unlinked t k o l)) refl
    own_carried (Link d i w) given (said, counts, writes) = let own : d ≡ Own places = cc in rw (own, said, counts, writes, is, take_min places m, drop_min places m, link_part n m places i w) refl
    own_carried (Retract d) given (said, counts, writes) =
        let own : d ≡ Own places = cc in
        let whole : part ++ drop end m ≡ m = ap (λ ps. ps ++ drop end m) writes ∙ take-append-drop end m in
        rw (own, said, counts, whole, is, take_min places m) refl
    own_carried (Seal d) given done = cc
    own_carried Reopen given done = cc
    own_carried Count given done = cc
    own_carried (Event i) given done = cc

  -- a part of the other memory
  module _ (p : ShortPart) where
    abbrev other : List RawEvent
    other = take p.places (drop p.from others)

    short : (edit : List EventOf → Edited) → on_record n other edit ≡ Err ShortMemory
    short edit = on_short n other edit (omega (arith, part_size p others, p.short))

    over_other : (c : Call) → handed_by c ≡ Some (Other p) → PartCall c n other n' part a → ((a, record { count = n'; memory = m; is_sealed = false }) ≡ record_open others c before) × (part ≡ other)
    over_other (Note d t k o l) given (said, counts, writes) =
        let no = short (note_edit (unlinked t k o l)) in
        let is : d ≡ Other p = cc in
        (rw (is, said, counts, no) refl, writes ∙ rw no refl)
    over_other (Link d i w) given (said, counts, writes) =
        let no = short (link_edit i w) in
        let is : d ≡ Other p = cc in
        (rw (is, said, counts, no) refl, writes ∙ rw no refl)
    over_other (Retract d) given (said, counts, writes) = let is : d ≡ Other p = cc in (rw (is, said, counts, short retract_edit) refl, writes)
    over_other (Seal d) given done = cc
    over_other Reopen given done = cc
    over_other Count given done = cc
    over_other (Event i) given done = cc

    -- it lies between these places, and is put back there as it was
    module _ (from to : ℕ) (begins : from ≡ min p.from (length others)) (ends : to ≡ from + min p.places (length others - from)) where
      abbrev between : List RawEvent
      between = take (to - from) (drop from others)

      is_other : between ≡ other
      is_other =
          let start : drop from others ≡ drop p.from others = rw (begins, drop_min p.from others) refl in
          let size : to - from ≡ min p.places (length (drop p.from others)) = omega (arith, length-drop p.from others) in
          rw (start, size, take_min p.places (drop p.from others)) refl

      put_back : part ≡ between → take from others ++ (part ++ drop (to - from) (drop from others)) ≡ others
      put_back same = rw (same, take-append-drop (to - from) (drop from others), take-append-drop from others) refl

      pub other_carried : (c : Call) → handed_by c ≡ Some (Other p) → PartCall c n between n' part a → ((a, record { count = n'; memory = m; is_sealed = false }) ≡ record_open others c before) × (take from others ++ (part ++ drop (to - from) (drop from others)) ≡ others)
      other_carried c handed done = let (carried, same) = over_other c handed (rw is_other at done) in (carried, put_back (same ∙ sym is_other))

-- one answer more, where the answers so far are those that f gives
pub answered_more : (f : ℕ → Answer) (answers : List Answer) (k j : ℕ) (a : Answer) → k < length answers → a ≡ f k → (j < k) ⊎ (k ≤ j) → j < k + 1 → (j < k → answer_at answers j ≡ f j) → answer_at (slice_set answers k a) j ≡ f j
answered_more f answers k j a within is (inl less) below early = get_or-set_other answers k j a Barred (omega arith) ∙ early less
answered_more f answers k j a within is (inr more) below early = let same : j ≡ k = omega arith in rw same (get_or-set_same answers k a Barred within ∙ is)

-- one more while the record is sealed
pub answers_more : (es : List EventOf) (calls : List Call) (old new : List Answer) (from k : ℕ) (a : Answer) → SealedAnswers es calls old new from k → from ≤ k → k < length new → a ≡ sealed_answer es (call_at calls k) → SealedAnswers es calls old (slice_set new k a) from (k + 1)
answers_more es calls old new from k a s low within is =
    record {
      answered = λ j from_j below. answered_more (λ j. sealed_answer es (call_at calls j)) new k j a within is (cases_lt j k) below (s.answered j from_j);
      before = λ j below. get_or-set_other new k j a Barred (omega arith) ∙ s.before j below;
      later = λ j above. get_or-set_other new k j a Barred (omega arith) ∙ s.later j (omega arith);
    }

not_reopen : (c : Call) → c ≢ Reopen → is_reopen c ≡ false
not_reopen Reopen never = absurd (never refl)
not_reopen Count never = refl
not_reopen (Event i) never = refl
not_reopen (Note p t k m l) never = refl
not_reopen (Link p i w) never = refl
not_reopen (Retract p) never = refl
not_reopen (Seal p) never = refl

-- the call after k others, which is c, is answered: by it the record is reopened, or it stays sealed
module _ (es : List EventOf) (calls : List Call) (old new : List Answer) (from k : ℕ) (a : Answer) (c : Call) (s : SealedAnswers es calls old new from k × NoneReopens calls from k) (low : from ≤ k) (few : k < length calls) (room : k < length new) (read : (d : Call) → get_or calls k d ≡ c) (is : a ≡ sealed_answer es c) where
  abbrev here : call_at calls k ≡ c
  here = read Reopen

  more : SealedAnswers es calls old (slice_set new k a) from (k + 1)
  more = answers_more es calls old new from k a s.0 low room (rw here is)

  pub stays_sealed : c ≢ Reopen → SealedAnswers es calls old (slice_set new k a) from (k + 1) × NoneReopens calls from (k + 1)
  stays_sealed never = (
    more,
    λ j from_j below. below_more (λ j. from ≤ j → is_reopen (call_at calls j) ≡ false) k (λ j less low. s.1 j low less) (λ _. rw here (not_reopen c never)) j below from_j,
  )

  pub is_reopened : c ≡ Reopen → length new ≡ length old → UntilReopened es calls old (slice_set new k a) from (Some (length es, k + 1))
  is_reopened reopens same = let one : k + 1 - 1 ≡ k = omega arith in rw one (more, s.1, rw (here, reopens) refl, omega arith, omega arith, refl)
