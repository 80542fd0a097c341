-- How far the calls have been carried out.
use Rattle.std.proofs.Common.{◌≡◌, ℕ, zero, suc, ◌+◌, ◌-◌, ◌<◌, ◌≤◌, min, true, false, List, ◌++◌, length, get_or, take, drop, is_ok, Some, None, Ok, Err, refl, sym, ap, ◌∙◌, ◌⊎◌, inl, inr, add-one, arith}
use Rattle.std.proofs.lemmas.Bool.{cases_lt}
use Rattle.std.proofs.lemmas.List.{get_or-set_other, length-set, length-append, length-drop, get_or-drop, ext_get_or, get_or_append_left, get_or-append_right}
use Rattle.std.proofs.lemmas.List.FromFn.{length-map-range_with_len, get_or-map-range_with_len}
use Rattle.std.specs.Prelude.{slice_set}
use Rattle.events.specs.declared.event.Event.{Event as EventOf}
use Rattle.events.specs.declared.raw.RawEvent.{RawEvent}
use Rattle.recorder.specs.Places.{events_of}
use Rattle.recorder.specs.Edits.{Edited, seal_edit}
use Rattle.recorder.specs.Record.{on_record, without_value}
use Rattle.sessions.specs.Calls.{Step, call_at, answer_at, after, answer_after, answers_to, told}
use Rattle.sessions.specs.Handed.{handed_to}
use Rattle.sessions.specs.Reference.{is_reopen, sealed_answer, fresh, model_step}
use Rattle.sessions.specs.Replay.{Kept, opened, run_in, record_open, record_step}
use Rattle.sessions.specs.Carrying.{SealedAnswers, NoneReopens, UntilReopened, SealCall}
use Rattle.sessions.specs.History.{count_after, HoldsWhatStands, TellsWhatStands}
use Rattle.sessions.specs.Replayed.{carried, Replayed}
use Rattle.recorder.specs.declared.fault.RecordFault.{RecordFault}
use Rattle.sessions.specs.declared.handed.Handed.{Handed}
use Rattle.sessions.specs.declared.calls.Call.{Call}
use Rattle.sessions.specs.declared.calls.Call.TheVariants.{Seal, Reopen}
use Rattle.sessions.specs.declared.calls.Answer.{Answer}
use Rattle.sessions.proofs.Carried.{answered_more}
use Rattle.sessions.proofs.Keeping.{Holds, same_after, same_answer, same_answers, sealed_run, keeps}
use Rattle.sessions.proofs.Histories.{model_holds_what_stands}
use Rattle.sessions.proofs.Replies.{model_tells_what_stands}
use Rattle.sessions.specs.declared.calls.Answer.TheVariants.{Barred, Done, Refused}

pub after_next : {S : Type 0} (step : Step S) (start : S) (calls : List Call) (k : ℕ) → after step start calls (k + 1) ≡ (step (call_at calls k) (after step start calls k)).1
after_next step start calls k = rw (add-one k) refl

-- the next call after a seal is a later one, and within the calls
pub seals_further : (n : ℕ) (calls : List Call) (old new : List Answer) (k : ℕ) (r : Edited) (count next : ℕ) → k < min (length calls) (length old) → SealCall n calls old new k r (Some (count, next)) → (k < next) × (next ≤ min (length calls) (length old))
seals_further n calls old new k (Ok es) count next within (a, none, reopens, low, high, counts) = (omega arith, omega (arith, length-set old k Done))
seals_further n calls old new k (Err f) count next within (same, here) = let there : (count ≡ n) × (next ≡ k + 1) = grind arith in (omega arith, omega arith)

module _ (calls : List Call) (memory0 others : List RawEvent) (answers0 : List Answer) where
  -- the calls as they are carried out
  abbrev by_record : Step Kept
  by_record = record_step others

  -- what is there after the first k calls, and the answer to the next
  abbrev state : ℕ → Kept
  state k = after by_record (opened memory0) calls k

  abbrev answer : ℕ → Answer
  answer k = answer_after by_record (opened memory0) calls k

  -- the answers to the first k calls are in their places, and no other
  pub record Answered (answers : List Answer) (next : ℕ) : Type 0 where
    pub long : length answers ≡ length answers0
    pub answered : (k : ℕ) → k < next → answer_at answers k ≡ answer k
    pub later : (k : ℕ) → next ≤ k → answer_at answers k ≡ answer_at answers0 k

  -- and the record is open
  pub record Standing (n : ℕ) (memory : List RawEvent) (answers : List Answer) (next : ℕ) : Type 0 where
    pub at : state next ≡ record { count = n; memory = memory; is_sealed = false }
    pub told : Answered answers next

  pub standing_none : Standing 0 memory0 answers0 0
  standing_none = record { at = refl; told = record { long = refl; answered = λ k below. absurd (omega arith); later = λ k above. refl } }

  one_more : (answers : List Answer) (k : ℕ) (a : Answer) → k < length answers → a ≡ answer k → Answered answers k → Answered (slice_set answers k a) (k + 1)
  one_more answers k a within is s =
      record {
        long = omega (arith, length-set {A = Answer}, s.long);
        answered = λ j below. answered_more answer answers k j a within is (cases_lt j k) below (s.answered j);
        later = λ j above. get_or-set_other answers k j a Barred (omega arith) ∙ s.later j (omega arith);
      }

  module _ (n : ℕ) (memory : List RawEvent) (answers : List Answer) (k : ℕ) (s : Standing n memory answers k) (few : k < length calls) (room : k < length answers) (c : Call) (read : (d : Call) → get_or calls k d ≡ c) where
    abbrev before : Kept
    before = record { count = n; memory = memory; is_sealed = false }

    -- what the definition makes of this call
    made : by_record (call_at calls k) (state k) ≡ record_open others c before
    made = rw (read Reopen, s.at) refl

    -- a call of the open record
    pub standing_more : (a : Answer) (n' : ℕ) (memory' : List RawEvent) → (a, record { count = n'; memory = memory'; is_sealed = false }) ≡ record_open others c before → Standing n' memory' (slice_set answers k a) (k + 1)
    standing_more a n' memory' is =
        let both = made ∙ sym is in
        record { at = after_next by_record (opened memory0) calls k ∙ ap (λ p. p.1) both; told = one_more answers k a room (sym (ap (λ p. p.0) both)) s.told }

    -- a call that seals it
    module _ (handed : Handed) (seals : c ≡ Seal handed) where
      abbrev sealing : Edited
      sealing = on_record n (handed_to handed memory others) seal_edit

      -- the call is answered so, and leaves the record so
      made_seal : by_record (call_at calls k) (state k) ≡ (told (without_value sealing), record { count = n; memory = memory; is_sealed = is_ok sealing })
      made_seal = made ∙ rw seals refl

      pub standing_refused : (f : RecordFault) → sealing ≡ Err f → Standing n memory (slice_set answers k (Refused f)) (k + 1)
      standing_refused f is = standing_more (Refused f) n memory (rw (seals, is) refl)

      sealed_state : (es : List EventOf) → sealing ≡ Ok es → state (k + 1) ≡ record { count = n; memory = memory; is_sealed = true }
      sealed_state es is = after_next by_record (opened memory0) calls k ∙ ap (λ p. p.1) made_seal ∙ rw is refl

      sealed_told : (es : List EventOf) → sealing ≡ Ok es → Answered (slice_set answers k Done) (k + 1)
      sealed_told es is = one_more answers k Done room (sym (ap (λ p. p.0) made_seal ∙ rw is refl)) s.told

  -- while the record is sealed, and no call reopens it, it stays as it is
  module _ (n : ℕ) (memory : List RawEvent) (from : ℕ) (at : state from ≡ record { count = n; memory = memory; is_sealed = true }) where
    abbrev closed : Kept
    closed = record { count = n; memory = memory; is_sealed = true }

    stays : (m : ℕ) → NoneReopens calls from (from + m) → state (from + m) ≡ closed
    stays zero none = let one : from + 0 ≡ from = omega arith in rw one at
    stays (suc m) none =
        let one : from + suc m ≡ from + m + 1 = omega arith in
        let past = stays m (λ j low below. none j low (omega arith)) in
        rw one (after_next by_record (opened memory0) calls (from + m) ∙ rw (past, none (from + m) (omega arith) (omega arith)) refl)

    closed_at : (k : ℕ) → from ≤ k → NoneReopens calls from k → state k ≡ closed
    closed_at k low none = let split : from + (k - from) ≡ k = omega arith in rw split at (stays (k - from) (rw (sym split) at none))

    closed_answer : (k : ℕ) → from ≤ k → NoneReopens calls from k → answer k ≡ sealed_answer (run_in closed) (call_at calls k)
    closed_answer k low none = ap (λ s. (by_record (call_at calls k) s).0) (closed_at k low none)

    reopened_at : (k : ℕ) → from ≤ k → NoneReopens calls from k → is_reopen (call_at calls k) ≡ true → state (k + 1) ≡ record { count = n; memory = memory; is_sealed = false }
    reopened_at k low none reopens = after_next by_record (opened memory0) calls k ∙ rw (closed_at k low none, reopens) refl

    -- the answers while it is sealed
    module _ (es : List EventOf) (shows : es ≡ run_in closed) (old new : List Answer) (to : ℕ) (a : SealedAnswers es calls old new from to) (none : (k : ℕ) → from ≤ k → k < to → NoneReopens calls from k) (t : Answered old from) (long : length new ≡ length answers0) (low : from ≤ to) where
      told_by : (j : ℕ) → (j < from) ⊎ (from ≤ j) → j < to → answer_at new j ≡ answer j
      told_by j (inl less) below = a.before j less ∙ t.answered j less
      told_by j (inr more) below = a.answered j more below ∙ ap (λ run. sealed_answer run (call_at calls j)) shows ∙ sym (closed_answer j more (none j more below))

      told_to : Answered new to
      told_to = record { long = long; answered = λ j below. told_by j (cases_lt j from) below; later = λ j above. a.later j above ∙ t.later j (omega arith) }

  -- where the calls end
  pub record Finished (memory : List RawEvent) (answers : List Answer) (n : ℕ) : Type 0 where
    pub at : (state n).memory ≡ memory
    pub told : Answered answers n

  module _ (n : ℕ) (memory : List RawEvent) (answers new : List Answer) (k : ℕ) (s : Standing n memory answers k) (few : k < length calls) (room : k < length answers) (handed : Handed) (read : (d : Call) → get_or calls k d ≡ Seal handed) (long : length new ≡ length answers0) where
    abbrev sealing' : Edited
    sealing' = on_record n (handed_to handed memory others) seal_edit

    -- what the record holds is the model's run
    holds : Holds n memory (after (model_step (length memory0) (length others)) fresh calls k).run
    holds = let same = same_after calls memory0 others k in rw s.at at same.holds

    shown_by : (es : List EventOf) → sealing' ≡ Ok es → (es ≡ events_of (take n memory)) × (length es ≡ n)
    shown_by es is = sealed_run n handed memory others _ es holds is

    reopened : (es : List EventOf) (count next : ℕ) → sealing' ≡ Ok es → UntilReopened es calls (slice_set answers k Done) new (k + 1) (Some (count, next)) → Standing count memory new next
    reopened es count next is (a, none, reopens, low, high, counts) =
        let shows = shown_by es is in
        let closed = sealed_state n memory answers k s few room (Seal handed) read handed refl es is in
        let last : next - 1 + 1 ≡ next = omega arith in
        let open_again = reopened_at n memory (k + 1) closed (next - 1) (omega arith) none reopens in
        record {
          at = rw (counts, shows.1) (rw last at open_again);
          told = told_to n memory (k + 1) closed es shows.0 (slice_set answers k Done) new next a (λ j low below. λ i from_i i_below. none i from_i (omega arith)) (sealed_told n memory answers k s few room (Seal handed) read handed refl es is) long (omega arith);
        }

    ended : (es : List EventOf) → sealing' ≡ Ok es → UntilReopened es calls (slice_set answers k Done) new (k + 1) None → length answers ≡ length answers0 → Finished memory new (min (length calls) (length answers0))
    ended es is (a, none) same_long =
        let size : length (slice_set answers k Done) ≡ length answers0 = length-set answers k Done ∙ same_long in
        let closed = sealed_state n memory answers k s few room (Seal handed) read handed refl es is in
        let end = min (length calls) (length answers0) in
        let never : NoneReopens calls (k + 1) end = rw size at none in
        record {
          at = ap (λ t. t.memory) (closed_at n memory (k + 1) closed end (omega arith) never);
          told = told_to n memory (k + 1) closed es (shown_by es is).0 (slice_set answers k Done) new end (rw size at a) (λ j low below. λ i from_i i_below. never i from_i (omega arith)) (sealed_told n memory answers k s few room (Seal handed) read handed refl es is) long (omega arith);
        }

    pub sealed_on : (r : Edited) → sealing' ≡ r → (count next : ℕ) → SealCall n calls answers new k r (Some (count, next)) → Standing count memory new next
    sealed_on (Ok es) is count next from = reopened es count next is from
    sealed_on (Err f) is count next (same, here) =
        let there : (count ≡ n) × (next ≡ k + 1) = grind arith in
        rw (same, there.0, there.1) (standing_refused n memory answers k s few room (Seal handed) read handed refl f is)

    pub sealed_to_end : (r : Edited) → sealing' ≡ r → SealCall n calls answers new k r None → Finished memory new (min (length calls) (length answers0))
    sealed_to_end (Ok es) is from = ended es is from s.told.long
    sealed_to_end (Err f) is from = absurd (grind (arith, from.1))

  -- the answers as a list
  finished_at : (answers : List Answer) (n i : ℕ) → n ≤ length answers0 → (i < n) ⊎ (n ≤ i) → Answered answers n → answer_at answers i ≡ answer_at (answers_to by_record (opened memory0) calls n ++ drop n answers0) i
  finished_at answers n i low (inl less) t =
      t.answered i less ∙ sym (get_or_append_left (answers_to by_record (opened memory0) calls n) (drop n answers0) Barred i (omega (arith, length-map-range_with_len answer 0 n))
      ∙ get_or-map-range_with_len answer 0 n i i Barred less (omega arith))
  finished_at answers n i low (inr more) t =
      let there : n + (i - n) ≡ i = omega arith in
      t.later i more ∙ sym (get_or-append_right (answers_to by_record (opened memory0) calls n) (drop n answers0) n i Barred (length-map-range_with_len answer 0 n) more ∙ get_or-drop n answers0 (i - n) Barred ∙ ap (answer_at answers0) there)

  finished_answers : (memory : List RawEvent) (answers : List Answer) (n : ℕ) → n ≤ length answers0 → Finished memory answers n → answers ≡ answers_to by_record (opened memory0) calls n ++ drop n answers0
  finished_answers memory answers n low f =
      ext_get_or Barred _ _ (omega (arith, f.told.long, length-append {A = Answer}, length-map-range_with_len answer 0 n, length-drop n answers0))
      (λ i within. finished_at answers n i low (cases_lt i n) f.told)

  -- and they are the reference model's
  finished_model : (memory : List RawEvent) (answers : List Answer) (n : ℕ) → n ≤ length answers0 → Finished memory answers n → answers ≡ answers_to (model_step (length memory0) (length others)) fresh calls n ++ drop n answers0
  finished_model memory answers n low f = finished_answers memory answers n low f ∙ ap (λ told. told ++ drop n answers0) (same_answers calls memory0 others n)

  pub standing_finished : (n : ℕ) (memory : List RawEvent) (answers : List Answer) (k end : ℕ) → Standing n memory answers k → k ≡ end → Finished memory answers end
  standing_finished n memory answers k end s is = rw (← is) (record { at = ap (λ t. t.memory) s.at; told = s.told })

  -- after each of the calls the record holds what stands
  finished_stands : (memory : List RawEvent) (answers : List Answer) (n : ℕ) → Finished memory answers n → (k : ℕ) → k ≤ n → HoldsWhatStands calls answers k (run_in (state k))
  finished_stands memory answers n f k low =
      rw ((keeps calls memory0 others).run k) (model_holds_what_stands (length memory0) (length others) calls answers n (λ j less. f.told.answered j less ∙ same_answer calls memory0 others j) k low)

  -- and what it told of itself while it was sealed is what stood
  finished_tells : (memory : List RawEvent) (answers : List Answer) (n : ℕ) → Finished memory answers n → (k : ℕ) → k < n → TellsWhatStands calls answers k
  finished_tells memory answers n f = model_tells_what_stands (length memory0) (length others) calls answers n (λ j less. f.told.answered j less ∙ same_answer calls memory0 others j)

  -- what is left in the memory is what stands
  finished_left : (memory : List RawEvent) (answers : List Answer) (n : ℕ) → Finished memory answers n → HoldsWhatStands calls answers n (events_of (take (count_after calls answers n) memory))
  finished_left memory answers n f =
      let stands = finished_stands memory answers n f n (omega arith) in
      let holds = (same_after calls memory0 others n).holds in
      let counted : (state n).count ≡ count_after calls answers n = holds.count ∙ sym (ap length ((keeps calls memory0 others).run n)) ∙ stands.0 in
      let left : run_in (state n) ≡ events_of (take (count_after calls answers n) memory) = ap (λ k. events_of (take k (state n).memory)) counted ∙ ap (λ m. events_of (take (count_after calls answers n) m)) f.at in
      rw left at stands

  pub finished_replayed : (memory others_now : List RawEvent) (answers : List Answer) → others_now ≡ others → Finished memory answers (carried calls answers0) → Replayed calls memory0 memory others others_now answers0 answers
  finished_replayed memory others_now answers same f =
      let n = carried calls answers0 in
      record {
        answers = finished_model memory answers n (omega arith) f;
        memory = sym f.at;
        others = same;
        keeps = keeps calls memory0 others;
        stands = finished_stands memory answers n f;
        tells = finished_tells memory answers n f;
        left = finished_left memory answers n f;
      }
