-- What comes of carrying out a list of calls, as far as there are places for answers.
use Rattle.std.specs.Prelude.{◌≡◌, ℕ, ◌<◌, ◌≤◌, List, ◌++◌, length, min, take, drop}
use Rattle.events.specs.declared.raw.RawEvent.{RawEvent}
use Rattle.recorder.specs.Places.{events_of}
use Rattle.sessions.specs.Calls.{after, answers_to}
use Rattle.sessions.specs.Reference.{fresh, model_step}
use Rattle.sessions.specs.Replay.{opened, run_in, record_step, KeepsToReference}
use Rattle.sessions.specs.History.{count_after, HoldsWhatStands, TellsWhatStands}
use Rattle.sessions.specs.declared.calls.Call.{Call}
use Rattle.sessions.specs.declared.calls.Answer.{Answer}

-- how many calls are carried out: as many as there are places for answers
abbrev pub carried : List Call → List Answer → ℕ
carried calls answers = min (length calls) (length answers)

-- old is before the calls, and new after them
pub record Replayed (calls : List Call) (memory_old memory_new others_old others_new : List RawEvent) (answers_old answers_new : List Answer) : Type 0 where
  -- every answer is that of the reference model, which is told how many places each call is handed, and never what is in them;
  -- places for answers beyond the last call are as they were
  pub answers :
      let n = carried calls answers_old in
      answers_new ≡ answers_to (model_step (length memory_old) (length others_old)) fresh calls n ++ drop n answers_old
  -- the record's own memory, place by place, is what note and link wrote
  pub memory : memory_new ≡ (after (record_step others_old) (opened memory_old) calls (carried calls answers_old)).memory
  -- the other memory is as it was
  pub others : others_new ≡ others_old
  -- after each of the calls, the record is sealed or open as the model is, and what it holds is the model's list
  pub keeps : KeepsToReference calls memory_old others_old
  -- in the words of the calls: after each of them the record has just the events that were noted and not taken back, as they were linked;
  pub stands :
      (k : ℕ) → k ≤ carried calls answers_old
      → HoldsWhatStands calls answers_new k (run_in (after (record_step others_old) (opened memory_old) calls k))
  -- asked of its events it tells what stands, while it is sealed, and nothing else;
  pub tells : (k : ℕ) → k < carried calls answers_old → TellsWhatStands calls answers_new k
  -- and what lies in the record's own memory at exit is what stands after the calls
  pub left :
      let n = carried calls answers_old in
      HoldsWhatStands calls answers_new n (events_of (take (count_after calls answers_new n) memory_new))
