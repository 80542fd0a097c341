-- Carrying out a list of calls, one after another, whatever they are carried out on.
use Rattle.std.specs.Prelude.{ℕ, zero, suc, List, map, Ok, Err, Result, slice_index_or}
use Rattle.std.specs.List.{range_with_len}
use Rattle.recorder.specs.declared.fault.RecordFault.{RecordFault}
use Rattle.sessions.specs.declared.calls.Call.{Call}
use Rattle.sessions.specs.declared.calls.Call.TheVariants.{Reopen}
use Rattle.sessions.specs.declared.calls.Answer.{Answer}
use Rattle.sessions.specs.declared.calls.Answer.TheVariants.{Noted, Done, Refused, Barred}

-- what a call answers, and what is there after it
abbrev pub Step : Type 0 → Type 0
Step S = Call → S → Answer × S

-- the call after k others
abbrev pub call_at : List Call → ℕ → Call
call_at calls k = slice_index_or calls k Reopen

-- its answer
abbrev pub answer_at : List Answer → ℕ → Answer
answer_at answers k = slice_index_or answers k Barred

module _ {S : Type 0} (step : Step S) (start : S) (calls : List Call) where
  -- what is there after the first k calls
  abbrev pub after : ℕ → S
  after zero = start
  after (suc k) = (step (call_at calls k) (after k)).1

  -- the answer to the call after k others
  abbrev pub answer_after : ℕ → Answer
  answer_after k = (step (call_at calls k) (after k)).0

  -- the answers to the first n calls
  abbrev pub answers_to : ℕ → List Answer
  answers_to n = map answer_after (range_with_len 0 n)

-- an answer as a value
abbrev pub told_number : Result ℕ RecordFault → Answer
told_number (Ok n) = Noted n
told_number (Err f) = Refused f

abbrev pub told : Result (Unit {0}) RecordFault → Answer
told (Ok u) = Done
told (Err f) = Refused f
