-- The calls that record a given run, and what comes of them.
use Rattle.std.specs.Prelude.{◌≡◌, ℕ, ◌+◌, ◌<◌, ◌≤◌, List, ◌∷◌, ◌++◌, map, length, drop, true, Some, None, Option}
use Rattle.std.specs.List.{filter, range_with_len}
use Rattle.events.specs.Limits.{max_events}
use Rattle.events.specs.Events.{kind_number, mode_number, is_load}
use Rattle.events.specs.Run.{at}
use Rattle.events.specs.declared.event.Event.{Event as EventOf}
use Rattle.sessions.specs.Calls.{after, answers_to}
use Rattle.sessions.specs.Reference.{fresh, model_step}
use Rattle.sessions.specs.declared.calls.Call.{Call}
use Rattle.sessions.specs.declared.calls.Call.TheVariants.{Note, Link, Seal, Count, Event}
use Rattle.sessions.specs.declared.calls.Answer.{Answer}
use Rattle.sessions.specs.declared.calls.Answer.TheVariants.{Noted, Done, Counted, Shown}
use Rattle.sessions.specs.declared.handed.Handed.TheVariants.{Own}

-- the most calls that a run needs: a note, a link and a question for each event, the seal and the question of how many there are
abbrev pub most_calls : ℕ
most_calls = max_events + max_events + 2 + max_events

-- the event as it is noted
abbrev pub note_of : EventOf → Call
note_of e = Note (Own max_events) e.thread (kind_number e.kind) (mode_number e.mode) e.location

module _ (es : List EventOf) where
  -- the numbers of the events
  abbrev pub numbers : List ℕ
  numbers = range_with_len 1 (length es)

  -- and of the loads
  abbrev pub loads : List ℕ
  loads = filter (λ i. is_load (at es i).kind) numbers

  -- each event is noted, each load linked to its writer, the record sealed; and then it is asked how many events there are, and of each
  abbrev pub notes : List Call
  notes = map (λ i. note_of (at es i)) numbers

  abbrev pub links : List Call
  links = map (λ i. Link (Own max_events) i (at es i).writer) loads

  abbrev pub questions : List Call
  questions = Seal (Own max_events) ∷ Count ∷ map Event numbers

  abbrev pub recording : List Call
  recording = notes ++ (links ++ questions)

  -- the answers where all are obeyed: the numbers of the events, and the run as it was
  abbrev pub recorded : List Answer
  recorded = map Noted numbers ++ (map (λ i. Done) loads ++ (Done ∷ Counted (length es) ∷ map (λ i. Shown (at es i)) numbers))

  -- the calls are few, and over memory that is long enough they are all obeyed, and leave the record sealed with this run
  pub record Records : Type 0 where
    pub few : length recording ≤ most_calls
    pub answers :
        (room others_room : ℕ) → max_events ≤ room
        → answers_to (model_step room others_room) fresh recording (length recording) ≡ recorded
    pub sealed :
        (room others_room : ℕ) → max_events ≤ room
        → after (model_step room others_room) fresh recording (length recording) ≡ record { run = es; is_sealed = true }

-- the calls are at the head, and every other place is as it was
abbrev pub Heads : List Call → List Call → List Call → Type 0
Heads cs old new = new ≡ cs ++ drop (length cs) old

-- the calls are written at the head exactly where there is room for them all
abbrev pub Writes : List Call → List Call → List Call → Option ℕ → Type 0
Writes cs old new (Some n) = (length cs ≤ length old) × (n ≡ length cs) × Heads cs old new
Writes cs old new None = (length old < length cs) × (new ≡ old)
