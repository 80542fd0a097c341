-- What the program prints of a log.
use Rattle.std.specs.Prelude.{◌≡◌, ℕ, replicate, ◌+◌, ◌≤◌, ◌<◌, ◌++◌, List, [], ◌∷◌, codes, drop, length, MatchResult, Result}
use Rattle.std.specs.List.{flat_map}
use Rattle.events.specs.Limits.{max_events}
use Rattle.events.specs.Relations.{Rel}
use Rattle.events.specs.Run.{FullRun}
use Rattle.events.specs.declared.event.Event.{Event}
use Rattle.events.specs.declared.raw.RawEvent.{RawEvent}
use Rattle.models.specs.Models.{rule_of, scope_of}
use Rattle.models.specs.declared.name.ModelName.{ModelName}
use Rattle.models.specs.declared.name.ModelName.TheVariants.{Rc20, Ra, Sra, Wra, Relaxed}
use Rattle.models.specs.declared.scope.Scope.{Scope}
use Rattle.verdicts.specs.declared.step.Step.{Step}
use Rattle.sessions.specs.Recording.{most_calls, recording, recorded}
use Rattle.sessions.specs.declared.calls.Answer.{Answer}
use Rattle.sessions.specs.declared.calls.Answer.TheVariants.{Barred}
use Rattle.checker.specs.Promise.{Promise, new_order, new_steps}
use Rattle.checker.specs.declared.checked.Checked.{Checked}
use Rattle.runlog.specs.FirstFault.{FirstFault}
use Rattle.runlog.specs.Spelling.{spelling}
use Rattle.runlog.specs.declared.fault.LogFault.{LogFault}
use Rattle.runtext.specs.Text.{refusal_text}
use Rattle.verdicttext.specs.Text.{line_text}
use Rattle.writing.specs.Writes.{Writes}
use Rattle.writing.specs.declared.put.Full.{Full}
use Rattle.report.specs.Longest.{longest_line}

-- memory for a record, and places for answers, that nothing was written to yet
abbrev pub new_memory : List RawEvent
new_memory = replicate max_events (record { thread = 0; kind = 0; mode = 0; location = 0; writer = 0 })

abbrev pub new_answers : List Answer
new_answers = replicate most_calls Barred

-- A line of the run es under the model m, of this scope and rule: that of an answer that keeps the contract of `check`, with the calls
-- that record the run itself, over new memory and buffers. The record obeyed them all, and told of this run.
pub record IsLine (m : ModelName) (scope : Scope) (sw : Rel) (es : List Event) (line : List ℕ) : Type 0 where
  pub memory_now : List RawEvent
  pub others_now : List RawEvent
  pub answers_now : List Answer
  pub order_now : List ℕ
  pub steps_now : List Step
  pub checked : Checked
  pub promise : Promise (recording es) new_memory memory_now [] others_now new_answers answers_now scope sw es new_order order_now new_steps steps_now [] checked
  pub obeyed : answers_now ≡ recorded es ++ drop (length (recording es)) new_answers
  pub text : line ≡ line_text m es checked.verdict order_now steps_now ++ codes "\n"

abbrev pub by_number : List ModelName
by_number = Rc20 ∷ Ra ∷ Sra ∷ Wra ∷ Relaxed ∷ []

-- a line for each model by its number
pub record AreLines (es : List Event) (text : List ℕ) : Type 0 where
  pub line : ModelName → List ℕ
  pub each : (m : ModelName) → IsLine m (scope_of m) (rule_of m es) es (line m)
  pub all : text ≡ flat_map line by_number

-- What is printed of the bytes s: the refusal where they do not open, else the lines of the run that they spell.
pub data IsPrinted (s : List ℕ) : List ℕ → Type 0 where
  refused : {f : LogFault} → FirstFault s f → IsPrinted s (refusal_text f)
  judged : {es : List Event} {text : List ℕ} → s ≡ spelling es → FullRun es → AreLines es text → IsPrinted s text

-- what is printed of the bytes is written
abbrev pub Reports : List ℕ → List ℕ → List ℕ → Result ℕ Full → Type 0
Reports s old new result = (t : List ℕ) × IsPrinted s t × Writes t old new result

-- a line, behind what was written
abbrev pub LineBehind : ModelName → Scope → Rel → List Event → List ℕ → List ℕ → Type 0
LineBehind m scope sw es old new =
    (line : List ℕ) × IsLine m scope sw es line × (new ≡ old ++ line) × (length line ≤ longest_line + 1)

-- A text is behind what was written; refused, where it does not fit, a part of it may be.
abbrev pub Begins : ℕ → List ℕ → List ℕ → List ℕ → Result (Unit {0}) Full → Type 0
Begins n t old new result = MatchResult result (λ _. new ≡ old ++ t) (λ _. n < length old + length t)
