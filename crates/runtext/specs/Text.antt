-- The text of runs and logs.
use Rattle.std.specs.Prelude.{◌≡◌, ℕ, List, ◌++◌, length, Ok, Err, codes, decimal, Result}
use Rattle.std.specs.List.{flat_map}
use Rattle.events.specs.Text.{event_text, refused_text}
use Rattle.events.specs.Run.{FullRun}
use Rattle.events.specs.declared.event.Event.{Event}
use Rattle.runlog.specs.Faults.{fault_code}
use Rattle.runlog.specs.FirstFault.{FirstFault}
use Rattle.runlog.specs.Reading.{reading}
use Rattle.runlog.specs.Spelling.{spelling}
use Rattle.runlog.specs.declared.fault.LogFault.{LogFault}

-- a line an event
abbrev pub line_text : Event → List ℕ
line_text e = event_text e ++ codes "\n"

abbrev pub lines_text : List Event → List ℕ
lines_text es = flat_map line_text es

-- and then how many there are
abbrev pub run_text : List Event → List ℕ
run_text es = lines_text es ++ (decimal (length es) ++ codes " events\n")

-- the number and the place of a refusal
abbrev pub refusal_text : LogFault → List ℕ
refusal_text f = codes "log " ++ (refused_text (fault_code f) ++ codes "\n")

-- the run, or the refusal
abbrev pub log_text : Result (List Event) LogFault → List ℕ
log_text (Ok es) = run_text es
log_text (Err f) = refusal_text f

-- t is the text of the bytes s: that of their reading, hence of the run that they spell, or of their first fault
pub record Tells (s t : List ℕ) : Type 0 where
  pub reads : t ≡ log_text (reading s)
  pub runs : (x : List Event) → s ≡ spelling x → FullRun x → t ≡ run_text x
  pub refuses : (f : LogFault) → FirstFault s f → t ≡ refusal_text f
