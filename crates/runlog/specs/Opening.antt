-- What opening a log means.
use Rattle.std.specs.Borrow.{Bor}
use Rattle.std.specs.Prelude.{◌≡◌, ◌↔◌, ℕ, List, Ok, Err, Result, IsOk, IfOk, IsOkAnd}
use Rattle.std.specs.Result.{result_map_both}
use Rattle.events.specs.Run.{FullRun}
use Rattle.events.specs.declared.event.Event.{Event}
use Rattle.runlog.specs.Spelling.{spelling}
use Rattle.runlog.specs.Reading.{reading, shown, answer}
use Rattle.runlog.specs.FirstFault.{FirstFault}
use Rattle.runlog.specs.declared.fault.LogFault.{LogFault}
use Rattle.runlog.specs.declared.log.Log.{Log}

-- the run that a log shows
abbrev pub run_of : Log → List Event
run_of l = shown l.bytes.now

-- the caller's place holds a log over the bytes themselves; refused, it is as it was
abbrev pub Holds : Bor (List ℕ) → Log → Log → Result (Unit {0}) LogFault → Type 0
Holds bytes old new (Ok u) = new.bytes ≡ bytes
Holds bytes old new (Err f) = new ≡ old

-- the bytes s open, and the caller's place then shows the run x, exactly when s is the spelling of x and x is full
abbrev pub Opens : List ℕ → List Event → Result (Unit {0}) LogFault → Type 0
Opens s shows r = (x : List Event) → (IsOk r × (shows ≡ x)) ↔ ((s ≡ spelling x) × FullRun x)

-- they are refused for exactly the first fault
abbrev pub Refuses : List ℕ → Result (Unit {0}) LogFault → Type 0
Refuses s r = (f : LogFault) → (r ≡ Err f) ↔ FirstFault s f

-- as a value: a log over the bytes themselves, which shows the run x exactly when they are the spelling of x and x is full;
-- or else exactly the first fault
pub record LogOf (bytes : Bor (List ℕ)) (r : Result Log LogFault) : Type 0 where
  pub answers : result_map_both (λ _. tt) (λ f. f) r ≡ answer (reading bytes.now)
  pub holds : IfOk r (λ l. l.bytes ≡ bytes)
  pub opens : (x : List Event) → IsOkAnd r (λ l. run_of l ≡ x) ↔ ((bytes.now ≡ spelling x) × FullRun x)
  pub refuses : (f : LogFault) → (r ≡ Err f) ↔ FirstFault bytes.now f
