-- A run that is being recorded.
use Rattle.std.specs.Prelude.{ℕ, ◌≤◌, ◌≢◌, List, length}
use Rattle.events.specs.Limits.{max_events}
use Rattle.events.specs.Raw.{Legal}
use Rattle.events.specs.Run.{at, Within, MayRead}
use Rattle.events.specs.declared.event.Event.{Event}

-- as a full run, but that a load may be without a writer yet
pub record OpenRun (es : List Event) : Type 0 where
  pub few : length es ≤ max_events
  pub legal : (i : ℕ) → Within es i → Legal (at es i)
  pub fitted : (i : ℕ) → (at es i).writer ≢ 0 → MayRead es (at es i).writer i
