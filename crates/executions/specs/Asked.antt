-- What an execution answers when it is asked for an event.
use Rattle.std.specs.Prelude.{◌≡◌, ℕ, List, Ok, Err, Result}
use Rattle.events.specs.Run.{at, Within}
use Rattle.events.specs.declared.event.Event.{Event}
use Rattle.executions.specs.declared.fault.CheckerFault.{CheckerFault}
use Rattle.executions.specs.declared.fault.CheckerFault.TheVariants.{NoEvent}

-- event i of the run, and a refusal that names i exactly where the run has no such event
abbrev pub Asked : List Event → ℕ → Result Event CheckerFault → Type 0
Asked es i (Ok e) = Within es i × (e ≡ at es i)
Asked es i (Err f) = ¬ Within es i × (f ≡ NoEvent i)
