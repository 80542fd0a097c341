-- The locations of the stores so far are kept.
use Rattle.std.proofs.Common.{◌≡◌, ◌+◌, length}
use Rattle.events.specs.Limits.{max_events}
use Rattle.laying.proofs.Kept.{LocationsBelow}
use Rattle.laying.proofs.stores.store_locations.Given as goal

abbrev pub invariant-loop-x : goal.invariant-loop-x
invariant-loop-x g l = (length l.locations ≡ max_events + 1) × LocationsBelow (g.E.Execution.events l.run) l.x l.locations
