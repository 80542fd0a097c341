-- Every store so far has a place.
use Rattle.std.proofs.Common.{ℕ, ◌<◌, get_or}
use Rattle.events.specs.Run.{Store}
use Rattle.confirm.proofs.candidate.all_placed.Given as goal

abbrev pub invariant-loop-w : goal.invariant-loop-w
invariant-loop-w g l = (v : ℕ) → v < l.w → Store (g.E.Execution.events l.run) v → 0 < get_or l.places v 0
