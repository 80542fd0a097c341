-- None of the events so far is an update.
use Rattle.std.proofs.Common.{ℕ, ◌<◌}
use Rattle.events.specs.Run.{Update}
use Rattle.judge.proofs.refusals.lowest_update.Given as goal

abbrev pub invariant-loop-u : goal.invariant-loop-u
invariant-loop-u g l = (u : ℕ) → u < l.u → ¬ Update (g.E.Execution.events l.run) u
