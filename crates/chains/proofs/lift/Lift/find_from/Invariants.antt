-- x leads from a to b before none of the events so far.
use Rattle.std.proofs.Common.{ℕ, ◌<◌}
use Rattle.relation.specs.Pairs.{Pairs}
use Rattle.chains.specs.Lift.{LiftsBy}
use Rattle.chains.proofs.lift.Lift.find_from.Given as goal

abbrev pub invariant-loop-y : goal.invariant-loop-y
invariant-loop-y g l =
    (y : ℕ) → y < l.y → ¬ LiftsBy (g.E.Execution.events l.self.run.now) (Pairs l.self.hb.now) l.self.from.now l.self.to.now l.x y l.a l.b
