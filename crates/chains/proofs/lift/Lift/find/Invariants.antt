-- None of the events so far leads from a to b.
use Rattle.std.proofs.Common.{ℕ, ◌<◌}
use Rattle.relation.specs.Pairs.{Pairs}
use Rattle.chains.specs.Lift.{LiftsFrom}
use Rattle.chains.proofs.lift.Lift.find.Given as goal

abbrev pub invariant-loop-x : goal.invariant-loop-x
invariant-loop-x g l =
    (x : ℕ) → x < l.x → ¬ LiftsFrom (g.E.Execution.events l.self.run.now) (Pairs l.self.hb.now) l.self.from.now l.self.to.now x l.a l.b
