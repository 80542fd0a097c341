-- The pairs to which one of the events so far leads are there.
use Rattle.relation.specs.Pairs.{Pairs}
use Rattle.chains.specs.Lift.{LiftsFrom}
use Rattle.chains.proofs.Lifts.{AddedBelow}
use Rattle.chains.proofs.lift.Lift.add.Given as goal

abbrev pub invariant-loop-x : goal.invariant-loop-x
invariant-loop-x g l =
    AddedBelow (Pairs l.initial.edges) (LiftsFrom (g.E.Execution.events l.self.run.now) (Pairs l.self.hb.now) l.self.from.now l.self.to.now) l.x (Pairs l.edges)
