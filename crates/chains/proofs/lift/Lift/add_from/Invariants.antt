-- The pairs to which x leads before one of the events so far are there.
use Rattle.relation.specs.Pairs.{Pairs}
use Rattle.chains.specs.Lift.{LiftsBy}
use Rattle.chains.proofs.Lifts.{AddedBelow}
use Rattle.chains.proofs.lift.Lift.add_from.Given as goal

abbrev pub invariant-loop-y : goal.invariant-loop-y
invariant-loop-y g l =
    AddedBelow (Pairs l.initial.edges) (LiftsBy (g.E.Execution.events l.self.run.now) (Pairs l.self.hb.now) l.self.from.now l.self.to.now l.x) l.y (Pairs l.edges)
