-- The writers of the loads so far are kept.
use Rattle.chains.proofs.Kept.{WritersBelow}
use Rattle.chains.proofs.reads.fill_writers.Given as goal

abbrev pub invariant-loop-x : goal.invariant-loop-x
invariant-loop-x g l = WritersBelow (g.E.Execution.events l.run) l.x l.writers
