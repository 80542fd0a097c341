-- The stores so far are kept.
use Rattle.chains.proofs.Kept.{StoresBelow}
use Rattle.chains.proofs.reads.fill_stores.Given as goal

abbrev pub invariant-loop-x : goal.invariant-loop-x
invariant-loop-x g l = StoresBelow (g.E.Execution.events l.run) l.x l.stores
