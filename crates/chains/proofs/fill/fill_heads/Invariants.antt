-- The heads so far are there.
use Rattle.chains.proofs.Heads.{HeadsUpTo}
use Rattle.chains.proofs.fill.fill_heads.Given as goal

abbrev pub invariant-loop-k : goal.invariant-loop-k
invariant-loop-k g l = HeadsUpTo (g.E.Execution.events l.run) l.order l.k l.heads
