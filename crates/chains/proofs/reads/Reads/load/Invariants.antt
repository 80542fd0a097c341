-- Through none of the loads so far does a read step lead from a to b.
use Rattle.std.proofs.Common.{ℕ, ◌<◌}
use Rattle.relation.specs.Pairs.{Pairs}
use Rattle.verdicts.specs.Steps.{ReadStep}
use Rattle.chains.proofs.reads.Reads.load.Given as goal

abbrev pub invariant-loop-r : goal.invariant-loop-r
invariant-loop-r g l = (r : ℕ) → r < l.r → ¬ ReadStep (g.E.Execution.events l.self.run.now) (Pairs l.hb) r l.a l.b
