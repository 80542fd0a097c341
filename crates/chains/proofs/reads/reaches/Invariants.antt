-- None of the loads so far reads from a and happens before r.
use Rattle.std.proofs.Common.{ℕ, ◌<◌}
use Rattle.events.specs.Graph.{Rf}
use Rattle.relation.specs.Pairs.{Pairs}
use Rattle.chains.proofs.reads.reaches.Given as goal

abbrev pub invariant-loop-x : goal.invariant-loop-x
invariant-loop-x g l = (x : ℕ) → x < l.x → Rf (g.E.Execution.events l.run) l.a x → ¬ Pairs l.hb x l.r
