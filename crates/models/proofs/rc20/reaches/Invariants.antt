-- Everything that was seen leads back to something seen, or to where the walk stands.
use Rattle.std.proofs.Common.{not}
use Rattle.std.specs.List.{count_by}
use Rattle.models.proofs.Walks.{Walking}
use Rattle.models.proofs.rc20.reaches.Given as goal

abbrev pub invariant-loop-w : goal.invariant-loop-w
invariant-loop-w g l = Walking (g.E.Execution.events l.run) l.a l.r l.seen l.at

abbrev pub decreases-loop-w : goal.decreases-loop-w
decreases-loop-w g l = count_by not l.seen
