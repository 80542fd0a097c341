use Rattle.std.proofs.Common.{arith}
use Rattle.models.proofs.Walks.{rf_below}
use Rattle.chains.proofs.fill.head.Goals as goal

pub offset_bounds-heads-w : goal.offset_bounds-heads-w
offset_bounds-heads-w g c = let low = rf_below _ _ _ (g.met.E.Execution.full _) (c.in-Some.ensures) in omega arith

pub bounds-heads-w : goal.bounds-heads-w
bounds-heads-w g c = let low = rf_below _ _ _ (g.met.E.Execution.full _) (c.in-Some.ensures) in omega arith
