use Rattle.std.proofs.Common.{arith}
use Rattle.models.proofs.Walks.{rf_below}
use Rattle.chains.proofs.ends.end.Goals as goal

pub overflow_cast-result : goal.overflow_cast-result
overflow_cast-result g c = let low = rf_below _ _ _ (g.met.E.Execution.full _) (c.in-Some.ensures) in omega arith
