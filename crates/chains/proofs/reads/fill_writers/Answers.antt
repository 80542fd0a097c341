use Rattle.std.proofs.Common.{arith}
use Rattle.models.proofs.Walks.{rf_below}
use Rattle.chains.proofs.reads.fill_writers.Goals as goal

pub overflow_cast-writers : goal.overflow_cast-writers
overflow_cast-writers g c = let low = rf_below _ _ _ (g.met.E.Execution.full _) (c.in-Some.ensures) in omega arith
