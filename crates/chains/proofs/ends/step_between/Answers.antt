use Rattle.std.proofs.Common.{arith}
use Rattle.chains.proofs.Tops.{top_below}
use Rattle.chains.proofs.ends.step_between.Goals as goal

pub returns-in_default-end : goal.returns-in_default-end
returns-in_default-end g c a b t e = c.in_default-end.ensures b e

pub overflow_cast-result : goal.overflow_cast-result
overflow_cast-result g c = let low = top_below _ (g.met.E.Execution.full _) _ _ (c.in-Some.ensures) in omega arith
