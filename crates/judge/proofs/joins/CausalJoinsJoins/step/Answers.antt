use Rattle.std.proofs.Common.{arith}
use Rattle.models.proofs.Inside.{step_inside}
use Rattle.judge.proofs.joins.CausalJoinsJoins.step.Goals as goal

pub overflow_cast-result : goal.overflow_cast-result
overflow_cast-result g c =
    let full = g.met.E.Execution.full (c.args.self.now.run.now) in
    let few = full.few in
    let high = (step_inside _ full _ _ (c.requires)).0.1 in
    omega arith
