use Rattle.std.proofs.Common.{refl}
use Rattle.toposort.proofs.Laws.{tells, between_acyclic}
use Rattle.models.proofs.Inside.{step_inside}
use Rattle.causality.proofs.causal.Causal.of.Goals as goal

pub returns-in-Ok : goal.returns-in-Ok
returns-in-Ok g c =
    let same = between_acyclic _ _ (step_inside _ (g.met.E.Execution.full _)) in
    (refl, same.0 ((tells _ _).listing _ (c.in-Ok.ensures.0)))

pub returns-in-Err : goal.returns-in-Err
returns-in-Err g c =
    let same = between_acyclic _ _ (step_inside _ (g.met.E.Execution.full _)) in
    (λ acyclic. (tells _ _).cycle _ (c.in-Err.ensures.1.0) (same.1 acyclic), c.in-Err.ensures)
