use Rattle.std.proofs.Common.{subst}
use Rattle.models.proofs.Orders.{mo_orders}
use Rattle.confirm.specs.Confirm.{Confirms}
use Rattle.confirm.proofs.Findings.{passes}
use Rattle.confirm.proofs.by_model.confirm_under.Goals as goal

pub returns : goal.returns
returns g c =
    let es = g.E.Execution.events (c.args.run.now) in
    let sw = g.M.Synchronises.Rule.pairs (c.args.rule.now) es in
    let answers : Confirms (g.M.Model.SCOPE) sw es (c.args.order.now) (c.confirm_at.result) =
    subst (λ s. Confirms s sw es (c.args.order.now) (c.confirm_at.result)) (c.SCOPE.ensures) (c.confirm_at.ensures) in
    record { answers = answers; passes = passes _ _ _ _ _ answers; orders = mo_orders es }
