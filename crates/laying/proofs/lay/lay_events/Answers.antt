use Rattle.std.proofs.Common.{Err, length, take, ap, ◌∙◌, arith}
use Rattle.std.proofs.lemmas.Result.{err_from_is_err_and}
use Rattle.relation.specs.Pairs.{Pairs}
use Rattle.laying.proofs.EventOrder.{lays_events}
use Rattle.toposort.proofs.Same.{same_union, ordered_same, shown_same}
use Rattle.laying.proofs.lay.lay_events.Goals as goal

pub returns-in_err-order : goal.returns-in_err-order
returns-in_err-order g c =
    let (y, e, q) = err_from_is_err_and c.from_residual.result c.from_residual.ensures.1 in
    rw (e ∙ ap Err q) (shown_same _ _ _ (same_union _ _ _ c.steps-steps.ensures) _ _ _ c.in_err-order.ensures)

pub returns : goal.returns
returns g c =
    let es = g.E.Execution.events c.args.reads.now.run.now in
    let order = ordered_same _ _ _ (same_union _ _ _ c.steps-steps.ensures) (take (length es) c.in_ok-order.order) c.in_ok-order.ensures.0 in
    let laid = rw (c.count.ensures, c.run-run.ensures) at c.lay_stores.ensures in
    let whole = order.whole in
    let few = laid.few in (
      omega arith,
      (lays_events es (Pairs c.args.hb.now) (take (length es) c.in_ok-order.order) order _ laid.lays.0, laid.lays.1),
    )
