use Rattle.std.proofs.Common.{Err, length, take, ap, ◌∙◌, arith}
use Rattle.std.proofs.lemmas.List.{length-take}
use Rattle.std.proofs.lemmas.Result.{err_from_is_err_and}
use Rattle.relation.specs.Pairs.{Pairs}
use Rattle.chains.proofs.Orders.{order_numbers}
use Rattle.laying.proofs.ChainBlocks.{members_once, lays_chains}
use Rattle.toposort.proofs.Same.{ordered_same, shown_same}
use Rattle.laying.proofs.lay.lay_chains.Goals as goal

pub returns-in_err-listing : goal.returns-in_err-listing
returns-in_err-listing g c =
    let (y, e, q) = err_from_is_err_and c.from_residual.result c.from_residual.ensures.1 in
    rw (e ∙ ap Err q) (shown_same _ _ _ c.chain_steps-steps.ensures _ _ _ c.in_err-listing.ensures)

pub lay_stores-requires-clause-fits : goal.lay_stores-requires-clause-fits
lay_stores-requires-clause-fits g c i lt =
    let (j, less, e) = (c.gather-count.ensures.gathers.only i lt).0 in
    let fits = (order_numbers _ (g.met.E.Execution.full _) _ c.causal_order.ensures).fit j less in
    omega arith

pub lay_stores-requires-clause-once : goal.lay_stores-requires-clause-once
lay_stores-requires-clause-once g c =
    let es = g.E.Execution.events c.args.chains.now.run.now in
    members_once es (g.met.E.Execution.full _) c.run-run.ensures.single (Pairs c.args.hb.now) _ c.causal_order.ensures _ c.heads.ensures
    (take (length es) c.in_ok-listing.listing) (ordered_same _ _ _ c.chain_steps-steps.ensures _ c.in_ok-listing.ensures.0) _
    (rw (c.count.ensures, c.run-run.ensures.same) at c.gather-count.ensures.gathers)

pub returns : goal.returns
returns g c =
    let es = g.E.Execution.events c.args.chains.now.run.now in
    let laid = rw c.run-run.ensures.same at c.lay_stores.ensures in
    let size = length-take c.gather-count.result c.gather-count.new.into in
    let many = c.gather-count.ensures.few in
    let few = laid.few in
    let whole = c.causal_order.ensures.whole in (
      omega arith,
      (
        lays_chains es (g.met.E.Execution.full _) c.run-run.ensures.single (Pairs c.args.hb.now) _ c.causal_order.ensures _ c.heads.ensures
            (take (length es) c.in_ok-listing.listing) (ordered_same _ _ _ c.chain_steps-steps.ensures _ c.in_ok-listing.ensures.0) _
            (rw (c.count.ensures, c.run-run.ensures.same) at c.gather-count.ensures.gathers) _ laid.lays.0,
        laid.lays.1,
      ),
    )
