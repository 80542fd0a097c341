use Rattle.std.proofs.Common.{◌-◌, refl, arith}
use Rattle.causality.specs.Causal.{Step}
use Rattle.causality.proofs.Rows.{step_same, joins_from, rows_join, row_joins, rows_end}
use Rattle.causality.proofs.Orders.{order_apart, order_backed, order_in_range}
use Rattle.causality.proofs.causal.Causal.fill_row.Goals as goal

pub loop-i-preserved : goal.loop-i-preserved
loop-i-preserved g c =
    let es = g.E.Execution.events (c.args.self.now.run.now) in
    let full = g.met.E.Execution.full (c.args.self.now.run.now) in
    let order = c.args.self.now.ordered in
    let apart = order_apart _ _ full order in
    let k = c.requires.within in
    let i = c.loop-i-test.true in
    let joins =
    joins_from _ _ _ _ _ _ _ _ (c.from-p.ensures) (c.from-e.ensures)
    (order_in_range _ _ full order (c.args.k - 1 - c.loop-i.i) (omega arith)) (order_in_range _ _ full order (c.args.k) k)
    (c.insert.ensures.answers) (c.insert.ensures.adds) (c.absorb.ensures) in (
      rows_join _ _ _ apart _ (c.loop-i.i) _ _ _ _ k (omega arith) joins (c.loop-i.invariant.0),
      row_joins _ _ _ apart _ (c.loop-i.i) _ _ _ _ k (omega arith) joins (c.loop-i.invariant.0) (c.loop-i.invariant.1) (step_same (Step (g.R.Rule.pairs (c.args.rule.now) es) es) _ _ _ _ (c.from-p.ensures) (c.from-e.ensures) (c.if-not-steps.ensures.0 refl)),
    )

pub returns : goal.returns
returns g c =
    let full = g.met.E.Execution.full (c.args.self.now.run.now) in
    rows_end _ _ _ (order_backed _ _ full (c.args.self.now.ordered) _ (g.met.R.Rule.joined (c.args.rule.now) _ full))
    _ _ _ (c.requires.within) (c.loop-i-test.false) (c.loop-i.invariant.0) (c.loop-i.invariant.1)
