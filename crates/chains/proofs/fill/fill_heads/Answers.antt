use Rattle.std.proofs.Common.{arith}
use Rattle.chains.proofs.Orders.{order_numbers}
use Rattle.chains.proofs.Heads.{heads_more, heads_all}
use Rattle.chains.proofs.fill.fill_heads.Goals as goal

pub loop-k-preserved : goal.loop-k-preserved
loop-k-preserved g c =
    let full = g.met.E.Execution.full (c.args.run.now) in
    let order = c.requires.ordered in
    let whole = order.whole in
    let numbers = order_numbers _ full _ order in
    let high = numbers.fit (c.loop-k.k) (c.loop-k-test.true) in
    heads_more _ full _ order _ _ _ _ (omega arith) (c.from-e.ensures) (omega arith) (c.loop-k.invariant) (c.head.ensures)

pub returns : goal.returns
returns g c =
    let whole = c.requires.ordered.whole in
    let end = c.loop-k-test.false in
    let before = c.loop-k.auto.k-end in
    heads_all _ (g.met.E.Execution.full _) _ (c.requires.ordered) _ _ (omega arith) (omega arith) (c.loop-k.invariant)
