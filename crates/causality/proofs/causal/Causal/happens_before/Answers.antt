use Rattle.std.proofs.Common.{arith}
use Rattle.causality.proofs.Orders.{hb_inside, rows_all}
use Rattle.causality.proofs.causal.Causal.happens_before.Goals as goal

pub returns : goal.returns
returns g c =
    let full = g.met.E.Execution.full (c.args.self.now.run.now) in
    let joined = g.met.R.Rule.joined (c.args.rule.now) _ full in
    let end = c.loop-k-test.false in
    let all = rows_all _ _ full (c.args.self.now.ordered) _ joined _ _ (omega (arith, c.count-k-end.ensures)) (c.loop-k.invariant) in
    record { decides = all; inside = λ a b t. hb_inside _ full _ joined a b ((all a b).0 t) }
