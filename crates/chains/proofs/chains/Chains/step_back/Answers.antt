use Rattle.std.proofs.Common.{below_more, arith}
use Rattle.relation.specs.Pairs.{Pairs}
use Rattle.chains.specs.Ends.{LeadsBackFrom}
use Rattle.chains.proofs.Orders.{order_causal}
use Rattle.chains.proofs.StoreSteps.{no_back, none_all}
use Rattle.chains.proofs.chains.Chains.step_back.Goals as goal

pub loop-x-preserved : goal.loop-x-preserved
loop-x-preserved g c = below_more (λ x. ¬ LeadsBackFrom _ (Pairs _) x) _ (c.loop-x.invariant) (c.in_default.ensures)

pub returns : goal.returns
returns g c =
    let full = g.met.E.Execution.full (c.args.self.now.run.now) in
    no_back _ full (order_causal _ full _ (c.args.self.now.ordered)) _
    (none_all _ full _ _ (let end = c.loop-x-test.false in omega (arith, c.count-x-end.ensures)) (c.loop-x.invariant))
