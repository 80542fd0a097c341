use Rattle.std.proofs.Common.{below_more, arith}
use Rattle.relation.specs.Pairs.{Pairs}
use Rattle.chains.specs.Ends.{LeadsBack}
use Rattle.chains.proofs.StoreSteps.{back_within}
use Rattle.chains.proofs.chains.Chains.back_from.Goals as goal

pub loop-y-preserved : goal.loop-y-preserved
loop-y-preserved g c = below_more (λ y. ¬ LeadsBack _ (Pairs _) (c.args.x) y) _ (c.loop-y.invariant) (c.in_default.ensures)

pub returns : goal.returns
returns g c = λ (y, back).
    let high = (back_within _ (g.met.E.Execution.full _) (Pairs (c.args.hb.now)) _ _ back).1.1 in
    let end = c.loop-y-test.false in
    c.loop-y.invariant y (omega (arith, c.count-y-end.ensures)) back
