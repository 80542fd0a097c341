use Rattle.std.proofs.Common.{◌∙◌, below_more, arith}
use Rattle.relation.specs.Pairs.{Pairs}
use Rattle.chains.specs.Lift.{LiftsFrom}
use Rattle.chains.proofs.Lifts.{lifts_inside}
use Rattle.chains.proofs.lift.Lift.find.Goals as goal

pub loop-x-preserved-then-kept-a : goal.loop-x-preserved-then-kept-a
loop-x-preserved-then-kept-a g c =
    below_more (λ x. ¬ LiftsFrom _ (Pairs _) _ _ x (c.args.a) (c.args.b)) _ (c.loop-x.invariant) (λ (y, (l, (e, p), k, n)). c.if-kept-a.true (c.kept.ensures ∙ e))

pub loop-x-preserved : goal.loop-x-preserved
loop-x-preserved g c = below_more (λ x. ¬ LiftsFrom _ (Pairs _) _ _ x (c.args.a) (c.args.b)) _ (c.loop-x.invariant) (c.in_default.ensures)

pub returns : goal.returns
returns g c = λ (x, (y, l)).
    let w = (lifts_inside _ (Pairs (c.args.self.now.hb.now)) _ _ (c.args.self.now.from_fits) (c.args.self.now.to_fits) x y _ _ l).0 in
    let high = w.1 in
    let end = c.loop-x-test.false in
    c.loop-x.invariant x (omega (arith, c.count-x-end.ensures)) (y, l)
