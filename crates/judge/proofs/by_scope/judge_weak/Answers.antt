use Rattle.std.proofs.Common.{refl, subst}
use Rattle.relation.specs.Pairs.{Pairs}
use Rattle.judge.specs.Search.{LowestWeak}
use Rattle.judge.proofs.Shown.{weak_shown}
use Rattle.judge.proofs.by_scope.judge_weak.Goals as goal

pub returns-in-Some : goal.returns-in-Some
returns-in-Some g c order steps =
    let found =
    subst (λ x. LowestWeak (g.E.Execution.events x) (Pairs (c.args.hb.now)) (c.in-Some.w) (c.in-Some.v) (c.in-Some.r))
    (c.run.ensures.same) (c.in-Some.ensures) in
    (weak_shown _ (g.met.E.Execution.full _) _ (c.args.chains.now.ordered) (c.args.chains.now.single) _ _ _ _ _ (found.1) (found.2), refl)
