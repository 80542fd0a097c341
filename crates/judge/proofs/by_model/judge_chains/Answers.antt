use Rattle.std.proofs.Common.{sym, ap, subst}
use Rattle.relation.specs.Pairs.{Pairs}
use Rattle.models.specs.Joined.{Joined}
use Rattle.judge.proofs.Verdicts.{hb_path, says_at}
use Rattle.judge.proofs.by_model.judge_chains.Goals as goal

pub judge_whole-requires-clause-causal : goal.judge_whole-requires-clause-causal
judge_whole-requires-clause-causal g c =
    let full = g.met.E.Execution.full (c.args.causal.now.run.now) in
    subst (λ r. Joined (g.E.Execution.events r) (Pairs (c.happens_before-hb.result))) (sym (c.requires.same))
    (λ a b t. hb_path _ full _ (g.met.R.Rule.joined (c.args.rule.now) _ full) a b ((c.happens_before-hb.ensures.decides a b).0 t))

pub returns-in-Location : goal.returns-in-Location
returns-in-Location g c =
    let full = g.met.E.Execution.full (c.args.causal.now.run.now) in
    says_at _ _ (ap (g.E.Execution.events) (c.requires.same)) full _ (g.met.R.Rule.joined (c.args.rule.now) _ full) _ (c.args.causal.now.ordered) (c.args.chains.now.single)
    _ _ (c.in-Location.is) (c.requires.admits.1) _ (c.happens_before-hb.ensures.decides) _ _ _ _ _ (c.judge_location.ensures)

pub returns-in-Whole : goal.returns-in-Whole
returns-in-Whole g c =
    let full = g.met.E.Execution.full (c.args.causal.now.run.now) in
    says_at _ _ (ap (g.E.Execution.events) (c.requires.same)) full _ (g.met.R.Rule.joined (c.args.rule.now) _ full) _ (c.args.causal.now.ordered) (c.args.chains.now.single)
    _ _ (c.in-Whole.is) (c.requires.admits.1) _ (c.happens_before-hb.ensures.decides) _ _ _ _ _ (c.judge_whole.ensures)

pub returns-in-Weak : goal.returns-in-Weak
returns-in-Weak g c =
    let full = g.met.E.Execution.full (c.args.causal.now.run.now) in
    says_at _ _ (ap (g.E.Execution.events) (c.requires.same)) full _ (g.met.R.Rule.joined (c.args.rule.now) _ full) _ (c.args.causal.now.ordered) (c.args.chains.now.single)
    _ _ (c.in-Weak.is) (c.requires.admits.1) _ (c.happens_before-hb.ensures.decides) _ _ _ _ _ (c.judge_weak.ensures _ _)
