use Rattle.std.proofs.Common.{ap, sym, ◌∙◌, subst}
use Rattle.relation.specs.Pairs.{Pairs}
use Rattle.events.specs.Graph.{Inside}
use Rattle.confirm.proofs.Findings.{confirmed}
use Rattle.confirm.proofs.by_model.confirm_at.Goals as goal

pub finding-requires-clause-inside : goal.finding-requires-clause-inside
finding-requires-clause-inside g c =
    subst (λ x. Inside (g.E.Execution.events x) (Pairs (c.happens_before-hb.result))) (c.in-Ok.ensures.0 ∙ sym (c.in-Some.ensures.0))
    (c.happens_before-hb.ensures.inside)

pub returns : goal.returns
returns g c = (
  c.in-Some.ensures.2,
  confirmed _ (g.R.Rule.pairs (c.args.rule.now)) (g.E.Execution.events (c.args.run.now)) _ _ (c.args.order.now) _ _ _ (ap (g.E.Execution.events) (c.in-Some.ensures.0))
      (ap (g.E.Execution.events) (c.in-Ok.ensures.0)) (c.in-Some.ensures.1) (c.happens_before-hb.ensures.decides) (c.finding.ensures),
)
