use Rattle.std.proofs.Common.{refl, sym, subst, arith}
use Rattle.verdicts.specs.Violations.{AreTwins}
use Rattle.judge.specs.Judges.{Says}
use Rattle.judge.proofs.Verdicts.{says_causal, says_twin, room_for}
use Rattle.judge.proofs.by_model.judge_admitted.Goals as goal

pub returns-in-Err : goal.returns-in-Err
returns-in-Err g c =
    let full = g.met.E.Execution.full (c.args.run.now) in
    let few = full.few in
    let short = c.in-Err.ensures.1.0 in
    let room = room_for _ _ (c.requires.0) in
    let es = g.E.Execution.events (c.args.run.now) in
    subst (λ v. Says (c.args.scope) (g.R.Rule.pairs (c.args.rule.now) es) es (c.args.order.now) (c.args.order.now) (c.args.steps.now) (c.show_cycle.new.steps) v) (sym (c.show_cycle.ensures.answers))
    (says_causal _ full _ (g.met.R.Rule.joined (c.args.rule.now) _ full) _ (c.requires.1) _ _ refl _ _ _ (omega arith) (omega arith) (c.show_cycle.ensures.rest) (c.show_cycle.ensures.shows))

pub returns-in-Err-of : goal.returns-in-Err-of
returns-in-Err-of g c =
    let full = g.met.E.Execution.full (c.args.run.now) in
    says_twin _ full _ (g.met.R.Rule.joined (c.args.rule.now) _ full) _ (c.requires.1) _ _ refl _ _ (c.in-Ok.ensures.1) _ _
    (subst (λ r. AreTwins (g.E.Execution.events r) (c.in-Err-of.u) (c.in-Err-of.v)) (c.in-Ok.ensures.0) (c.in-Err-of.ensures.second.is)) refl
