use Rattle.verdicts.proofs.OneLaid.{one_laid}
use Rattle.judge.proofs.Verdicts.{rules_out}
use Rattle.judge.proofs.by_model.judge_under.Goals as goal

pub returns-clause-one : goal.returns-clause-one
returns-clause-one g c = one_laid _ _ _

pub returns-clause-rules_out : goal.returns-clause-rules_out
returns-clause-rules_out g c =
    let full = g.met.E.Execution.full (c.args.run.now) in rules_out _ full _ (g.met.M.Synchronises.Rule.joined (c.args.rule.now) _ full) _
