use Rattle.models.proofs.Inside.{sw_joins}
use Rattle.models.proofs.rule.sw.Goals as goal

pub returns : goal.returns
returns g c =
    let full = g.met.E.Execution.full (c.args.x.now) in
    record { decides = c.syncs.ensures; joins = sw_joins _ _ full (g.met.R.Rule.joined (c.args.rule.now) _ full) }
