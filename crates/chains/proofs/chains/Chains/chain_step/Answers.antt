use Rattle.chains.proofs.Members.{heads_kept}
use Rattle.chains.proofs.StoreSteps.{chain_step_lifts, step_found}
use Rattle.chains.proofs.chains.Chains.chain_step.Goals as goal

pub invariant_of-lift : goal.invariant_of-lift
invariant_of-lift g c =
    let fits = heads_kept _ _ (c.args.self.now.headed) (g.met.E.Execution.full _) _ (c.args.self.now.ordered) in record { from_fits = fits; to_fits = fits }

pub returns-in_default : goal.returns-in_default
returns-in_default g c s =
    c.in_default.ensures (chain_step_lifts _ (g.met.E.Execution.full _) _ (c.args.self.now.headed) _ (c.args.self.now.ordered) _ _ _ s)

pub returns : goal.returns
returns g c =
    step_found _ (g.met.E.Execution.full _) _ (c.args.self.now.headed) _ (c.args.self.now.ordered) _ _ _ _ _ (c.in-Some.ensures) _ (c.step_between.ensures)
