use Rattle.chains.proofs.Members.{heads_kept}
use Rattle.chains.proofs.StoreSteps.{all_added, lifts_chain_step, chain_step_lifts}
use Rattle.chains.proofs.chains.Chains.chain_steps.Goals as goal

pub invariant_of-lift : goal.invariant_of-lift
invariant_of-lift g c =
    let fits = heads_kept _ _ (c.args.self.now.headed) (g.met.E.Execution.full _) _ (c.args.self.now.ordered) in record { from_fits = fits; to_fits = fits }

pub returns : goal.returns
returns g c a b =
    let full = g.met.E.Execution.full _ in
    all_added _ _ _ _ (c.empty-steps.ensures a b) (c.add.ensures a b)
    (lifts_chain_step _ full _ (c.args.self.now.headed) _ (c.args.self.now.ordered) _ a b)
    (chain_step_lifts _ full _ (c.args.self.now.headed) _ (c.args.self.now.ordered) _ a b)
