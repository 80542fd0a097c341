use Rattle.relation.specs.Pairs.{Pairs}
use Rattle.chains.proofs.StoreSteps.{both_added, stores_kept, writers_kept, stored_read, read_read, read_lifts}
use Rattle.chains.proofs.reads.Reads.steps.Goals as goal

pub invariant_of-stored : goal.invariant_of-stored
invariant_of-stored g c =
    let full = g.met.E.Execution.full _ in
    record { from_fits = stores_kept _ full _ _ (c.args.self.now.of_stores) (c.args.self.now.of_writers); to_fits = writers_kept _ full _ _ (c.args.self.now.of_stores) (c.args.self.now.of_writers) }

pub invariant_of-read : goal.invariant_of-read
invariant_of-read g c =
    let fits = writers_kept _ (g.met.E.Execution.full _) _ _ (c.args.self.now.of_stores) (c.args.self.now.of_writers) in record { from_fits = fits; to_fits = fits }

pub returns : goal.returns
returns g c a b =
    both_added _ _ _ _ _ _ (c.empty-steps.ensures a b) (c.add.ensures a b) (c.add-2.ensures a b)
    (λ (x, (y, l)). (y, stored_read _ (g.met.E.Execution.full _) _ _ (c.args.self.now.of_stores) (c.args.self.now.of_writers) (Pairs (c.args.hb.now)) a b x y l))
    (λ (x, (y, l)). (y, read_read _ (g.met.E.Execution.full _) _ _ (c.args.self.now.of_stores) (c.args.self.now.of_writers) (Pairs (c.args.hb.now)) a b x y l))
    (read_lifts _ (g.met.E.Execution.full _) _ _ (c.args.self.now.of_stores) (c.args.self.now.of_writers) (Pairs (c.args.hb.now)) a b)
