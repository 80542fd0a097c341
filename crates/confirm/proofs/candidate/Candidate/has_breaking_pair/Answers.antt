use Rattle.std.proofs.Common.{ℕ, below_more}
use Rattle.std.proofs.lemmas.Bool.{false≢true}
use Rattle.events.specs.Run.{Within}
use Rattle.models.specs.Orders.{Mo}
use Rattle.relation.specs.Pairs.{Pairs}
use Rattle.confirm.specs.Breaks.{PairBreaks}
use Rattle.confirm.proofs.candidate.Candidate.has_breaking_pair.Goals as goal

pub loop-a-preserved : goal.loop-a-preserved
loop-a-preserved g c =
    let es = g.E.Execution.events (c.args.self.now.run.now) in
    below_more (λ a. Within es a → (b : ℕ) → Within es b → ¬ PairBreaks (c.args.which) (c.args.scope) es (Pairs (c.args.hb.now)) (Mo es (c.args.self.now.order.now)) a b)
    _ (c.loop-a.invariant) (λ w b v broken. false≢true (c.if-breaks_with_any.ensures.1 (b, v, broken)))
