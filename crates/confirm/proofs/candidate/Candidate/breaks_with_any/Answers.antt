use Rattle.std.proofs.Common.{below_more}
use Rattle.std.proofs.lemmas.Bool.{false≢true}
use Rattle.events.specs.Run.{Within}
use Rattle.models.specs.Orders.{Mo}
use Rattle.relation.specs.Pairs.{Pairs}
use Rattle.confirm.specs.Breaks.{PairBreaks}
use Rattle.confirm.proofs.candidate.Candidate.breaks_with_any.Goals as goal

pub loop-b-preserved : goal.loop-b-preserved
loop-b-preserved g c =
    let es = g.E.Execution.events (c.args.self.now.run.now) in
    below_more (λ b. Within es b → ¬ PairBreaks (c.args.which) (c.args.scope) es (Pairs (c.args.hb.now)) (Mo es (c.args.self.now.order.now)) (c.args.a) b)
    _ (c.loop-b.invariant) (λ w broken. false≢true (c.if-breaks.ensures.1 broken))
