-- No event so far breaks the axiom with a.
use Rattle.std.proofs.Common.{ℕ, ◌<◌}
use Rattle.events.specs.Run.{Within}
use Rattle.models.specs.Orders.{Mo}
use Rattle.relation.specs.Pairs.{Pairs}
use Rattle.confirm.specs.Breaks.{PairBreaks}
use Rattle.confirm.proofs.candidate.Candidate.breaks_with_any.Given as goal

abbrev pub invariant-loop-b : goal.invariant-loop-b
invariant-loop-b g l =
    let es = g.E.Execution.events l.self.run.now in
    (b : ℕ) → b < l.b → Within es b → ¬ PairBreaks l.which l.scope es (Pairs l.hb) (Mo es l.self.order.now) l.a b
