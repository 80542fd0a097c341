-- No event so far breaks the axiom with another.
use Rattle.std.proofs.Common.{ℕ, ◌<◌}
use Rattle.events.specs.Run.{Within}
use Rattle.models.specs.Orders.{Mo}
use Rattle.relation.specs.Pairs.{Pairs}
use Rattle.confirm.specs.Breaks.{PairBreaks}
use Rattle.confirm.proofs.candidate.Candidate.has_breaking_pair.Given as goal

abbrev pub invariant-loop-a : goal.invariant-loop-a
invariant-loop-a g l =
    let es = g.E.Execution.events l.self.run.now in
    (a : ℕ) → a < l.a → Within es a → (b : ℕ) → Within es b → ¬ PairBreaks l.which l.scope es (Pairs l.hb) (Mo es l.self.order.now) a b
