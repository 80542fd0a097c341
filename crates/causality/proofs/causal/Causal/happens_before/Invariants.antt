-- The rows so far are done.
use Rattle.std.proofs.Common.{length}
use Rattle.relation.specs.Pairs.{has}
use Rattle.causality.specs.Causal.{Step, event_at}
use Rattle.causality.specs.Rows.{Rows}
use Rattle.causality.proofs.causal.Causal.happens_before.Given as goal

abbrev pub invariant-loop-k : goal.invariant-loop-k
invariant-loop-k g l =
    let es = g.E.Execution.events l.self.run.now in
    Rows (Step (g.R.Rule.pairs l.rule es) es) (length es) (event_at l.self.listing) l.k l.k (has l.hb)
