-- The rows before are done, and this one as far as the loop has come.
use Rattle.std.proofs.Common.{◌+◌, length}
use Rattle.relation.specs.Pairs.{has}
use Rattle.causality.specs.Causal.{Step, event_at}
use Rattle.causality.specs.Rows.{Rows, Row}
use Rattle.causality.proofs.causal.Causal.fill_row.Given as goal

abbrev pub invariant-loop-i : goal.invariant-loop-i
invariant-loop-i g l =
    let es = g.E.Execution.events l.self.run.now in
    let step = Step (g.R.Rule.pairs l.rule es) es in
    Rows step (length es) (event_at l.self.listing) l.k (l.k + 1) (has l.hb) × Row step (length es) (event_at l.self.listing) l.k l.i (has l.hb)
