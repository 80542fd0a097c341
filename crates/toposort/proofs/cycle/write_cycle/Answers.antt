use Rattle.std.proofs.Common.{length, sym, ap, ◌∙◌}
use Rattle.toposort.specs.Cycle.{IsCycle}
use Rattle.toposort.proofs.Walks.{cycle_turned}
use Rattle.toposort.proofs.Writing.{writes_front}
use Rattle.toposort.proofs.cycle.write_cycle.Goals as goal

pub returns-clause-writes : goal.returns-clause-writes
returns-clause-writes g c =
    let turned = c.reverse.ensures.after in
    writes_front (IsCycle _ _) _ _ _ _ (ap length (sym turned)) (c.copy_from_slice.ensures.after ∙ turned) (cycle_turned _ _ _ c.walk_back-from.ensures.cycle)
