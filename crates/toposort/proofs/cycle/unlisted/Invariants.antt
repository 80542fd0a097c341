use Rattle.std.proofs.Common.{◌≡◌, ℕ, ◌<◌, true, false, get_or}
use Rattle.toposort.specs.Graph.{Node}
use Rattle.toposort.proofs.cycle.unlisted.Given as goal

abbrev pub invariant-loop-node : goal.invariant-loop-node
invariant-loop-node l = (w : ℕ) → Node l.n w → w < l.node → get_or l.listed w false ≡ true
