use Rattle.std.proofs.Common.{◌≢◌, ℕ, ◌-◌, ◌<◌, get_or}
use Rattle.toposort.proofs.Walks.{Trail}
use Rattle.toposort.proofs.cycle.walk_back.Given as goal

abbrev pub invariant-walk : goal.invariant-walk
invariant-walk g l = Trail (g.G.Graph.size l.graph) (g.G.Graph.edge l.graph) l.listed l.path l.count l.node

abbrev pub decreases-walk : goal.decreases-walk
decreases-walk g l = g.G.Graph.size l.graph - l.count

abbrev pub invariant-loop-i : goal.invariant-loop-i
invariant-loop-i g l = (j : ℕ) → j < l.i → get_or l.path j 0 ≢ l.node
