use Rattle.std.proofs.Common.{◌≡◌}
use Rattle.toposort.proofs.Turns.{Begun}
use Rattle.toposort.proofs.search.search.Given as goal

abbrev pub invariant-loop-k : goal.invariant-loop-k
invariant-loop-k g l =
    (l.listing ≡ l.fn.listing)
    × Begun (g.G.Graph.size l.graph) (g.G.Graph.edge l.graph) l.order l.k l.listed l.blockers
