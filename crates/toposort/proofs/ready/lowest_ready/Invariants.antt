use Rattle.std.proofs.Common.{ℕ, ◌<◌}
use Rattle.toposort.specs.Graph.{Node}
use Rattle.toposort.specs.Scratch.{AllBlockedFrom, Blocked}
use Rattle.toposort.proofs.ready.lowest_ready.Given as goal

abbrev pub invariant-loop-node : goal.invariant-loop-node
invariant-loop-node g l =
    let n = g.G.Graph.size l.graph in
    let E = g.G.Graph.edge l.graph in
    AllBlockedFrom n E l.listed l.blockers × ((w : ℕ) → Node n w → w < l.node → Blocked n E l.listed l.blockers w)
