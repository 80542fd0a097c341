use Rattle.toposort.specs.Scratch.{ClearBelow}
use Rattle.toposort.proofs.ready.blocker.Given as goal

abbrev pub invariant-loop-u : goal.invariant-loop-u
invariant-loop-u g l = ClearBelow (g.G.Graph.size l.graph) (g.G.Graph.edge l.graph) l.listed l.node l.u
