use Rattle.std.proofs.Common.{ℕ, ◌<◌, ◌≢◌, get_or, arith}
use Rattle.toposort.proofs.Walks.{trail_room, trail_more, trail_cycle}
use Rattle.toposort.proofs.cycle.walk_back.Goals as goal

pub bounds-path-count : goal.bounds-path-count
bounds-path-count g c =
    let r = trail_room _ _ _ _ _ _ c.walk.invariant (λ j h. c.loop-i.invariant j (omega arith)) in
    omega (arith, g.met.G.Graph.small c.args.graph.now)

pub walk-smaller : goal.walk-smaller
walk-smaller g c =
    let r = trail_room _ _ _ _ _ _ c.walk.invariant (λ j h. c.loop-i.invariant j (omega arith)) in
    omega arith

pub walk-preserved : goal.walk-preserved
walk-preserved g c =
    let here = c.walk.invariant.here in
    let new : (j : ℕ) → j < c.walk.count → get_or c.walk.path j 0 ≢ c.walk.node = λ j h. c.loop-i.invariant j (omega arith) in
    let r = trail_room _ _ _ _ _ _ c.walk.invariant new in
    let back = c.requires.blocked _ here.0 here in
    rw c.from.ensures (trail_more _ _ _ _ _ _ c.walk.invariant new (omega (arith, g.met.G.Graph.small c.args.graph.now)) _ back.0 back.1)

pub returns-clause-cycle : goal.returns-clause-cycle
returns-clause-cycle g c =
    trail_cycle _ _ _ _ _ _ c.walk.invariant c.loop-i.i (omega arith) (omega (arith, g.met.G.Graph.small c.args.graph.now)) c.if-path-i.true
