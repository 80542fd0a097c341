use Rattle.std.proofs.Common.{◌+◌, refl, arith}
use Rattle.events.specs.Limits.{max_events}
use Rattle.toposort.specs.Listing.{Ordered}
use Rattle.toposort.proofs.Turns.{begun_none, begun_more, begun_left, begun_all}
use Rattle.toposort.proofs.Writing.{writes_front}
use Rattle.toposort.proofs.search.search.Goals as goal

pub loop-k-init : goal.loop-k-init
loop-k-init g c =
    let small = g.met.G.Graph.small c.args.graph.now in
    (refl, begun_none _ _ _ (max_events + 1) small (omega arith))

pub write_cycle-requires-clause-some : goal.write_cycle-requires-clause-some
write_cycle-requires-clause-some g c = begun_left _ _ _ _ _ _ c.loop-k.invariant.1 (omega arith)

pub loop-k-preserved : goal.loop-k-preserved
loop-k-preserved g c =
    (c.loop-k.invariant.0, begun_more _ _ _ _ _ _ _ _ c.loop-k.invariant.1 (omega arith) c.lowest_ready.ensures.from c.in-Some.ensures.lowest)

pub returns : goal.returns
returns g c =
    let turns = begun_all _ _ _ _ _ _ c.loop-k.invariant.1 (omega arith) in
    rw (c.size-n.ensures, c.loop-k.invariant.0) (writes_front (Ordered _ _) _ _ _ _ turns.whole (rw (← c.size-n.ensures) c.copy_from_slice.ensures.after) turns)
