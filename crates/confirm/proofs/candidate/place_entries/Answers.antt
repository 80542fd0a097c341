use Rattle.std.proofs.Common.{refl, arith}
use Rattle.confirm.proofs.Places.{places_more}
use Rattle.confirm.proofs.candidate.place_entries.Goals as goal

pub loop-i-preserved : goal.loop-i-preserved
loop-i-preserved g c =
    let follows = c.if-not-may_follow.ensures.0 refl in
    let few = (g.met.E.Execution.full (c.args.run.now)).few in
    let high = follows.0.0.1 in
    places_more _ _ _ _ (c.loop-i.invariant) follows (omega arith) _ (c.from.ensures)
