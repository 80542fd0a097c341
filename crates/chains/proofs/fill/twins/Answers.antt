use Rattle.std.proofs.Common.{refl, arith, rules}
use Rattle.models.proofs.Marks.{same_everywhere}
use Rattle.models.proofs.Walks.{rf_below}
use Rattle.chains.proofs.Twins.{readers_none, readers_more, readers_all, lowest_twins}
use Rattle.chains.proofs.fill.twins.Goals as goal

pub loop-u-init : goal.loop-u-init
loop-u-init g c = readers_none _ _ (search rules) (search (rules, same_everywhere))

pub offset_bounds-readers-w : goal.offset_bounds-readers-w
offset_bounds-readers-w g c = let low = rf_below _ _ _ (g.met.E.Execution.full _) (c.in-Some.ensures) in omega arith

pub bounds-readers-w : goal.bounds-readers-w
bounds-readers-w g c = let low = rf_below _ _ _ (g.met.E.Execution.full _) (c.in-Some.ensures) in omega arith

pub offset_bounds-readers-w-then-readers-w-ne0 : goal.offset_bounds-readers-w-then-readers-w-ne0
offset_bounds-readers-w-then-readers-w-ne0 g c = let low = rf_below _ _ _ (g.met.E.Execution.full _) (c.in-Some.ensures) in omega arith

pub bounds-readers-w-then-readers-w-ne0 : goal.bounds-readers-w-then-readers-w-ne0
bounds-readers-w-then-readers-w-ne0 g c = let low = rf_below _ _ _ (g.met.E.Execution.full _) (c.in-Some.ensures) in omega arith

pub offset_bounds-readers-w-in-loop-u : goal.offset_bounds-readers-w-in-loop-u
offset_bounds-readers-w-in-loop-u g c = let low = rf_below _ _ _ (g.met.E.Execution.full _) (c.in-Some.ensures) in omega arith

pub bounds-readers-w-in-loop-u : goal.bounds-readers-w-in-loop-u
bounds-readers-w-in-loop-u g c = let low = rf_below _ _ _ (g.met.E.Execution.full _) (c.in-Some.ensures) in omega arith

pub returns-then-readers-w-ne0 : goal.returns-then-readers-w-ne0
returns-then-readers-w-ne0 g c = lowest_twins _ _ _ (c.loop-u.invariant) _ (c.if-not-is_update.ensures.0 refl) (c.in-Some.ensures) (c.if-readers-w-ne0.true)

pub loop-u-preserved : goal.loop-u-preserved
loop-u-preserved g c =
    let low = rf_below _ _ _ (g.met.E.Execution.full _) (c.in-Some.ensures) in
    readers_more _ _ _ (c.loop-u.invariant) _ low (c.if-not-is_update.ensures.0 refl) (c.in-Some.ensures) (c.if-readers-w-ne0.false)

pub returns : goal.returns
returns g c = readers_all _ _ _ (let end = c.loop-u-test.false in omega (arith, c.count-u-end.ensures)) (c.loop-u.invariant)
