-- No event so far carries what a releases on to b.
use Rattle.std.proofs.Common.{ℕ, ◌<◌}
use Rattle.events.specs.Graph.{Po}
use Rattle.models.specs.Walk.{Reaches, Walked}
use Rattle.models.proofs.rc20.arrives.Given as goal

abbrev pub invariant-loop-r : goal.invariant-loop-r
invariant-loop-r g l =
    let es = g.E.Execution.events l.run in
    Walked es l.a l.seen × ((q : ℕ) → q < l.r → Po es q l.b → ¬ Reaches es l.a q)
