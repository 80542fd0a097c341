-- For none of the loads so far does a store come between it and its writer.
use Rattle.std.proofs.Common.{ℕ, ◌<◌}
use Rattle.events.specs.Graph.{Rf}
use Rattle.relation.specs.Pairs.{Pairs}
use Rattle.judge.specs.Search.{NoneOverwrites}
use Rattle.judge.proofs.weak.weak_violation.Given as goal

abbrev pub invariant-loop-r : goal.invariant-loop-r
invariant-loop-r g l =
    let es = g.E.Execution.events l.run in
    (r : ℕ) → r < l.r → (w : ℕ) → Rf es w r → NoneOverwrites es (Pairs l.hb) w r
