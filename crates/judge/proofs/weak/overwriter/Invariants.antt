-- None of the events so far comes between.
use Rattle.std.proofs.Common.{ℕ, ◌<◌}
use Rattle.relation.specs.Pairs.{Pairs}
use Rattle.verdicts.specs.Steps.{Overwrites}
use Rattle.judge.proofs.weak.overwriter.Given as goal

abbrev pub invariant-loop-v : goal.invariant-loop-v
invariant-loop-v g l = (v : ℕ) → v < l.v → ¬ Overwrites (g.E.Execution.events l.run) (Pairs l.hb) l.w v l.r
