-- x before none of the events so far comes to a step back.
use Rattle.std.proofs.Common.{ℕ, ◌<◌}
use Rattle.relation.specs.Pairs.{Pairs}
use Rattle.chains.specs.Ends.{LeadsBack}
use Rattle.chains.proofs.chains.Chains.back_from.Given as goal

abbrev pub invariant-loop-y : goal.invariant-loop-y
invariant-loop-y g l = (y : ℕ) → y < l.y → ¬ LeadsBack (g.E.Execution.events l.self.run.now) (Pairs l.hb) l.x y
