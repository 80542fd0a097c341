-- None of the events so far comes to a step back.
use Rattle.std.proofs.Common.{ℕ, ◌<◌}
use Rattle.relation.specs.Pairs.{Pairs}
use Rattle.chains.specs.Ends.{LeadsBackFrom}
use Rattle.chains.proofs.chains.Chains.step_back.Given as goal

abbrev pub invariant-loop-x : goal.invariant-loop-x
invariant-loop-x g l = (x : ℕ) → x < l.x → ¬ LeadsBackFrom (g.E.Execution.events l.self.run.now) (Pairs l.hb) x
