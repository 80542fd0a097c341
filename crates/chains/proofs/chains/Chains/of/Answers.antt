use Rattle.std.proofs.Common.{rules, subst}
use Rattle.verdicts.specs.Absent.{NoTwins}
use Rattle.models.proofs.Marks.{same_everywhere}
use Rattle.chains.proofs.chains.Chains.of.Goals as goal

pub fill_heads-requires-clause-none : goal.fill_heads-requires-clause-none
fill_heads-requires-clause-none g c = search (rules, same_everywhere)

pub returns : goal.returns
returns g c = (c.run-run.ensures, subst (λ r. NoTwins (g.E.Execution.events r)) (c.run-run.ensures) (c.in_default.ensures))
