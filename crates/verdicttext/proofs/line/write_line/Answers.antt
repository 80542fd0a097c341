use Rattle.verdicttext.proofs.Lowest.{lowest_first}
use Rattle.verdicttext.proofs.Parted.{parted}
use Rattle.verdicttext.proofs.line.write_line.Goals as goal

pub returns-then-put_line-text-clause-groups : goal.returns-then-put_line-text-clause-groups
returns-then-put_line-text-clause-groups g c = parted (g.E.Execution.events c.args.run.now)

pub returns-then-put_line-text-clause-turns : goal.returns-then-put_line-text-clause-turns
returns-then-put_line-text-clause-turns g c = lowest_first

pub returns-clause-groups : goal.returns-clause-groups
returns-clause-groups g c = parted (g.E.Execution.events c.args.run.now)

pub returns-clause-turns : goal.returns-clause-turns
returns-clause-turns g c = lowest_first
