use Rattle.verdicttext.proofs.Lowest.{lowest_at}
use Rattle.verdicttext.proofs.cycle.lowest_start.Goals as goal

pub returns-clause-place : goal.returns-clause-place
returns-clause-place c =
    let loop = c.loop-i in
    lowest_at c.args.steps.now loop.i loop.lowest loop.invariant.0 c.loop-i-test.false loop.auto.i-end loop.invariant.1
