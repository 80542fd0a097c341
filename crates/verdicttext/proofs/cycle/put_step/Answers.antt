use Rattle.std.proofs.Common.{ap, decimal}
use Rattle.writing.proofs.Laid.{puts_then, puts_as}
use Rattle.verdicttext.proofs.cycle.put_step.Goals as goal

pub returns : goal.returns
returns c =
    let from = puts_as (ap decimal c.from.ensures) c.put_number-at.ensures in
    let to = puts_as (ap decimal c.from-2.ensures) c.put_number.ensures in
    puts_then c.put-at.ensures (puts_then from (puts_then c.put-at-2.ensures to))
