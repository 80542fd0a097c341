use Rattle.std.proofs.Common.{ap, decimal}
use Rattle.writing.proofs.Laid.{puts_then, puts_as}
use Rattle.verdicttext.proofs.word.put_word.Goals as goal

pub returns : goal.returns
returns c = puts_then c.put-at.ensures (puts_as (ap decimal c.from.ensures) c.put_number.ensures)
