use Rattle.writing.proofs.Laid.{puts_then}
use Rattle.runtext.proofs.run.put_refusal.Goals as goal

pub returns : goal.returns
returns c = puts_then c.put-at.ensures (puts_then c.put_refused-at.ensures c.put.ensures)
