use Rattle.writing.proofs.Laid.{written}
use Rattle.events.proofs.text.write_refused.Goals as goal

pub returns : goal.returns
returns g c = written c.put_refused.ensures c.if-put_refused-text.false c.put_refused-2.ensures
