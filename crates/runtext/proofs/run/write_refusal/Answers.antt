use Rattle.runtext.specs.Text.{refusal_text}
use Rattle.writing.proofs.Laid.{written}
use Rattle.runtext.proofs.run.write_refusal.Goals as goal

pub returns : goal.returns
returns c = written {t = refusal_text c.args.fault} c.put_refusal.ensures c.if-put_refusal-text.false c.put_refusal-2.ensures
