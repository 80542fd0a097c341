use Rattle.runtext.specs.Text.{lines_text}
use Rattle.writing.specs.Writes.{Puts}
use Rattle.runtext.proofs.run.put_run.Given as goal

abbrev pub invariant-loop-event : goal.invariant-loop-event
invariant-loop-event g l = Puts (lines_text l.yielded) l.place l.initial.text l.text l.at
