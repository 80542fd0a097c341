use Rattle.events.specs.Text.{event_text}
use Rattle.writing.proofs.Laid.{puts_then}
use Rattle.runtext.proofs.run.put_event_line.Goals as goal

pub returns : goal.returns
returns c = puts_then {a = event_text c.args.event.now} c.put_event-at.ensures c.put.ensures
