use Rattle.std.proofs.Common.{◌-◌, [], ap, ◌∙◌, arith}
use Rattle.events.specs.Run.{at}
use Rattle.sessions.specs.Recording.{note_of}
use Rattle.sessions.proofs.Written.{heads_mapped}
use Rattle.sessions.proofs.recording.write_notes.Goals as goal

pub loop-i-preserved : goal.loop-i-preserved
loop-i-preserved g c =
    let es = g.E.Execution.events c.args.run.now in
    let i = c.loop-i.i in
    let written = c.note_of.ensures ∙ ap note_of c.event_at.ensures in
    rw written (heads_mapped (λ i. note_of (at es i)) [] _ _ i (i - 1) c.loop-i.auto.i (omega arith) (omega arith) c.loop-i.invariant)
