use Rattle.std.proofs.Common.{◌+◌, ◌∷◌, [], arith}
use Rattle.events.specs.Limits.{max_events}
use Rattle.sessions.specs.declared.calls.Call.TheVariants.{Seal, Count, Event}
use Rattle.sessions.specs.declared.handed.Handed.TheVariants.{Own}
use Rattle.sessions.proofs.Written.{heads_mapped}
use Rattle.sessions.proofs.recording.write_questions.Goals as goal

pub loop-i-preserved : goal.loop-i-preserved
loop-i-preserved g c =
    let i = c.loop-i.i in
    heads_mapped Event (Seal (Own max_events) ∷ Count ∷ []) _ _ i (i + 1) c.loop-i.auto.i (omega arith) (omega arith) c.loop-i.invariant
