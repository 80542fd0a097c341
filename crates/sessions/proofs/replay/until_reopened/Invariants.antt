use Rattle.recorder.specs.Sealing.{run_of}
use Rattle.sessions.specs.Carrying.{SealedAnswers, NoneReopens}
use Rattle.sessions.proofs.replay.until_reopened.Given as goal

abbrev pub invariant-loop-k : goal.invariant-loop-k
invariant-loop-k l = SealedAnswers (run_of l.sealed) l.calls l.initial.answers l.answers l.from l.k × NoneReopens l.calls l.from l.k
