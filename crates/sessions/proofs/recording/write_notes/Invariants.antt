use Rattle.std.proofs.Common.{◌-◌, map}
use Rattle.std.specs.List.{range_with_len}
use Rattle.events.specs.Run.{at}
use Rattle.sessions.specs.Recording.{note_of, Heads}
use Rattle.sessions.proofs.recording.write_notes.Given as goal

abbrev pub invariant-loop-i : goal.invariant-loop-i
invariant-loop-i g l = Heads (map (λ i. note_of (at (g.E.Execution.events l.run) i)) (range_with_len 1 (l.i - 1))) l.initial.calls l.calls
