use Rattle.std.proofs.Common.{◌-◌, ◌∷◌, ◌++◌, [], map}
use Rattle.std.specs.List.{range_with_len}
use Rattle.events.specs.Limits.{max_events}
use Rattle.sessions.specs.Recording.{Heads}
use Rattle.sessions.specs.declared.calls.Call.TheVariants.{Seal, Count, Event}
use Rattle.sessions.specs.declared.handed.Handed.TheVariants.{Own}
use Rattle.sessions.proofs.recording.write_questions.Given as goal

abbrev pub invariant-loop-i : goal.invariant-loop-i
invariant-loop-i g l = Heads ((Seal (Own max_events) ∷ Count ∷ []) ++ map Event (range_with_len 1 (l.i - 1))) l.fn.calls l.calls
