use Rattle.std.proofs.Common.{◌≡◌, ◌-◌, ◌≤◌, length}
use Rattle.events.specs.Events.{is_load}
use Rattle.events.specs.Run.{at}
use Rattle.sessions.proofs.Written.{passing}
use Rattle.sessions.proofs.recording.load_count.Given as goal

abbrev pub invariant-loop-i : goal.invariant-loop-i
invariant-loop-i g l = record {
  counted : l.count ≡ length (passing (λ i. is_load (at (g.E.Execution.events l.run) i).kind) l.i);
  few : l.count ≤ l.i - 1;
}
