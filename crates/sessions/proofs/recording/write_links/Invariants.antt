use Rattle.std.proofs.Common.{◌≡◌, ◌-◌, ◌≤◌, map, length}
use Rattle.events.specs.Events.{is_load}
use Rattle.events.specs.Limits.{max_events}
use Rattle.events.specs.Run.{at}
use Rattle.sessions.specs.Recording.{Heads}
use Rattle.sessions.specs.declared.calls.Call.TheVariants.{Link}
use Rattle.sessions.specs.declared.handed.Handed.TheVariants.{Own}
use Rattle.sessions.proofs.Written.{passing}
use Rattle.sessions.proofs.recording.write_links.Given as goal

abbrev pub invariant-loop-i : goal.invariant-loop-i
invariant-loop-i g l = let es = g.E.Execution.events l.run in let loads = passing (λ i. is_load (at es i).kind) l.i in record {
  heads : Heads (map (λ i. Link (Own max_events) i (at es i).writer) loads) l.initial.calls l.calls;
  counted : l.next ≡ length loads;
  few : l.next ≤ l.i - 1;
}
