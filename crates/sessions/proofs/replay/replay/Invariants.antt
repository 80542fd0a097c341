use Rattle.std.proofs.Common.{◌≡◌, ◌-◌, ◌≤◌, length, min}
use Rattle.sessions.proofs.Standing.{Standing}
use Rattle.sessions.proofs.replay.replay.Given as goal

abbrev pub invariant-loop-next : goal.invariant-loop-next
invariant-loop-next l = record {
  standing : Standing l.calls l.initial.memory l.initial.others l.initial.answers l.open_record l.memory l.answers l.next;
  others : l.others ≡ l.initial.others;
  within : l.next ≤ min (length l.calls) (length l.initial.answers);
}

abbrev pub decreases-loop-next : goal.decreases-loop-next
decreases-loop-next l = min (length l.calls) (length l.initial.answers) - l.next
