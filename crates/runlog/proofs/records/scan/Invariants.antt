use Rattle.std.proofs.Common.{◌≡◌, ◌-◌}
use Rattle.events.specs.Limits.{max_events}
use Rattle.runlog.specs.Reading.{scanned}
use Rattle.runlog.proofs.records.scan.Given as goal

abbrev pub invariant-loop-n : goal.invariant-loop-n
invariant-loop-n l = scanned (max_events - l.n) l.s l.n ≡ scanned max_events l.s 0
