use Rattle.std.proofs.Common.{◌≡◌, ◌-◌, length}
use Rattle.runlog.specs.Reading.{linked_up}
use Rattle.runlog.proofs.records.Records.check_writers.Given as goal

abbrev pub invariant-loop-k : goal.invariant-loop-k
invariant-loop-k l = linked_up (length l.self - l.k) l.self l.k ≡ linked_up (length l.self) l.self 0
