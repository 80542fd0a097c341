use Rattle.std.proofs.Common.{refl}
use Rattle.runlog.specs.Reading.{scanned, linked_up, reading}
use Rattle.runlog.specs.Sample.{sample}
use Rattle.runlog.specs.Spelling.{spelling}
use Rattle.runlog.proofs.Laws.{full_from_reading}
use Rattle.runlog.proofs.sample.two_plus_two_writes.Goals as goal

pub returns : goal.returns
unfolding reading scanned linked_up
returns c = record { full = full_from_reading (spelling sample) sample refl; spells = refl; size = refl; begins = refl; ends = refl }
