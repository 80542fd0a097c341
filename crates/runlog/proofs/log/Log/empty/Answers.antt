use Rattle.std.proofs.Common.{refl}
use Rattle.runlog.specs.Reading.{scanned, linked_up, reading, shown}
use Rattle.runlog.proofs.Laws.{full_shown}
use Rattle.runlog.proofs.log.Log.empty.Goals as goal

pub invariant_of-result : goal.invariant_of-result
unfolding reading scanned linked_up
invariant_of-result c = record { opens = refl; full = full_shown _ refl }

pub returns : goal.returns
unfolding shown reading scanned linked_up
returns c = refl
