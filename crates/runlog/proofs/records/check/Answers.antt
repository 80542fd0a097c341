use Rattle.std.proofs.Common.{rules}
use Rattle.runlog.specs.Reading.{reading}
use Rattle.runlog.proofs.records.check.Goals as goal

pub returns-in_err-try_from : goal.returns-in_err-try_from
unfolding reading
returns-in_err-try_from c = search rules

pub returns : goal.returns
unfolding reading
returns c = search rules
