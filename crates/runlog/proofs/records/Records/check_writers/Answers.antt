use Rattle.std.proofs.Common.{arith}
use Rattle.std.proofs.lemmas.Bool.Decides.{nat_tests}
use Rattle.runlog.proofs.Steps.{linked_step}
use Rattle.runlog.proofs.records.Records.check_writers.Goals as goal

pub returns-then-not-is_linked : goal.returns-then-not-is_linked
returns-then-not-is_linked c = grind (arith, nat_tests, linked_step)

pub loop-k-preserved : goal.loop-k-preserved
loop-k-preserved c = grind (arith, nat_tests, linked_step)

pub returns : goal.returns
returns c = grind (arith, nat_tests, linked_step)
