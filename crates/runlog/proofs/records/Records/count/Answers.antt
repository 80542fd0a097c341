use Rattle.std.proofs.Common.{arith}
use Rattle.runlog.proofs.Outcomes.{records_in}
use Rattle.runlog.proofs.records.Records.count.Goals as goal

pub overflow_sub-result : goal.overflow_sub-result
overflow_sub-result c = let r = records_in _ _ c.self.invariant c.self.view_is in omega arith

pub returns : goal.returns
returns c = let r = records_in _ _ c.self.invariant c.self.view_is in omega arith
