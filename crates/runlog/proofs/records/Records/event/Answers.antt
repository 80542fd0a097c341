use Rattle.std.proofs.Common.{arith}
use Rattle.std.proofs.lemmas.Bool.Decides.{nat_tests}
use Rattle.runlog.proofs.Outcomes.{records_in, event_of}
use Rattle.runlog.proofs.records.Records.event.Goals as goal

pub overflow_mul-i : goal.overflow_mul-i
overflow_mul-i c = let r = records_in _ _ c.self.invariant c.self.view_is in omega arith

pub unwrap-raw-requires : goal.unwrap-raw-requires
unwrap-raw-requires c = let here = event_of _ _ c.args.i c.self.invariant c.self.view_is c.requires in grind (arith, nat_tests)

pub unwrap-requires : goal.unwrap-requires
unwrap-requires c = let here = event_of _ _ c.args.i c.self.invariant c.self.view_is c.requires in grind (arith, nat_tests)

pub returns : goal.returns
returns c = let here = event_of _ _ c.args.i c.self.invariant c.self.view_is c.requires in grind (arith, nat_tests)
