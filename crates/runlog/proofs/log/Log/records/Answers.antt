use Rattle.runlog.proofs.Laws.{shown_records}
use Rattle.runlog.proofs.log.Log.records.Goals as goal

pub invariant_of-result : goal.invariant_of-result
invariant_of-result c = (shown_records _ c.args.self.now.opens).0

pub returns : goal.returns
returns c = (shown_records _ c.args.self.now.opens).1
