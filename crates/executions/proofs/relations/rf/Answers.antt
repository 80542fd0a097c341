use Rattle.events.proofs.Graphs.{rf_reads}
use Rattle.executions.proofs.relations.rf.Goals as goal

pub returns-clause-reads : goal.returns-clause-reads
returns-clause-reads g c = rf_reads _ (g.met.E.Execution.full c.args.x.now)
