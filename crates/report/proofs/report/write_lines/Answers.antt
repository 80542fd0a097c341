use Rattle.runlog.specs.Opening.{run_of}
use Rattle.report.proofs.AllLines.{are_lines}
use Rattle.report.proofs.report.write_lines.Goals as goal

pub returns-clause-lines : goal.returns-clause-lines
returns-clause-lines c = (are_lines _ _ _ _ _ _ (rw c.requires.empty at c.write_line.ensures.line) c.write_line-2.ensures.line c.write_line-3.ensures.line c.write_line-4.ensures.line c.write_line-5.ensures.line).0

pub returns-clause-bound : goal.returns-clause-bound
returns-clause-bound c = (are_lines (run_of c.args.run.now) _ _ _ _ _ (rw c.requires.empty at c.write_line.ensures.line) c.write_line-2.ensures.line c.write_line-3.ensures.line c.write_line-4.ensures.line c.write_line-5.ensures.line).1
