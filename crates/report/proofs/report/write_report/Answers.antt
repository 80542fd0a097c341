use Rattle.report.specs.Report.{judged}
use Rattle.report.proofs.Printed.{refusal_printed, opened}
use Rattle.report.proofs.report.write_report.Goals as goal

pub returns-in-Err-clause-fits : goal.returns-in-Err-clause-fits
returns-in-Err-clause-fits c = (refusal_printed _ _ _ _ _ ((c.open_log.ensures.refuses c.in-Err.fault).0 c.in-Err.is) c.requires c.begin_refusal.ensures).0

pub returns-in-Err-clause-prints : goal.returns-in-Err-clause-prints
returns-in-Err-clause-prints c = (refusal_printed _ _ _ _ _ ((c.open_log.ensures.refuses c.in-Err.fault).0 c.in-Err.is) c.requires c.begin_refusal.ensures).1

pub returns-in-Err-clause-bound : goal.returns-in-Err-clause-bound
returns-in-Err-clause-bound c = (refusal_printed _ _ _ _ _ ((c.open_log.ensures.refuses c.in-Err.fault).0 c.in-Err.is) c.requires c.begin_refusal.ensures).2

pub returns-in-Some-clause-prints : goal.returns-in-Some-clause-prints
returns-in-Some-clause-prints c =
    let shown = opened _ _ _ c.open_log.ensures.opens (λ f e. c.in_default.not-Err f e) in
    judged shown.0 shown.1 c.write_lines.ensures.lines
