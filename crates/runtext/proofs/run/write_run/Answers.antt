use Rattle.std.proofs.Common.{arith}
use Rattle.runtext.proofs.Longest.{run_fits}
use Rattle.runtext.proofs.run.write_run.Goals as goal

pub returns-then-put_run-text-clause-suffices : goal.returns-then-put_run-text-clause-suffices
returns-then-put_run-text-clause-suffices g c =
    let long = c.if-put_run-text.true in
    let counted = c.put_run.ensures.behind in
    let fits = run_fits (g.E.Execution.events c.args.run.now) (g.met.E.Execution.full c.args.run.now) in
    λ room. absurd (omega (arith, long, counted, fits, room))
