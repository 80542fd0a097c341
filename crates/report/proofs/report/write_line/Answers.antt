use Rattle.models.proofs.Inside.{sw_joins}
use Rattle.runlog.specs.Opening.{run_of}
use Rattle.report.proofs.Lines.{line_behind}
use Rattle.report.proofs.report.write_line.Goals as goal

pub returns-clause-fits : goal.returns-clause-fits
returns-clause-fits g c =
    let es = run_of c.args.run.now in
    let full = c.args.run.now.full in
    let inside = (sw_joins es _ full (g.met.M.Synchronises.Rule.joined c.args.rule.now es full)).within in
    (line_behind es full _ _ inside c.requires.records _ c.requires.calls _ _ _ _ _ _ _ c.check-checked.ensures _ _ _ c.requires.room c.begin_line.ensures).0

pub returns-clause-line : goal.returns-clause-line
returns-clause-line g c =
    let es = run_of c.args.run.now in
    let full = c.args.run.now.full in
    let inside = (sw_joins es _ full (g.met.M.Synchronises.Rule.joined c.args.rule.now es full)).within in
    (line_behind es full _ _ inside c.requires.records _ c.requires.calls _ _ _ _ _ _ _ c.check-checked.ensures _ _ _ c.requires.room c.begin_line.ensures).1
