use Rattle.std.proofs.Common.{sym, ap, ◌∙◌, Some}
use Rattle.events.specs.Events.{writer_of}
use Rattle.events.proofs.Graphs.{writer_of_event}
use Rattle.executions.proofs.relations.writer.Goals as goal

pub returns-in_err-reads_from : goal.returns-in_err-reads_from
returns-in_err-reads_from g c =
    let in_run = c.in-Ok.ensures in
    writer_of_event _ _ _ (g.met.E.Execution.full _) (in_run.0)
    (c.from_residual.ensures ∙ (sym (c.in_err-reads_from.was) ∙ (c.reads_from.ensures ∙ ap writer_of (in_run.1))))

pub returns : goal.returns
returns g c =
    let in_run = c.in-Ok.ensures in
    writer_of_event _ _ (Some (c.from.result)) (g.met.E.Execution.full _) (in_run.0)
    (ap Some (c.from.ensures) ∙ (sym (c.in_ok-reads_from.was) ∙ (c.reads_from.ensures ∙ ap writer_of (in_run.1))))
