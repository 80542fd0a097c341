use Rattle.std.proofs.Common.{Ok, take, Result, ap, sym, ◌∙◌}
use Rattle.executions.specs.declared.fault.CheckerFault.{CheckerFault}
use Rattle.verdicts.specs.declared.verdict.Verdict.{Verdict}
use Rattle.verdicttext.specs.Text.{line_text}
use Rattle.verdicttext.proofs.Lines.{consistent_line, inconsistent_line}
use Rattle.writing.proofs.Laid.{puts_then, puts_as}
use Rattle.verdicttext.proofs.line.put_line.Goals as goal

pub returns-in-Ok-Consistent : goal.returns-in-Ok-Consistent
returns-in-Ok-Consistent g c =
    let es = g.E.Execution.events c.args.run.now in
    let arm = c.in-Ok-Consistent in
    let answer = arm.is ∙ ap (λ v. Ok v) (rw arm.is at arm.field-0-is) in
    let text =
    consistent_line c.args.model es c.args.answer c.args.order.now c.args.steps.now c.model_word.result.now c.model_word.ensures arm.count
    c.first.result.now answer c.first.ensures in
    puts_as (sym text) (puts_then c.put-at.ensures (puts_then c.put-at-in-Ok-Consistent.ensures c.put_order.ensures))

pub returns-in-Ok-Inconsistent : goal.returns-in-Ok-Inconsistent
returns-in-Ok-Inconsistent g c =
    let es = g.E.Execution.events c.args.run.now in
    let arm = c.in-Ok-Inconsistent in
    let answer = arm.is ∙ ap (λ v. Ok v) (rw arm.is at arm.field-0-is) in
    let text =
    inconsistent_line c.args.model es c.args.answer c.args.order.now c.args.steps.now c.model_word.result.now c.model_word.ensures arm.violation
    c.first-in-Ok-Inconsistent.result.now answer (c.first-in-Ok-Inconsistent.ensures ∙ ap (λ k. take k c.args.steps.now) c.step_count.ensures) in
    puts_as (sym text) (puts_then c.put-at.ensures (puts_then c.put-at-in-Ok-Inconsistent.ensures c.put_violation.ensures))

pub returns-in-Err : goal.returns-in-Err
returns-in-Err g c =
    let es = g.E.Execution.events c.args.run.now in
    let line = λ (a : Result Verdict CheckerFault). line_text c.args.model es a c.args.order.now c.args.steps.now in
    puts_as (sym (ap line c.in-Err.is)) (puts_then (puts_as c.model_word.ensures c.put-at.ensures) (puts_then c.put-at-in-Err.ensures c.put_refused.ensures))
