use Rattle.std.proofs.Common.{◌++◌, Bor, map, sym, ap, ◌∙◌}
use Rattle.std.specs.List.{join_with_byte}
use Rattle.verdicts.specs.declared.step.Step.{Step}
use Rattle.verdicttext.specs.Text.{comma, step_text}
use Rattle.verdicttext.proofs.Turned.{given_texts}
use Rattle.verdicttext.proofs.Words.{joined_more, mark_more}
use Rattle.writing.proofs.Laid.{puts_then, puts_as}
use Rattle.verdicttext.proofs.cycle.put_steps.Goals as goal

pub loop-step-preserved : goal.loop-step-preserved
loop-step-preserved c =
    let steps = c.loop-step.yielded in
    let step = c.in-Some.step in
    let text = λ (s : Bor Step). step_text s.now in
    let before = join_with_byte comma (map text steps) in
    let (mark, held) = c.loop-step.invariant in (
      mark_more comma steps step,
      puts_as (ap (λ m. before ++ (m ++ text step)) mark ∙ sym (joined_more text comma steps step)) (puts_then held c.put_step-at.ensures),
    )

pub returns : goal.returns
returns c =
    let texts =
    given_texts step_text _ _ _ c.into_iter-step-iterator.ensures.into_iter_gives c.turned-step-items.ensures.steps
    c.turned-step-items.ensures.fresh c.loop-step.yielded _ _ _ c.loop-step.yielded_by c.in-None.is c.next.ensures.steps in
    puts_as (ap (join_with_byte comma) texts) c.loop-step.invariant.1
