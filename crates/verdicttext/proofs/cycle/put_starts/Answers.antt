use Rattle.std.proofs.Common.{Bor, decimal, ap}
use Rattle.std.specs.List.{flat_map}
use Rattle.verdicts.specs.declared.step.Step.{Step}
use Rattle.verdicttext.specs.Text.{marked, space}
use Rattle.verdicttext.proofs.Turned.{given_texts}
use Rattle.verdicttext.proofs.Words.{marked_more}
use Rattle.writing.proofs.Laid.{puts_then, puts_as}
use Rattle.verdicttext.proofs.cycle.put_starts.Goals as goal

pub loop-step-preserved : goal.loop-step-preserved
loop-step-preserved c =
    puts_as (marked_more (λ (s : Bor Step). decimal s.now.from) space c.loop-step.yielded c.in-Some.step)
    (puts_then c.loop-step.invariant c.put_word-at.ensures)

pub returns : goal.returns
returns c =
    let texts =
    given_texts (λ s. decimal s.from) _ _ _ c.into_iter-step-iterator.ensures.into_iter_gives c.turned-step-items.ensures.steps
    c.turned-step-items.ensures.fresh c.loop-step.yielded _ _ _ c.loop-step.yielded_by c.in-None.is c.next.ensures.steps in
    puts_as (ap (flat_map (marked space)) texts) c.loop-step.invariant
