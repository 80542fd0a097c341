use Rattle.models.specs.declared.name.ModelName.TheVariants.{Rc20, Ra, Sra, Wra, Relaxed}
use Rattle.judge.proofs.Verdicts.{named}
use Rattle.judge.proofs.by_number.judge.Goals as goal

pub returns-in-Some-Rc20 : goal.returns-in-Some-Rc20
returns-in-Some-Rc20 g c =
    named _ _ Rc20 _ _ _ _ _ _ (c.in-Some-Rc20.ensures.answers) (c.in-Some-Rc20.field-0-is) (c.judge_under.ensures.answers)

pub returns-in-Some-Ra : goal.returns-in-Some-Ra
returns-in-Some-Ra g c =
    named _ _ Ra _ _ _ _ _ _ (c.in-Some-Ra.ensures.answers) (c.in-Some-Ra.field-0-is) (c.judge_under-in-Some-Ra.ensures.answers)

pub returns-in-Some-Sra : goal.returns-in-Some-Sra
returns-in-Some-Sra g c =
    named _ _ Sra _ _ _ _ _ _ (c.in-Some-Sra.ensures.answers) (c.in-Some-Sra.field-0-is) (c.judge_under-in-Some-Sra.ensures.answers)

pub returns-in-Some-Wra : goal.returns-in-Some-Wra
returns-in-Some-Wra g c =
    named _ _ Wra _ _ _ _ _ _ (c.in-Some-Wra.ensures.answers) (c.in-Some-Wra.field-0-is) (c.judge_under-in-Some-Wra.ensures.answers)

pub returns-in-Some-Relaxed : goal.returns-in-Some-Relaxed
returns-in-Some-Relaxed g c =
    named _ _ Relaxed _ _ _ _ _ _ (c.in-Some-Relaxed.ensures.answers) (c.in-Some-Relaxed.field-0-is) (c.judge_under-in-Some-Relaxed.ensures.answers)
