use Rattle.std.proofs.Common.{rules}
use Rattle.recorder.proofs.Refusals.{retract_told}
use Rattle.recorder.proofs.opened.OpenRecord.retract.Goals as goal

pub returns-in_err-of-clause-refuses : goal.returns-in_err-of-clause-refuses
returns-in_err-of-clause-refuses c = retract_told _ _ _ (search rules)

pub returns-in_err-check_retract-clause-refuses : goal.returns-in_err-check_retract-clause-refuses
returns-in_err-check_retract-clause-refuses c = retract_told _ _ _ (search rules)

pub returns-clause-refuses : goal.returns-clause-refuses
returns-clause-refuses c = retract_told _ _ _ (search rules)
