use Rattle.std.proofs.Common.{rules}
use Rattle.recorder.proofs.Refusals.{link_told}
use Rattle.recorder.proofs.opened.OpenRecord.link.Goals as goal

pub returns-in_err-of-clause-refuses : goal.returns-in_err-of-clause-refuses
returns-in_err-of-clause-refuses c = link_told _ _ _ _ _ (search rules)

pub returns-in_err-check_link-clause-refuses : goal.returns-in_err-check_link-clause-refuses
returns-in_err-check_link-clause-refuses c = link_told _ _ _ _ _ (search rules)

pub returns-clause-refuses : goal.returns-clause-refuses
returns-clause-refuses c = link_told _ _ _ _ _ (search rules)
