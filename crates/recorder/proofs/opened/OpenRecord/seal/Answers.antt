use Rattle.std.proofs.Common.{rules, arith}
use Rattle.recorder.proofs.Complete.{sealed_over}
use Rattle.recorder.proofs.Refusals.{seal_told}
use Rattle.recorder.proofs.opened.OpenRecord.seal.Goals as goal

pub returns-in-Err-clause-refuses : goal.returns-in-Err-clause-refuses
returns-in-Err-clause-refuses c = seal_told _ _ _ (search rules)

pub invariant_of-into : goal.invariant_of-into
invariant_of-into c = record { full = sealed_over _ _ c.self.invariant (grind arith) }

pub returns-clause-refuses : goal.returns-clause-refuses
returns-clause-refuses c = seal_told _ _ _ (search rules)
