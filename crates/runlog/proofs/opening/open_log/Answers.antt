use Rattle.std.proofs.Common.{ap, rules, arith}
use Rattle.std.proofs.lemmas.Grind.{common_steps}
use Rattle.runlog.specs.Reading.{shown}
use Rattle.runlog.proofs.Laws.{opens, refuses}
use Rattle.runlog.proofs.opening.open_log.Goals as goal

pub returns-in_err-into-clause-opens : goal.returns-in_err-into-clause-opens
returns-in_err-into-clause-opens c =
    opens c.args.bytes.now c.from_residual.result (search rules) (λ p. (c.type_inv.bytes p).fits) _ (λ ok. grind (arith, common_steps))

pub returns-in_err-into-clause-refuses : goal.returns-in_err-into-clause-refuses
returns-in_err-into-clause-refuses c = search (rules, refuses)

pub returns-clause-opens : goal.returns-clause-opens
returns-clause-opens c =
    let told = c.in_ok-into.ensures in
    opens c.args.bytes.now _ told.answers (λ p. (c.type_inv.bytes p).fits) _ (λ _. ap (λ b. shown b.now) told.holds)

pub returns-clause-refuses : goal.returns-clause-refuses
returns-clause-refuses c = search (rules, refuses)
