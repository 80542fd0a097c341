use Rattle.std.proofs.Common.{refl, sym, ◌∙◌, rules, arith}
use Rattle.runlog.proofs.Laws.{opened, full_shown, log_of}
use Rattle.runlog.proofs.log.LogTryFromRefSliceU8.try_from.Goals as goal

pub invariant_of-result : goal.invariant_of-result
invariant_of-result c =
    let ok = opened c.args.bytes.now c.check.result c.check.ensures (grind arith) in
    record { opens = ok; full = full_shown _ ok }

pub returns : goal.returns
returns c = log_of _ _ (λ p. (c.type_inv.bytes p).fits) (sym c.in_ok-check.was ∙ c.check.ensures) refl

pub returns-in_err-check : goal.returns-in_err-check
returns-in_err-check c = log_of _ c.from_residual.result (λ p. (c.type_inv.bytes p).fits) (search rules) (search rules)
