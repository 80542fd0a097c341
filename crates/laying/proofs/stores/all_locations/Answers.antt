use Rattle.std.proofs.Common.{◌∙◌, arith}
use Rattle.std.proofs.lemmas.List.{length-set}
use Rattle.laying.proofs.Kept.{rising_more}
use Rattle.laying.proofs.stores.all_locations.Goals as goal

pub loop-i-preserved : goal.loop-i-preserved
loop-i-preserved c =
    let (size, before) = c.loop-i.invariant in
    (length-set _ _ _ ∙ size, rising_more _ _ before (omega arith))

pub returns : goal.returns
returns c =
    let end = c.loop-i-test.false in
    record { whole = c.loop-i.invariant.0; rising = λ i lt. c.loop-i.invariant.1 i (omega arith) }
