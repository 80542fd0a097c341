use Rattle.std.proofs.Common.{◌≡◌, arith}
use Rattle.relation.specs.Pairs.{words_per_row}
use Rattle.relation.proofs.Members.{Merged-none, Merged-more, members_merged}
use Rattle.relation.proofs.relation.add_members.Goals as goal

pub loop-i-init : goal.loop-i-init
loop-i-init c = Merged-none _ _

pub loop-i-preserved : goal.loop-i-preserved
loop-i-preserved c = Merged-more c.loop-i.invariant (omega arith)

pub returns : goal.returns
returns c =
    let ended : c.loop-i.i ≡ words_per_row = omega arith in
    members_merged _ _ _ (rw ended at c.loop-i.invariant)
