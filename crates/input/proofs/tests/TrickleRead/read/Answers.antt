use Rattle.std.proofs.Common.{◌≡◌, ◌-◌, ◌<◌, ◌+◌, suc, length, arith, rules}
use Rattle.std.proofs.lemmas.List.{take_more_set}
use Rattle.input.proofs.tests.TrickleRead.read.Goals as goal

-- The check does not see on its own that the numbers from `next` on are `next`, and then those from one later on.
pub returns-clause-bytes : goal.returns-clause-bytes
returns-clause-bytes c =
    let trickle = c.args.self.now in
    let left : trickle.end - trickle.next ≡ suc (trickle.end - (trickle.next + 1)) = omega arith in
    let room : 0 < length c.args.buf.now = search rules in
    (rw (left, take_more_set _ 0 _ room), search rules)
