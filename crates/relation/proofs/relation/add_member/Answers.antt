use Rattle.std.proofs.Common.{arith}
use Rattle.relation.proofs.Members.{member_added}
use Rattle.relation.proofs.relation.add_member.Goals as goal

pub returns : goal.returns
returns c = member_added c.args.row.now c.args.a c.requires (omega arith)
