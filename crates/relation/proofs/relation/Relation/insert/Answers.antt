use Rattle.std.proofs.Common.{arith}
use Rattle.relation.proofs.Rows.{pair_added}
use Rattle.relation.proofs.relation.Relation.insert.Goals as goal

pub returns-then-in_range-2-clause-adds : goal.returns-then-in_range-2-clause-adds
returns-then-in_range-2-clause-adds c =
    pair_added c.args.self.now.rows c.args.b (cc) (omega arith) _ c.args.a c.add_member.ensures
