use Rattle.std.proofs.Common.{arith}
use Rattle.std.proofs.lemmas.Bool.Decides.{nat_tests}
use Rattle.relation.proofs.Rows.{row_added, has_outside}
use Rattle.relation.proofs.relation.Relation.absorb.Goals as goal
use Rattle.relation.proofs.relation.Relation.absorb.Goals.{else-in_range-via-then-in_range+else-in_range-2, else-in_range-via-else-in_range}

pub returns-then-in_range-2 : goal.returns-then-in_range-2
returns-then-in_range-2 c =
    row_added c.args.self.now.rows c.args.b (cc) (omega arith) _ c.args.p (cc) c.add_members.ensures

pub returns-else-in_range : goal.returns-else-in_range
returns-else-in_range c =
    λ x y.
    let none = has_outside c.args.self.now x c.args.p in
    elim c.else-in_range.branch [
      | else-in_range-via-then-in_range+else-in_range-2 w ↦ grind (arith, nat_tests)
      | else-in_range-via-else-in_range w ↦ grind (arith, nat_tests)
    ]
