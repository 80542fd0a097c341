use Rattle.std.proofs.Common.{◌∙◌}
use Rattle.relation.proofs.Members.{member_read, no_member}
use Rattle.relation.proofs.relation.has_member.Goals as goal

pub returns-then-in_range : goal.returns-then-in_range
returns-then-in_range c = member_read c.args.row.now c.args.a (cc)

pub returns-else-in_range : goal.returns-else-in_range
returns-else-in_range c = c.if-in_range.false ∙ no_member c.args.row.now c.args.a (cc)
