use Rattle.std.proofs.Common.{◌∙◌}
use Rattle.relation.proofs.Rows.{has_inside, has_outside, has_within}
use Rattle.relation.proofs.relation.Relation.contains.Goals as goal

pub returns-then-in_range-clause-reads : goal.returns-then-in_range-clause-reads
returns-then-in_range-clause-reads c = c.has_member.ensures ∙ has_inside c.args.self.now c.args.a c.args.b (cc)

pub returns-then-in_range-clause-within : goal.returns-then-in_range-clause-within
returns-then-in_range-clause-within c = has_within c.args.self.now

pub returns-else-in_range-clause-reads : goal.returns-else-in_range-clause-reads
returns-else-in_range-clause-reads c = c.if-in_range.false ∙ has_outside c.args.self.now c.args.a c.args.b (cc)

pub returns-else-in_range-clause-within : goal.returns-else-in_range-clause-within
returns-else-in_range-clause-within c = has_within c.args.self.now
