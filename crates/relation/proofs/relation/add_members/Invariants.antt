use Rattle.relation.proofs.Members.{Merged}
use Rattle.relation.proofs.relation.add_members.Given as goal

abbrev pub invariant-loop-i : goal.invariant-loop-i
invariant-loop-i l = Merged l.initial.row l.other l.row l.i
