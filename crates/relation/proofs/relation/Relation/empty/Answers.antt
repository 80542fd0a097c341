use Rattle.std.proofs.Common.{refl}
use Rattle.relation.proofs.Rows.{no_pairs}
use Rattle.relation.proofs.relation.Relation.empty.Goals as goal

pub returns : goal.returns
returns c = no_pairs _ refl
