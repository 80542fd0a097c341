use Rattle.std.proofs.Common.{rules}
use Rattle.models.proofs.Walks.{walked_none}
use Rattle.models.proofs.rc20.arrives.Goals as goal

pub reaches-requires : goal.reaches-requires
reaches-requires g c = search (rules, walked_none)
