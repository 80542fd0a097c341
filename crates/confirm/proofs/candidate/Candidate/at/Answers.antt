use Rattle.std.proofs.Common.{rules}
use Rattle.models.proofs.Marks.{same_everywhere}
use Rattle.confirm.proofs.candidate.Candidate.at.Goals as goal

-- nothing has a place at the start
pub place_order-requires : goal.place_order-requires
place_order-requires g c = search (rules, same_everywhere)
