use Rattle.std.proofs.Common.{rules}
use Rattle.models.proofs.Marks.{same_everywhere}
use Rattle.chains.proofs.reads.Reads.of.Goals as goal

pub fill_stores-requires : goal.fill_stores-requires
fill_stores-requires g c = search (rules, same_everywhere)

pub fill_writers-requires : goal.fill_writers-requires
fill_writers-requires g c = search (rules, same_everywhere)
