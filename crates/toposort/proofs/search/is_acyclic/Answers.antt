use Rattle.std.proofs.Common.{refl}
use Rattle.std.proofs.lemmas.Bool.{false≢true}
use Rattle.toposort.proofs.Laws.{tells}
use Rattle.toposort.proofs.search.is_acyclic.Goals as goal

pub returns-in-Ok : goal.returns-in-Ok
returns-in-Ok g c = (λ _. (tells _ _).listing _ (c.in-Ok.ensures.0), λ _. refl)

pub returns-in-Err : goal.returns-in-Err
returns-in-Err g c = (λ t. absurd (false≢true t), λ acyclic. absurd ((tells _ _).cycle _ (c.in-Err.ensures.1.0) acyclic))
