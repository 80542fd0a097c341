use Rattle.toposort.proofs.Laws.{between_acyclic}
use Rattle.confirm.proofs.Breaks.{mo_inside, both_inside}
use Rattle.confirm.proofs.candidate.Candidate.is_acyclic.Goals as goal

pub returns : goal.returns
returns g c =
    let same = between_acyclic _ _ (both_inside _ _ _ (c.requires) (mo_inside _ _ _ (c.args.self.now.placed))) in
    (λ t. same.0 (c.is_acyclic.ensures.0 t), λ acyclic. c.is_acyclic.ensures.1 (same.1 acyclic))
