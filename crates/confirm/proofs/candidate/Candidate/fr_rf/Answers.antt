use Rattle.std.proofs.Common.{inr}
use Rattle.std.proofs.lemmas.Bool.{false≢true}
use Rattle.models.specs.Models.{Fr}
use Rattle.models.specs.Orders.{Mo}
use Rattle.confirm.proofs.Breaks.{after_writer}
use Rattle.confirm.proofs.candidate.Candidate.fr_rf.Goals as goal

pub returns-else-fr : goal.returns-else-fr
returns-else-fr g c =
    let es = g.E.Execution.events (c.args.self.now.run.now) in
    let order = c.args.self.now.order.now in (
      λ t. (c.in-Some.w, c.fr-else-fr.ensures.0 t, inr (c.in-Some.ensures)),
      λ p. c.fr-else-fr.ensures.1 (after_writer (Fr es (Mo es order)) es _ _ _ (c.in-Some.ensures) (λ m. false≢true (c.if-fr.ensures.1 m)) p),
    )
