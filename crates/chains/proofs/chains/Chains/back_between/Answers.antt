use Rattle.std.proofs.Common.{refl, sym, ◌∙◌}
use Rattle.std.proofs.lemmas.Bool.{false≢true}
use Rattle.models.specs.Models.{AtOneLocation}
use Rattle.relation.specs.Pairs.{Pairs}
use Rattle.chains.proofs.StoreSteps.{between_bottom, none_back, places_back}
use Rattle.chains.proofs.chains.Chains.back_between.Goals as goal

pub returns-in_default : goal.returns-in_default
returns-in_default g c (s, (l, b, back)) = c.in_default.ensures s.from s.to (b.from) (between_bottom _ (g.met.E.Execution.full _) _ _ s b)

pub returns-then-leads_back : goal.returns-then-leads_back
returns-then-leads_back g c =
    let (same, less) = c.if-leads_back.ensures.0 refl in
    let at : AtOneLocation (g.E.Execution.events c.args.self.now.run.now) (Pairs c.args.hb.now) c.args.x c.args.y = (sym (c.contains.ensures.reads) ∙ c.if-not-contains.false, sym (c.location.ensures) ∙ (c.if-location.false ∙ c.location-else-not-contains.ensures)) in
    let back =
    places_back _ (g.met.E.Execution.full _) _ (c.args.self.now.headed) _ (c.args.self.now.ordered) _ (c.args.self.now.placed) (c.args.self.now.single) (Pairs (c.args.hb.now)) _ _ _ at (c.in-Some.ensures) same less in
    ((at, c.in-Some.ensures, back.1), back)

pub returns-else-leads_back : goal.returns-else-leads_back
returns-else-leads_back g c =
    none_back _ (g.met.E.Execution.full _) _ (c.args.self.now.headed) _ (c.args.self.now.ordered) _ (c.args.self.now.placed) (Pairs (c.args.hb.now)) _ _ _ (c.in-Some.ensures)
    (λ same less. false≢true (c.if-leads_back.ensures.1 (same, less)))
