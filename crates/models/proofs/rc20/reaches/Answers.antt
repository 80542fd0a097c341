use Rattle.std.proofs.Common.{◌∙◌, refl, sym, subst, arith}
use Rattle.std.proofs.lemmas.Bool.{false≢true}
use Rattle.models.specs.Walk.{Seen}
use Rattle.models.proofs.Walks.{walking_path, walking_more, walking_less, walking_missed, rf_below}
use Rattle.models.proofs.rc20.reaches.Goals as goal

pub bounds-seen-w : goal.bounds-seen-w
bounds-seen-w g c = let low = rf_below _ _ _ (g.met.E.Execution.full _) (c.in-Some.ensures) in omega arith

pub returns-then-seen-w-clause-decides : goal.returns-then-seen-w-clause-decides
returns-then-seen-w-clause-decides g c = (
  λ t. absurd (false≢true t),
  λ p. absurd (walking_missed _ _ _ _ _ (c.loop-w.invariant)
      (λ v f. subst (λ x. Seen (c.loop-w.seen) x) (sym (c.in-Some.ensures.1) ∙ f.1) (c.if-seen-w.true)) p),
)

pub returns-then-starts-clause-decides : goal.returns-then-starts-clause-decides
returns-then-starts-clause-decides g c =
    (λ _. (c.in-Some.w, c.if-starts.ensures.0 refl, walking_path _ _ _ _ _ _ (c.loop-w.invariant) (c.in-Some.ensures)), λ _. refl)

pub bounds-seen-w-in-Some : goal.bounds-seen-w-in-Some
bounds-seen-w-in-Some g c = let low = rf_below _ _ _ (g.met.E.Execution.full _) (c.in-Some.ensures) in omega arith

pub loop-w-smaller : goal.loop-w-smaller
loop-w-smaller g c =
    let low = rf_below _ _ _ (g.met.E.Execution.full _) (c.in-Some.ensures) in
    walking_less _ _ _ _ _ _ (c.loop-w.invariant) (c.in-Some.ensures) (omega arith) (c.if-seen-w.false)

pub loop-w-preserved : goal.loop-w-preserved
loop-w-preserved g c =
    let low = rf_below _ _ _ (g.met.E.Execution.full _) (c.in-Some.ensures) in
    walking_more _ _ _ _ _ _ (c.loop-w.invariant) (c.in-Some.ensures) (omega arith) (λ s. absurd (false≢true (c.if-starts.ensures.1 s)))

pub returns-clause-decides : goal.returns-clause-decides
returns-clause-decides g c =
    (λ t. absurd (false≢true t), λ p. absurd (walking_missed _ _ _ _ _ (c.loop-w.invariant) (λ v f. absurd (c.in_default.ensures v f)) p))
