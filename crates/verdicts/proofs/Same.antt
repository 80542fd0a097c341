-- Violations and layings under one happens-before are those under another with the same pairs.
use Rattle.std.proofs.Common.{inl, inr, ⊎_elim, ℕ, List, length}
use Rattle.events.specs.Relations.{Rel, ◌∪◌}
use Rattle.events.specs.declared.event.Event.{Event}
use Rattle.toposort.proofs.Same.{SamePairs, ordered_same}
use Rattle.models.specs.declared.scope.Scope.{Scope}
use Rattle.models.specs.declared.scope.Scope.TheVariants.{Location, Whole, Weak}
use Rattle.verdicts.specs.Chains.{SameChain}
use Rattle.verdicts.specs.Layings.{ChainReady, ChainTurn, IsLaid}
use Rattle.verdicts.specs.Steps.{BeforeStep, ReadStep, ReadSteps, ChainStep}
use Rattle.verdicts.specs.Violations.{IsBeforeOrRead, Leads, StepHolds, SameEvent, Cycle, Violates, IsFirst, step_at}
use Rattle.verdicts.specs.declared.step.Sort.{Sort}
use Rattle.verdicts.specs.declared.step.Sort.TheVariants as sort
use Rattle.verdicts.specs.declared.step.Step.{Step}
use Rattle.verdicts.specs.declared.violation.Violation.{Violation}
use Rattle.verdicts.specs.declared.violation.Violation.TheVariants as violation

pub cycle_same : (Same : Rel) (P Q : Step → Type 0) → ((s : Step) → P s → Q s) → (ss : List Step) → Cycle Same P ss → Cycle Same Q ss
cycle_same Same P Q to ss c =
    record { two = c.two; steps = λ i lt. to (step_at ss i) (c.steps i lt); joined = c.joined; closed = c.closed; apart = c.apart }

-- with more happens-before there are more steps
module _ (es : List Event) (hb more : Rel) (to : (a b : ℕ) → hb a b → more a b) where
  pub before_more : (a b : ℕ) → BeforeStep es hb a b → BeforeStep es more a b
  before_more a b (two, (x, k, inl e)) = (two, (x, k, inl e))
  before_more a b (two, (x, k, inr h)) = (two, (x, k, inr (to x b h)))

  read_more : (r a b : ℕ) → ReadStep es hb r a b → ReadStep es more r a b
  read_more r a b (two, (x, k, h), f) = (two, (x, k, to x r h), f)

  pub reads_more : (a b : ℕ) → ReadSteps es hb a b → ReadSteps es more a b
  reads_more a b (r, s) = (r, read_more r a b s)

  pub chain_more : (g h : ℕ) → ChainStep es hb g h → ChainStep es more g h
  chain_more g h (differs, (a, b, c, d, inl s)) = (differs, (a, b, c, d, inl (before_more a b s)))
  chain_more g h (differs, (a, b, c, d, inr s)) = (differs, (a, b, c, d, inr (reads_more a b s)))

  leads_more : (s : Sort) (a b : ℕ) → Leads es hb s a b → Leads es more s a b
  leads_more sort.Po a b l = l
  leads_more sort.Rf a b l = l
  leads_more sort.Before a b l = before_more a b l
  leads_more (sort.Read r) a b l = read_more r a b l
  leads_more sort.Hb a b l = to a b l

  step_more : (Is : Sort → Type 0) (s : Step) → StepHolds Is es hb s → StepHolds Is es more s
  step_more Is s (is, l) = (is, leads_more s.sort s.from s.to l)

  pub violates_more : (scope : Scope) (v : Violation) (ss : List Step) → Violates scope es hb v ss → Violates scope es more v ss
  violates_more scope (violation.Causal k) ss (n, c) = (n, cycle_same SameEvent _ _ (step_more _) ss c)
  violates_more scope (violation.Twin u v) ss is = is
  violates_more scope (violation.Weak w v r) ss (n, weak, f, (h, k, s, same)) = (n, weak, f, (to w v h, to v r k, s, same))
  violates_more scope violation.Back ss (n, location, (h, b)) = (n, location, (step_more IsBeforeOrRead (step_at ss 0) h, b))
  violates_more scope (violation.Round l k) ss (n, location, c) = (n, location, cycle_same (SameChain es) _ _ (λ s (h, at). (step_more IsBeforeOrRead s h, at)) ss c)
  violates_more scope (violation.Whole k) ss (n, whole, c) = (n, whole, cycle_same SameEvent _ _ (step_more _) ss c)

module _ (es : List Event) (hb now : Rel) (to : (a b : ℕ) → hb a b → now a b) (from : (a b : ℕ) → now a b → hb a b) where
  pub first_same : (scope : Scope) (v : Violation) → IsFirst scope es hb v → IsFirst scope es now v
  first_same scope v first w ss is = first w ss (violates_more es now hb from scope w ss is)

  ready_same : (o : List ℕ) (i h : ℕ) → ChainReady es hb o i h → ChainReady es now o i h
  ready_same o i h r = record { head = r.head; unlaid = r.unlaid; free = λ g is left s. r.free g is left (chain_more es now hb from g h s) }

module _ (es : List Event) (hb now : Rel) (to : (a b : ℕ) → hb a b → now a b) (from : (a b : ℕ) → now a b → hb a b) where
  turn_same : (o : List ℕ) (i h : ℕ) → ChainTurn es hb o i h → ChainTurn es now o i h
  turn_same o i h t =
      record { ready = ready_same es hb now to from o i h (t.ready); lowest = λ g less at r. t.lowest g less at (ready_same es now hb from to o i g r) }

  pub laid_same : (scope : Scope) (o : List ℕ) → IsLaid scope es hb o → IsLaid scope es now o
  laid_same Location o l = record { lists = l.lists; whole = l.whole; turns = λ i lt w. turn_same o i _ (l.turns i lt w) }
  laid_same Whole o (l, t, off) = (l, ordered_same (length es) (hb ∪ ReadSteps es hb) (now ∪ ReadSteps es now) edges l t, off)
    where
      edges : SamePairs (hb ∪ ReadSteps es hb) (now ∪ ReadSteps es now)
      edges a b = (
        ⊎_elim (λ h. inl (to a b h)) (λ s. inr (reads_more es hb now to a b s)),
        ⊎_elim (λ h. inl (from a b h)) (λ s. inr (reads_more es now hb from a b s)),
      )
  laid_same Weak o e = e
