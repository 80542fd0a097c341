-- The steps of a violation join events of the run.
use Rattle.std.proofs.Common.{List, inl, inr, subst}
use Rattle.std.specs.List.{All}
use Rattle.std.proofs.lemmas.List.Elements.{All-from_get_or}
use Rattle.events.specs.Run.{Within, Store, FullRun}
use Rattle.events.specs.Graph.{Po, Inside}
use Rattle.events.specs.declared.event.Event.{Event}
use Rattle.events.specs.Relations.{Rel, ◌∪◌, one, more}
use Rattle.models.specs.Models.{Hb}
use Rattle.models.proofs.Inside.{step_inside}
use Rattle.verdicts.specs.Violations.{Leads, StepHolds, IsBeforeOrRead, Cycle, no_step}
use Rattle.verdicts.specs.declared.step.Sort.{Sort}
use Rattle.verdicts.specs.declared.step.Sort.TheVariants as sort
use Rattle.verdicts.specs.declared.step.Step.{Step}

module _ (es : List Event) where
  module _ (sw : Rel) (inside : Inside es sw) where
    link_inside : Inside es (Po es ∪ sw)
    link_inside a b (inl p) = (p.0, p.1)
    link_inside a b (inr s) = inside a b s

    pub happens_inside : Inside es (Hb sw es)
    happens_inside a b (one s) = link_inside a b s
    happens_inside a b (more {b = m} s p) = ((link_inside a m s).0, (happens_inside m b p).1)

  abbrev pub StepInside : Step → Type 0
  StepInside s = Within es s.from × Within es s.to

  module _ (full : FullRun es) (hb : Rel) (inside : Inside es hb) where
    pub leads_inside : (k : Sort) → Inside es (Leads es hb k)
    leads_inside sort.Po a b p = (p.0, p.1)
    leads_inside sort.Rf a b f = step_inside es full a b (inr f)
    leads_inside sort.Before a b l = (l.0.0.0, l.0.1.0)
    leads_inside (sort.Read r) a b l = (l.0.0.0, l.0.1.0)
    leads_inside sort.Hb a b h = inside a b h

    pub holds_inside : (Is : Sort → Type 0) (s : Step) → StepHolds Is es hb s → StepInside s
    holds_inside Is s h = leads_inside s.sort s.from s.to h.1

    pub cycle_inside : (Same : Rel) (Holds : Step → Type 0) (ss : List Step) → ((s : Step) → Holds s → StepInside s) → Cycle Same Holds ss → All StepInside ss
    cycle_inside Same Holds ss within c = All-from_get_or StepInside ss no_step (λ i lt. within _ (c.steps i lt))

    -- a step between stores starts at one
    pub starts_at_store : (s : Step) → StepHolds IsBeforeOrRead es hb s → Store es s.from
    starts_at_store s (inl e, l) = (subst (λ k. Leads es hb k s.from s.to) e l).0.0
    starts_at_store s (inr (r, e), l) = (subst (λ k. Leads es hb k s.from s.to) e l).0.0
