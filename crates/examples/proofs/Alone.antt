-- That a violation is the only one of its kind.
use Rattle.std.proofs.Common.{◌≡◌, ℕ, ◌<◌, inl, inr, List, [], ◌∷◌, length, refl, sym, subst, ap, ◌∙◌, arith}
use Rattle.std.proofs.Math.Decide.{ℕ_discrete}
use Rattle.events.specs.Run.{at, Load}
use Rattle.events.specs.Graph.{Rf, PoRf, Inside}
use Rattle.events.specs.Relations.{Rel, ◌∪◌}
use Rattle.events.specs.declared.event.Event.{Event}
use Rattle.verdicts.specs.Chains.{SameChain, BeforeInChain}
use Rattle.verdicts.specs.Steps.{Overwrites, ReadSteps, StoreStep}
use Rattle.verdicts.specs.Numbers.{violation_number}
use Rattle.verdicts.specs.Violations.{AreTwins, Violates, Leads, IsPoOrRf, IsBeforeOrRead, IsHbOrRead, StepHolds, step_at, SameEvent, AtLocation}
use Rattle.verdicts.specs.declared.step.Sort.{Sort}
use Rattle.verdicts.specs.declared.step.Sort.TheVariants as sort
use Rattle.verdicts.specs.declared.step.Step.{Step}
use Rattle.verdicts.specs.declared.violation.Violation.{Violation}
use Rattle.verdicts.specs.declared.violation.Violation.TheVariants as violation
use Rattle.models.specs.declared.scope.Scope.{Scope}
use Rattle.examples.specs.Forced.{ends, SameViolation}
use Rattle.examples.proofs.Decisions.{dec_and, dec_and3, dec_or, dec_if, dec_each}
use Rattle.examples.proofs.Deciding.{bound, within_low, dec_load, dec_twins, dec_store_step, dec_reads, dec_overwrites, dec_before_in_chain, dec_same_chain, step_stores}
use Rattle.examples.proofs.Drawn.{dec_ra}
use Rattle.examples.proofs.Ends.{plainly, length_ends, ends_one}
use Rattle.examples.proofs.Rounds.{Every, dec_every, steps_below, below_each, Known, dec_known, cycle_known}
use Rattle.examples.proofs.Tables.{Tables}

module _ (es : List Event) (hb : Rel) (inside : Inside es hb) (dec : (a b : ℕ) → Dec (hb a b)) (f : List ℕ) (paths : Tables (Rf es) f) where
  -- The relations whose steps make cycles, listed.
  abbrev HbOrRead : Rel
  HbOrRead = hb ∪ ReadSteps es hb

  abbrev dec_hb_or_read : (a b : ℕ) → Dec (HbOrRead a b)
  dec_hb_or_read a b = dec_or (dec a b) (dec_reads es hb inside dec f paths a b)

  abbrev dec_between : (a b : ℕ) → Dec (StoreStep es hb a b)
  dec_between a b = dec_store_step es hb inside dec f paths a b

  abbrev listed : (R : Rel) → ((a b : ℕ) → Dec (R a b)) → List Step
  listed R d = steps_below R d (bound es) (bound es)

  listed_each : (R : Rel) (d : (a b : ℕ) → Dec (R a b)) → Inside es R → (P : Step → Type 0) → Every P (listed R d) → (s : Step) →
      R s.from s.to → P (plainly s)
  listed_each R d in_run P each s r =
      let (v, w) = in_run s.from s.to r in
      below_each R d P (bound es) (bound es) each s.from (within_low es s.from v) s.to (within_low es s.to w) r

  by_sort : (s : Step) (t : Sort) → s.sort ≡ t → Leads es hb s.sort s.from s.to → Leads es hb t s.from s.to
  by_sort s t is = subst (λ k. Leads es hb k s.from s.to) is

  po_rf_step : (s : Step) → StepHolds IsPoOrRf es hb s → PoRf es s.from s.to
  po_rf_step s (inl is, l) = inl (by_sort s sort.Po is l)
  po_rf_step s (inr is, l) = inr (by_sort s sort.Rf is l)

  hb_or_read_step : (s : Step) → StepHolds IsHbOrRead es hb s → HbOrRead s.from s.to
  hb_or_read_step s (inl is, l) = inl (by_sort s sort.Hb is l)
  hb_or_read_step s (inr (r, is), l) = inr (r, by_sort s (sort.Read r) is l)

  between_step : (s : Step) → StepHolds IsBeforeOrRead es hb s → StoreStep es hb s.from s.to
  between_step s (inl is, l) = inl (by_sort s sort.Before is l)
  between_step s (inr (r, is), l) = inr (r, by_sort s (sort.Read r) is l)

  reads_inside : Inside es (ReadSteps es hb)
  reads_inside a b (r, s) = (s.0.0.0, s.0.1.0)

  between_inside : Inside es (StoreStep es hb)
  between_inside a b s = let t = step_stores es hb inside dec f paths a b s in (t.0.0, t.1.0)

  hb_or_read_inside : Inside es HbOrRead
  hb_or_read_inside a b (inl h) = inside a b h
  hb_or_read_inside a b (inr s) = reads_inside a b s

  -- Cycles of the kind are this one, turned; those of chains are at its location. Twins are these, and so on.
  abbrev pub Alone : Violation → List Step → Type 0
  Alone (violation.Causal k) ss = Known SameEvent ℕ_discrete (listed (PoRf es) (dec_ra es)) ss (bound es)
  Alone (violation.Twin u v) ss = (a : ℕ) → a < bound es → (b : ℕ) → b < bound es → AreTwins es a b → (u ≡ a) × (v ≡ b)
  Alone (violation.Weak w v r) ss =
      (a : ℕ) → a < bound es → (b : ℕ) → b < bound es → Load es a × Overwrites es hb (at es a).writer b a →
      (w ≡ (at es a).writer) × (v ≡ b) × (r ≡ a)
  Alone violation.Back ss =
      (a : ℕ) → a < bound es → (b : ℕ) → b < bound es → StoreStep es hb a b × BeforeInChain es b a →
      ((step_at ss 0).from ≡ a) × ((step_at ss 0).to ≡ b)
  Alone (violation.Round l k) ss =
      Known (SameChain es) (dec_same_chain es hb inside dec f paths) (listed (StoreStep es hb) dec_between) ss (bound es)
      × Every (λ s. l ≡ (at es s.from).location) (listed (StoreStep es hb) dec_between)
  Alone (violation.Whole k) ss = Known SameEvent ℕ_discrete (listed HbOrRead dec_hb_or_read) ss (bound es)

  abbrev pub dec_alone : (v : Violation) (ss : List Step) → Dec (Alone v ss)
  dec_alone (violation.Causal k) ss = dec_known SameEvent ℕ_discrete (listed (PoRf es) (dec_ra es)) ss (bound es)
  dec_alone (violation.Twin u v) ss =
      dec_each (bound es) _ (λ a. dec_each (bound es) _ (λ b. dec_if (dec_twins es a b) (dec_and (ℕ_discrete u a) (ℕ_discrete v b))))
  dec_alone (violation.Weak w v r) ss =
      dec_each (bound es) _ (λ a. dec_each (bound es) _
      (λ b. dec_if (dec_and (dec_load es a) (dec_overwrites es hb inside dec f paths (at es a).writer b a))
      (dec_and3 (ℕ_discrete w (at es a).writer) (ℕ_discrete v b) (ℕ_discrete r a))))
  dec_alone violation.Back ss =
      dec_each (bound es) _ (λ a. dec_each (bound es) _
      (λ b. dec_if (dec_and (dec_between a b) (dec_before_in_chain es hb inside dec f paths b a))
      (dec_and (ℕ_discrete (step_at ss 0).from a) (ℕ_discrete (step_at ss 0).to b))))
  dec_alone (violation.Round l k) ss =
      dec_and (dec_known (SameChain es) (dec_same_chain es hb inside dec f paths) (listed (StoreStep es hb) dec_between) ss (bound es))
      (dec_every _ (λ s. ℕ_discrete l (at es s.from).location) (listed (StoreStep es hb) dec_between))
  dec_alone (violation.Whole k) ss = dec_known SameEvent ℕ_discrete (listed HbOrRead dec_hb_or_read) ss (bound es)

  chain_again : (a b : ℕ) → SameChain es a b → SameChain es b b
  chain_again a b (g, p, q) = (g, q, q)

  as_long : (k j : ℕ) (ss ts : List Step) → length ss ≡ k → length ts ≡ j → ends ts ≡ ends ss → k ≡ j
  as_long k j ss ts e i same = let long = ap length same in omega (arith, length_ends ss, length_ends ts)

  one_step : (ss : List Step) → length ss ≡ 1 → ends ss ≡ ((step_at ss 0).from, (step_at ss 0).to) ∷ []
  one_step [] e = absurd (omega arith)
  one_step (s ∷ []) e = ends_one s
  one_step (s ∷ (t ∷ ss)) e = absurd (omega arith)

  -- so whatever else violates is the same
  module _ (joins : Inside es (PoRf es)) (scope : Scope) where
    pub alone : (v : Violation) (ss : List Step) → Alone v ss → Violates scope es hb v ss → (w : Violation) (ts : List Step) →
        Violates scope es hb w ts → violation_number v ≡ violation_number w → SameViolation v ss w ts
    alone (violation.Causal k) ss a (e, c) (violation.Causal j) ts (i, d) n =
        let same =
        cycle_known SameEvent ℕ_discrete (listed (PoRf es) (dec_ra es)) ss (StepHolds IsPoOrRf es hb)
        (λ P each s h. listed_each (PoRf es) (dec_ra es) joins P each s (po_rf_step s h)) (λ x y _. refl) (bound es) a ts d in
        (ap violation.Causal (as_long k j ss ts e i same), sym same)
    alone (violation.Twin u v) ss a (e, _) (violation.Twin x y) ts (i, t) n =
        let (p, q) = a x (within_low es x (t.1.0)) y (within_low es y (t.2.0)) t in
        ((λ i. violation.Twin (p i) (q i)), ap ends (e ∙ sym i))
    alone (violation.Weak w v r) ss a (e, _, _, _) (violation.Weak x y z) ts (i, _, f, o) n =
        let (p, q, s) = a z (within_low es z (f.0.0)) y (within_low es y (o.2.0)) (f.0, rw (f.1) o) in
        ((λ i. violation.Weak ((p ∙ f.1) i) (q i) (s i)), ap ends (e ∙ sym i))
    alone violation.Back ss a (e, _, _) violation.Back ts (i, _, (held, back)) n =
        let s = step_at ts 0 in
        let step = between_step s held in
        let in_run = between_inside s.from s.to step in
        let (p, q) = a s.from (within_low es s.from (in_run.0)) s.to (within_low es s.to (in_run.1)) (step, back) in
        (refl, one_step ss e ∙ ((λ i. (p i, q i) ∷ []) ∙ sym (one_step ts i)))
    alone (violation.Round l k) ss (a, at_l) (e, _, c) (violation.Round m j) ts (i, _, d) n =
        let same =
        cycle_known (SameChain es) (dec_same_chain es hb inside dec f paths) (listed (StoreStep es hb) dec_between) ss (AtLocation es hb m)
        (λ P each s h. listed_each (StoreStep es hb) dec_between between_inside P each s (between_step s (h.0))) chain_again (bound es) a ts d in
        let first = d.steps 0 (let two = d.two in omega arith) in
        let here = listed_each (StoreStep es hb) dec_between between_inside _ at_l (step_at ts 0) (between_step (step_at ts 0) (first.0)) in
        let long = as_long k j ss ts e i same in
        ((λ i. violation.Round ((here ∙ first.1) i) (long i)), sym same)
    alone (violation.Whole k) ss a (e, _, c) (violation.Whole j) ts (i, _, d) n =
        let same =
        cycle_known SameEvent ℕ_discrete (listed HbOrRead dec_hb_or_read) ss (StepHolds IsHbOrRead es hb)
        (λ P each s h. listed_each HbOrRead dec_hb_or_read hb_or_read_inside P each s (hb_or_read_step s h)) (λ x y _. refl) (bound es) a ts d in
        (ap violation.Whole (as_long k j ss ts e i same), sym same)
    alone v ss a h w ts k n = absurd (omega arith)
