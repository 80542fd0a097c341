-- Runs that differ in modes only have the same orders, axioms, violations and layings, for the same happens-before.
use Rattle.std.proofs.Common.{◌≡◌, ℕ, List, slice_index, inl, inr, ⊎_elim, sym, ◌∙◌, arith}
use Rattle.events.specs.Relations.{Rel, ◌？, ◌⁺, one}
use Rattle.events.specs.Paths.{path_through}
use Rattle.events.specs.Run.{at, Within, Load, Store, Write, Update, SameLocation}
use Rattle.events.specs.Graph.{Po, Rf, PoRf}
use Rattle.events.specs.declared.event.Event.{Event}
use Rattle.models.specs.Orders.{ListsStores, Mo}
use Rattle.models.specs.Models.{Fr, Holds}
use Rattle.models.specs.declared.axiom.Axiom.{Axiom}
use Rattle.models.specs.declared.axiom.Axiom.TheVariants.{Causality, WriteCoherence, ReadCoherence, Atomicity}
use Rattle.models.specs.declared.scope.Scope.{Scope}
use Rattle.models.specs.declared.scope.Scope.TheVariants.{Location}
use Rattle.verdicts.specs.Chains.{InChain, SameChain}
use Rattle.verdicts.specs.Layings.{ChainReady, ChainTurn, LaysChains}
use Rattle.verdicts.specs.Steps.{TwoStores, BeforeStep, ReadStep, ChainStep}
use Rattle.verdicts.specs.Violations.{IsBeforeOrRead, Leads, StepHolds, SameEvent, Cycle, Violates, step_at}
use Rattle.verdicts.specs.declared.step.Sort.{Sort}
use Rattle.verdicts.specs.declared.step.Sort.TheVariants as sort
use Rattle.verdicts.specs.declared.step.Step.{Step}
use Rattle.verdicts.specs.declared.violation.Violation.{Violation}
use Rattle.verdicts.specs.declared.violation.Violation.TheVariants as violation
use Rattle.verdicts.proofs.Same.{cycle_same}
use Rattle.views.specs.Laws.{SameButModes}

pub alike_turned : (es fs : List Event) → SameButModes es fs → SameButModes fs es
alike_turned es fs s =
    record {
      count = sym (s.count);
      thread = λ i. sym (s.thread i);
      kind = λ i. sym (s.kind i);
      location = λ i. sym (s.location i);
      writer = λ i. sym (s.writer i);
    }

-- what is true of the one run is true of the other
module _ (es fs : List Event) (s : SameButModes es fs) where
  pub within : (i : ℕ) → Within es i → Within fs i
  within i (low, high) = (low, omega (arith, high, s.count))

  load : (i : ℕ) → Load es i → Load fs i
  load i (w, is) = (within i w, rw (s.kind i) is)

  store : (i : ℕ) → Store es i → Store fs i
  store i (w, is) = (within i w, rw (s.kind i) is)

  write : (i : ℕ) → Write es i → Write fs i
  write i (w, is) = (within i w, s.kind i ∙ is)

  update : (i : ℕ) → Update es i → Update fs i
  update i (w, is) = (within i w, s.kind i ∙ is)

  same_place : (a b : ℕ) → SameLocation es a b → SameLocation fs a b
  same_place a b e = s.location a ∙ (e ∙ sym (s.location b))

  pub po : (a b : ℕ) → Po es a b → Po fs a b
  po a b (u, v, e, less) = (within a u, within b v, s.thread a ∙ (e ∙ sym (s.thread b)), less)

  pub rf : (a b : ℕ) → Rf es a b → Rf fs a b
  rf a b (l, e) = (load b l, s.writer b ∙ e)

  pub po_rf : (a b : ℕ) → (PoRf es ⁺) a b → (PoRf fs ⁺) a b
  po_rf a b p = path_through (λ u v k. one (⊎_elim (λ h. inl (po u v h)) (λ h. inr (rf u v h)) k)) p

  rf_path : (a b : ℕ) → (Rf es ⁺) a b → (Rf fs ⁺) a b
  rf_path a b p = path_through (λ u v k. one (rf u v k)) p

  perhaps : (a b : ℕ) → (Rf es ？) a b → (Rf fs ？) a b
  perhaps a b (inl e) = inl e
  perhaps a b (inr f) = inr (rf a b f)

  mo : (o : List ℕ) (a b : ℕ) → Mo es o a b → Mo fs o a b
  mo o a b (before, at) = (before, same_place a b at)

  fr : (o : List ℕ) (a b : ℕ) → Fr es (Mo es o) a b → Fr fs (Mo fs o) a b
  fr o a b ((w, f, m), differs) = ((w, rf w a f, mo o w b m), differs)

  in_chain : (g a : ℕ) → InChain es g a → InChain fs g a
  in_chain g a (head, reach, is) = (write g head, ⊎_elim (λ e. inl e) (λ p. inr (rf_path g a p)) reach, store a is)

  same_chain : (a b : ℕ) → SameChain es a b → SameChain fs a b
  same_chain a b (g, p, q) = (g, in_chain g a p, in_chain g b q)

  module _ (hb : Rel) where
    two_stores : (a b : ℕ) → TwoStores es a b → TwoStores fs a b
    two_stores a b (u, v, at, differs) = (store a u, store b v, same_place a b at, differs)

    before_step : (a b : ℕ) → BeforeStep es hb a b → BeforeStep fs hb a b
    before_step a b (two, (x, k, h)) = (two_stores a b two, (x, perhaps a x k, h))

    read_step : (r a b : ℕ) → ReadStep es hb r a b → ReadStep fs hb r a b
    read_step r a b (two, (x, k, h), f) = (two_stores a b two, (x, perhaps a x k, h), rf b r f)

    chain_step : (g h : ℕ) → ChainStep es hb g h → ChainStep fs hb g h
    chain_step g h (differs, (a, b, p, q, inl k)) = (differs, (a, b, in_chain g a p, in_chain h b q, inl (before_step a b k)))
    chain_step g h (differs, (a, b, p, q, inr (r, k))) = (differs, (a, b, in_chain g a p, in_chain h b q, inr (r, read_step r a b k)))

    leads : (k : Sort) (a b : ℕ) → Leads es hb k a b → Leads fs hb k a b
    leads sort.Po a b l = po a b l
    leads sort.Rf a b l = rf a b l
    leads sort.Before a b l = before_step a b l
    leads (sort.Read r) a b l = read_step r a b l
    leads sort.Hb a b l = l

    step : (Is : Sort → Type 0) (k : Step) → StepHolds Is es hb k → StepHolds Is fs hb k
    step Is k (is, l) = (is, leads k.sort k.from k.to l)

-- where what is true of the other run has to be true of the one
module _ (es fs : List Event) (s : SameButModes es fs) where
  abbrev t : SameButModes fs es
  t = alike_turned es fs s

  pub order_alike : (o : List ℕ) → ListsStores es o → ListsStores fs o
  order_alike o l =
      record {
        stores = λ i lt. store es fs s _ (l.stores i lt);
        all = λ w is. l.all w (store fs es t w is);
        once = l.once;
        rising = λ i j less lt. rw (s.location (slice_index o i)) (rw (s.location (slice_index o j)) (l.rising i j less lt));
      }

  module _ (hb : Rel) where
    pub holds_alike : (o : List ℕ) (x : Axiom) → Holds x Location es hb (Mo es o) → Holds x Location fs hb (Mo fs o)
    holds_alike o Causality holds = λ a p. holds a (po_rf fs es t a a p)
    holds_alike o WriteCoherence holds = λ a (b, m, (c, f, h)). holds a (b, mo fs es t o a b m, (c, perhaps fs es t b c f, h))
    holds_alike o ReadCoherence holds = λ a (b, r, (c, f, h)). holds a (b, fr fs es t o a b r, (c, perhaps fs es t b c f, h))
    holds_alike o Atomicity holds = λ a (b, r, m). holds a (b, fr fs es t o a b r, mo fs es t o b a m)

    ready : (o : List ℕ) (i h : ℕ) → ChainReady es hb o i h → ChainReady fs hb o i h
    ready o i h r =
        record {
          head = write es fs s h (r.head);
          unlaid = r.unlaid;
          free = λ g is left k. r.free g (write fs es t g is) left (chain_step fs es t hb g h k);
        }

    cycle : (l : ℕ) (ss : List Step) → Cycle (SameChain es) (λ k. StepHolds IsBeforeOrRead es hb k × ((at es k.from).location ≡ l)) ss → Cycle (SameChain fs) (λ k. StepHolds IsBeforeOrRead fs hb k × ((at fs k.from).location ≡ l)) ss
    cycle l ss c =
        record {
          two = c.two;
          steps = λ i lt. let h = c.steps i lt in (step es fs s hb IsBeforeOrRead (step_at ss i) (h.0), s.location (step_at ss i).from ∙ h.1);
          joined = λ i lt. same_chain es fs s _ _ (c.joined i lt);
          closed = same_chain es fs s _ _ (c.closed);
          apart = λ i j less lt same. c.apart i j less lt (same_chain fs es t _ _ same);
        }

    pub violates_alike : (scope : Scope) (v : Violation) (ss : List Step) → Violates scope es hb v ss → Violates scope fs hb v ss
    violates_alike scope (violation.Causal k) ss (n, c) = (n, cycle_same SameEvent _ _ (step es fs s hb _) ss c)
    violates_alike scope (violation.Twin u v) ss (n, (less, a, b, (w, f, k))) = (n, (less, update es fs s u a, update es fs s v b, (w, rf es fs s w u f, rf es fs s w v k)))
    violates_alike scope (violation.Weak w v r) ss (n, weak, f, (h, k, is, at)) = (n, weak, rf es fs s w r f, (h, k, store es fs s v is, same_place es fs s w v at))
    violates_alike scope violation.Back ss (n, location, (h, (p, is))) = (n, location, (step es fs s hb IsBeforeOrRead (step_at ss 0) h, (rf_path es fs s _ _ p, store es fs s _ is)))
    violates_alike scope (violation.Round l k) ss (n, location, c) = (n, location, cycle l ss c)
    violates_alike scope (violation.Whole k) ss (n, whole, c) = (n, whole, cycle_same SameEvent _ _ (step es fs s hb _) ss c)

module _ (es fs : List Event) (s : SameButModes es fs) (hb : Rel) where
  turn : (o : List ℕ) (i h : ℕ) → ChainTurn es hb o i h → ChainTurn fs hb o i h
  turn o i h t =
      record {
        ready = ready es fs s hb o i h (t.ready);
        lowest = λ g less at r. t.lowest g less (same_place fs es (alike_turned es fs s) g h at) (ready fs es (alike_turned es fs s) hb o i g r);
      }

  pub laid_alike : (o : List ℕ) → LaysChains es hb o → LaysChains fs hb o
  laid_alike o l =
      record {
        lists = order_alike es fs s o (l.lists);
        whole = λ i lt u. let w = l.whole i lt (update fs es (alike_turned es fs s) _ u) in (w.0, rf es fs s _ _ (w.1));
        turns = λ i lt w. turn o i _ (l.turns i lt (write fs es (alike_turned es fs s) _ w));
      }
