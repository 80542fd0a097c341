-- A violation that holds in a run rules out every order.
use Rattle.std.proofs.Common.{◌≡◌, ◌≢◌, inl, inr, ⊎_elim, ℕ, suc, ◌<◌, ◌+◌, ◌-◌, List, length, refl, sym, subst, ◌∙◌, arith}
use Rattle.events.specs.Run.{at, Update, FullRun}
use Rattle.events.specs.Graph.{Rf, PoRf}
use Rattle.events.specs.declared.event.Event.{Event}
use Rattle.events.specs.Relations.{Rel, ◌∪◌, ◌⁺, one, Acyclic}
use Rattle.models.specs.Orders.{IsOrder, Mo, MoOrders}
use Rattle.models.specs.Models.{Hb, Holds, Satisfies}
use Rattle.models.specs.declared.axiom.Axiom.TheVariants.{Causality, WriteCoherence, ReadCoherence, Atomicity}
use Rattle.models.specs.declared.scope.Scope.{Scope}
use Rattle.models.specs.declared.scope.Scope.TheVariants.{Location, Whole, Weak}
use Rattle.models.proofs.Orders.{mo_orders}
use Rattle.verdicts.specs.Chains.{InChain, SameChain, BeforeInChain}
use Rattle.verdicts.specs.Steps.{StoreStep}
use Rattle.verdicts.specs.Violations.{Leads, StepHolds, IsPoOrRf, IsBeforeOrRead, IsHbOrRead, SameEvent, AtLocation, Cycle, Violates, step_at}
use Rattle.verdicts.specs.declared.step.Step.{Step}
use Rattle.verdicts.specs.declared.step.Sort.{Sort}
use Rattle.verdicts.specs.declared.step.Sort.TheVariants as sort
use Rattle.verdicts.specs.declared.violation.Violation.{Violation}
use Rattle.verdicts.specs.declared.violation.Violation.TheVariants as violation
use Rattle.verdicts.proofs.Chains.{turned, update_store, chain_location, writer_location}
use Rattle.verdicts.proofs.Along.{read_step_along, step_along, back_excluded, rf_along, after_all}
use Rattle.verdicts.proofs.Cycles.{cycle_path, round_strict}

-- the relation that a step is of, by its sort
sort_leads : (es : List Event) (hb : Rel) (s t : Sort) (a b : ℕ) → s ≡ t → Leads es hb s a b → Leads es hb t a b
sort_leads es hb s t a b e l = subst (λ x. Leads es hb x a b) e l

pub causal_step : (es : List Event) (hb : Rel) (s : Step) → StepHolds IsPoOrRf es hb s → (PoRf es ⁺) s.from s.to
causal_step es hb s (inl e, l) = one (inl (sort_leads es hb s.sort sort.Po s.from s.to e l))
causal_step es hb s (inr e, l) = one (inr (sort_leads es hb s.sort sort.Rf s.from s.to e l))

pub store_step : (es : List Event) (hb : Rel) (s : Step) → StepHolds IsBeforeOrRead es hb s → StoreStep es hb s.from s.to
store_step es hb s (inl e, l) = inl (sort_leads es hb s.sort sort.Before s.from s.to e l)
store_step es hb s (inr (r, e), l) = inr (r, sort_leads es hb s.sort (sort.Read r) s.from s.to e l)

pub causal_excluded : (es : List Event) (hb : Rel) (ss : List Step) → Cycle SameEvent (StepHolds IsPoOrRf es hb) ss → ¬ Acyclic (PoRf es)
causal_excluded es hb ss c acyclic = acyclic (step_at ss 0).from (cycle_path (PoRf es) (StepHolds IsPoOrRf es hb) (causal_step es hb) ss c)

module _ (es : List Event) (full : FullRun es) (hb : Rel) (path : (a b : ℕ) → hb a b → (PoRf es ⁺) a b) (mo : Rel) (orders : MoOrders es mo) where
  module _ (causal : Acyclic (PoRf es)) (writes : Holds WriteCoherence Location es hb mo) (reads : Holds ReadCoherence Location es hb mo) (atomic : Holds Atomicity Location es hb mo) where
    twin_excluded : (u v w : ℕ) → u ≢ v → Update es u → Update es v → Rf es w u → ¬ Rf es w v
    twin_excluded u v w differs a b f k =
        ⊎_elim
        (λ m. atomic v (u, ((w, k, rf_along es full hb path causal mo orders writes w u f (update_store es u a)), λ e. differs (sym e)), m))
        (λ m. atomic u (v, ((w, f, rf_along es full hb path causal mo orders writes w v k (update_store es v b)), differs), m))
        (orders.total u v (update_store es u a) (update_store es v b) (sym (writer_location es full w u f) ∙ writer_location es full w v k) differs)

    back_step_excluded : (s : Step) → StepHolds IsBeforeOrRead es hb s → ¬ BeforeInChain es s.to s.from
    back_step_excluded s h b = back_excluded es full hb path causal mo orders writes reads s.from s.to (store_step es hb s h) b

    module _ (l : ℕ) (ss : List Step) (c : Cycle (SameChain es) (AtLocation es hb l) ss) where
      abbrev from : ℕ → ℕ
      from i = (step_at ss i).from

      abbrev to : ℕ → ℕ
      to i = (step_at ss i).to

      -- from the start of a step to a store of the chain that it leads to
      leads_on : (i : ℕ) (b : ℕ) → i < length ss → SameChain es (to i) b → ¬ SameChain es (from i) b → mo (from i) b
      leads_on i b lt (g, p, q) apart =
          let step = store_step es hb (step_at ss i) ((c.steps i lt).0) in
          let m = step_along es full hb path causal mo orders writes reads (from i) (to i) step in
          let (s, t, at) = orders.stores (from i) (to i) m in
          after_all es full hb path causal mo orders writes atomic g (from i) (λ x is e. apart (g, subst (λ z. InChain es g z) e is, q)) s
          (chain_location es full g (to i) p ∙ sym at) (to i) b p q m

      round_excluded : ⊥
      round_excluded =
          let two = c.two in
          let last = length ss - 1 in
          let on : (i : ℕ) → i < last → mo (from i) (from (suc i)) = λ i lt.
          let e : i + 1 ≡ suc i = omega arith in
          leads_on i (from (suc i)) (omega arith) (subst (λ k. SameChain es (to i) (from k)) e (c.joined i (omega arith))) (c.apart i (suc i) (omega arith) (omega arith)) in
          let back = leads_on last (from 0) (omega arith) (c.closed) (λ t. c.apart 0 last (omega arith) (omega arith) (turned es (from last) (from 0) t)) in
          orders.strict (from 0) (orders.joins (from 0) (from last) (from 0) (round_strict mo from last (orders.joins) on (omega arith)) back)

  whole_step : Acyclic (PoRf es) → Holds ReadCoherence Whole es hb mo → (s : Step) → StepHolds IsHbOrRead es hb s → ((hb ∪ mo) ⁺) s.from s.to
  whole_step causal reads s (inl e, l) = one (inl (sort_leads es hb s.sort sort.Hb s.from s.to e l))
  whole_step causal reads s (inr (r, e), l) =
      one (inr (read_step_along es full hb path causal mo orders reads r s.from s.to (sort_leads es hb s.sort (sort.Read r) s.from s.to e l)))

  whole_excluded : (ss : List Step) → Cycle SameEvent (StepHolds IsHbOrRead es hb) ss → Acyclic (PoRf es) → Holds ReadCoherence Whole es hb mo → ¬ Holds WriteCoherence Whole es hb mo
  whole_excluded ss c causal reads writes =
      writes (step_at ss 0).from (cycle_path (hb ∪ mo) (StepHolds IsHbOrRead es hb) (whole_step causal reads) ss c)

module _ (es : List Event) (full : FullRun es) (sw : Rel) (path : (a b : ℕ) → Hb sw es a b → (PoRf es ⁺) a b) where
  -- no violation holds where an order satisfies the rule; at whole scope, of a run without updates
  pub violation_excludes : (scope : Scope) → (scope ≡ Whole → (u : ℕ) → ¬ Update es u) → (v : Violation) (ss : List Step) → Violates scope es (Hb sw es) v ss → (o : List ℕ) → IsOrder scope es o → ¬ Satisfies scope sw es (Mo es o)
  violation_excludes scope none (violation.Causal k) ss (n, c) o is all = causal_excluded es (Hb sw es) ss c (all Causality)
  violation_excludes Location none (violation.Twin u v) ss (n, (less, a, b, (w, f, k))) o is all =
      twin_excluded es full (Hb sw es) path (Mo es o) (mo_orders es o is) (all Causality) (all WriteCoherence) (all ReadCoherence) (all Atomicity) u v w (λ e. omega arith) a b f k
  violation_excludes Whole none (violation.Twin u v) ss (n, (less, a, b, (w, f, k))) o is all = none refl u a
  violation_excludes Weak none (violation.Twin u v) ss (n, (less, a, b, (w, f, k))) o is all = all Atomicity u v w a b (λ e. omega arith) f k
  violation_excludes scope none (violation.Weak w v r) ss (n, weak, f, (h, k, s, same)) o is all =
      let reads = subst (λ x. Holds ReadCoherence x es (Hb sw es) (Mo es o)) weak (all ReadCoherence) in
      reads w (v, (h, same), (v, (refl, s), (r, k, f)))
  violation_excludes scope none violation.Back ss (n, location, (h, b)) o is all =
      let now : (x : _) → Holds x Location es (Hb sw es) (Mo es o) = λ x. subst (λ y. Holds x y es (Hb sw es) (Mo es o)) location (all x) in
      back_step_excluded es full (Hb sw es) path (Mo es o) (mo_orders es o (subst (λ y. IsOrder y es o) location is)) (now Causality) (now WriteCoherence) (now ReadCoherence) (now Atomicity) (step_at ss 0) h b
  violation_excludes scope none (violation.Round l k) ss (n, location, c) o is all =
      let now : (x : _) → Holds x Location es (Hb sw es) (Mo es o) = λ x. subst (λ y. Holds x y es (Hb sw es) (Mo es o)) location (all x) in
      round_excluded es full (Hb sw es) path (Mo es o) (mo_orders es o (subst (λ y. IsOrder y es o) location is)) (now Causality) (now WriteCoherence) (now ReadCoherence) (now Atomicity) l ss c
  violation_excludes scope none (violation.Whole k) ss (n, whole, c) o is all =
      let now : (x : _) → Holds x Whole es (Hb sw es) (Mo es o) = λ x. subst (λ y. Holds x y es (Hb sw es) (Mo es o)) whole (all x) in
      whole_excluded es full (Hb sw es) path (Mo es o) (mo_orders es o (subst (λ y. IsOrder y es o) whole is)) ss c (now Causality) (now ReadCoherence) (now WriteCoherence)
