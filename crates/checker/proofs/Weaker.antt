-- An order that satisfies a model satisfies the weaker ones.
use Rattle.std.proofs.Common.{◌≢◌, ℕ, List, [], inl, inr, ⊎_elim, refl, sym, subst}
use Rattle.std.proofs.lemmas.Bool.{cases_order}
use Rattle.events.specs.Relations.{Rel, ◌∪◌, ◌⁺, ◌？, one}
use Rattle.events.specs.Paths.{path_through, path_join}
use Rattle.events.specs.Run.{Update, FullRun}
use Rattle.events.specs.Graph.{Rf}
use Rattle.events.specs.declared.event.Event.{Event}
use Rattle.models.specs.JoinedRules.{rc20_joined}
use Rattle.models.specs.Orders.{ListsStores, Mo}
use Rattle.models.specs.Models.{Hb, Holds, Satisfies, rc20_rule, reads_from_rule, empty_rule}
use Rattle.models.specs.declared.axiom.Axiom.{Axiom}
use Rattle.models.specs.declared.axiom.Axiom.TheVariants.{Causality, WriteCoherence, ReadCoherence, Atomicity}
use Rattle.models.specs.declared.name.ModelName.TheVariants.{Rc20, Ra, Sra, Wra, Relaxed}
use Rattle.models.specs.declared.scope.Scope.TheVariants.{Location, Whole, Weak}
use Rattle.models.proofs.Less.{holds_less}
use Rattle.models.proofs.Orders.{mo_orders}
use Rattle.verdicts.specs.Steps.{Overwrites}
use Rattle.verdicts.specs.Violations.{AreTwins}
use Rattle.verdicts.specs.declared.violation.Violation.TheVariants.{Twin}
use Rattle.verdicts.proofs.Along.{before_step_along, read_step_along}
use Rattle.verdicts.proofs.Chains.{writer_store}
use Rattle.verdicts.proofs.Excluded.{violation_excludes}
use Rattle.judge.specs.Judges.{Allowed}
use Rattle.judge.proofs.Verdicts.{hb_path}
use Rattle.checker.specs.Related.{AllowedBy}

-- a path, and then perhaps one more step
path_perhaps : {r s : Rel} {a b c : ℕ} → ((x y : ℕ) → s x y → r x y) → (r ⁺) a b → (s ？) b c → (r ⁺) a c
path_perhaps {r} {a = a} to p (inl e) = subst (λ z. (r ⁺) a z) e p
path_perhaps to p (inr s) = path_join p (one (to _ _ s))

-- with less happens-before the same order satisfies the rule
allowed_less : (es : List Event) (more sw : Rel) → ((a b : ℕ) → Hb sw es a b → Hb more es a b) → Allowed Location more es → Allowed Location sw es
allowed_less es more sw less (o, is, all) = (o, is, λ x. holds_less es (Mo es o) (Hb more es) (Hb sw es) less x Location (all x))

module _ (es : List Event) (full : FullRun es) where
  abbrev hb : Rel
  hb = Hb (reads_from_rule es) es

  -- at whole scope a round of an order, reads-from and happens-before is one of the order and happens-before
  whole_location : (mo : Rel) (x : Axiom) → Holds x Whole es hb mo → Holds x Location es hb mo
  whole_location mo Causality holds = holds
  whole_location mo WriteCoherence holds = λ a (b, m, (c, f, h)).
      holds a (path_perhaps {r = hb ∪ mo} {s = hb} (λ x y. inl) (path_perhaps {r = hb ∪ mo} {s = Rf es} (λ x y k. inl (one (inr k))) (one (inr m)) f) h)
  whole_location mo ReadCoherence holds = holds
  whole_location mo Atomicity holds = holds

  pub sra_ra : AllowedBy Sra es → AllowedBy Ra es
  sra_ra (o, is, all) = (o, is, λ x. whole_location (Mo es o) x (all x))

  module _ (o : List ℕ) (is : ListsStores es o) (all : Satisfies Location (reads_from_rule es) es (Mo es o)) where
    -- what overwrites the writer of a load before it comes after it in the order, and before it
    not_overwritten : (w v r : ℕ) → Rf es w r → ¬ Overwrites es hb w v r
    not_overwritten w v r f (h, k, s, at) =
        let orders = mo_orders es o is in
        let causal = all Causality in
        let differs : w ≢ v = λ e. causal w (subst (λ z. hb w z) (sym e) h) in
        let store = writer_store es full w r f in
        let after = before_step_along es full hb (λ a b p. p) causal (Mo es o) orders (all WriteCoherence) w v ((store, s, at, differs), (w, inl refl, inr h)) in
        let before = read_step_along es full hb (λ a b p. p) causal (Mo es o) orders (all ReadCoherence) r v w ((s, store, sym at, λ e. differs (sym e)), (v, inl refl, k), f) in
        orders.strict w (orders.joins w v w after before)

    no_twins : (u v w : ℕ) → Update es u → Update es v → u ≢ v → Rf es w u → ¬ Rf es w v
    no_twins u v w a b differs f k =
        let excluded : (x y : ℕ) → ¬ AreTwins es x y = λ x y twins. violation_excludes es full (reads_from_rule es) (λ a b p. p) Location (λ e. absurd (cc)) (Twin x y) [] (refl, twins) o is all in
        ⊎_elim (λ e. differs e)
        (⊎_elim (λ less. excluded u v (less, a, b, (w, f, k))) (λ less. excluded v u (less, b, a, (w, k, f))))
        (cases_order u v)

    location_weak : (x : Axiom) → Holds x Weak es hb (Mo es [])
    location_weak Causality = all Causality
    location_weak WriteCoherence = tt
    location_weak ReadCoherence = λ w (v, (h, at), (u, (e, s), (r, k, f))). not_overwritten w v r f (h, subst (λ z. hb z r) (sym e) k, s, at)
    location_weak Atomicity = no_twins

  pub ra_wra : AllowedBy Ra es → AllowedBy Wra es
  ra_wra (o, is, all) = ([], refl, location_weak o is all)

  pub ra_rc20 : AllowedBy Ra es → AllowedBy Rc20 es
  ra_rc20 = allowed_less es (reads_from_rule es) (rc20_rule es) (hb_path es full (rc20_rule es) (rc20_joined es full))

  pub rc20_relaxed : AllowedBy Rc20 es → AllowedBy Relaxed es
  rc20_relaxed = allowed_less es (rc20_rule es) (empty_rule es) (λ a b p. path_through (λ u v s. one (⊎_elim inl absurd s)) p)
