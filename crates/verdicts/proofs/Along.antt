-- A modification order that keeps the axioms goes along every step, and has each chain as a block.
use Rattle.std.proofs.Common.{◌≢◌, inl, inr, ⊎_elim, ℕ, List, refl, sym, subst, ◌∙◌}
use Rattle.events.specs.Run.{Store, SameLocation, FullRun}
use Rattle.events.specs.Graph.{Rf, PoRf}
use Rattle.events.specs.declared.event.Event.{Event}
use Rattle.events.specs.Relations.{Rel, ◌⨾◌, ◌⁺, ◌？, one, more, Acyclic}
use Rattle.events.specs.Paths.{path_join}
use Rattle.models.specs.Orders.{MoOrders}
use Rattle.models.specs.Models.{Holds}
use Rattle.models.specs.declared.axiom.Axiom.TheVariants.{WriteCoherence, ReadCoherence, Atomicity}
use Rattle.models.specs.declared.scope.Scope.TheVariants.{Location}
use Rattle.verdicts.specs.Chains.{InChain, BeforeInChain}
use Rattle.verdicts.specs.Steps.{BeforeStep, ReadStep, StoreStep}
use Rattle.verdicts.proofs.Chains.{write_store, chain_more, chain_location, source_store, writer_store, writer_location}

module _ (es : List Event) (full : FullRun es) (hb : Rel) (path : (a b : ℕ) → hb a b → (PoRf es ⁺) a b) (causal : Acyclic (PoRf es)) where
  -- what reaches an event by an optional reads-from, then happens-before, comes causally before it
  pub reach_path : (a r : ℕ) → (Rf es ？ ⨾ hb) a r → (PoRf es ⁺) a r
  reach_path a r (x, inl e, h) = subst (λ z. (PoRf es ⁺) z r) (sym e) (path x r h)
  reach_path a r (x, inr f, h) = path_join (one (inr f)) (path x r h)

  module _ (mo : Rel) (orders : MoOrders es mo) where
    pub read_step_along : Holds ReadCoherence Location es hb mo → (r a b : ℕ) → ReadStep es hb r a b → mo a b
    read_step_along reads r a b ((s, t, at, differs), reach, f) =
        ⊎_elim (λ m. m)
        (λ m. absurd (reads r (a, ((b, f, m), λ e. causal r (subst (λ z. (PoRf es ⁺) z r) (sym e) (reach_path a r reach))), reach)))
        (orders.total a b s t at differs)

    -- at location scope
    module _ (writes : Holds WriteCoherence Location es hb mo) where
      pub before_step_along : (a b : ℕ) → BeforeStep es hb a b → mo a b
      before_step_along a b ((s, t, at, differs), reach) = ⊎_elim (λ m. m) (λ m. absurd (writes b (a, m, reach))) (orders.total a b s t at differs)

      pub rf_along : (w u : ℕ) → Rf es w u → Store es u → mo w u
      rf_along w u f s =
          let fits = (full.linked u (f.0.0)).reads (f.0.1) in
          before_step_along w u ((writer_store es full w u f, s, writer_location es full w u f, λ e. fits.other (f.1 ∙ e)), (u, inr f, inl refl))

      pub rf_path_along : (b a : ℕ) → (Rf es ⁺) b a → Store es a → mo b a
      rf_path_along b a (one f) s = rf_along b a f s
      rf_path_along b a (more {b = x} f p) s =
          orders.joins b x a (rf_along b x f (source_store es full x a p)) (rf_path_along x a p s)

      module _ (reads : Holds ReadCoherence Location es hb mo) where
        pub step_along : (a b : ℕ) → StoreStep es hb a b → mo a b
        step_along a b (inl s) = before_step_along a b s
        step_along a b (inr (r, s)) = read_step_along reads r a b s

        pub back_excluded : (a b : ℕ) → StoreStep es hb a b → ¬ BeforeInChain es b a
        back_excluded a b s (p, t) = orders.strict a (orders.joins a b a (step_along a b s) (rf_path_along b a p t))

      -- a store that is outside a chain is before all of it or after all of it
      module _ (atomic : Holds Atomicity Location es hb mo) where
        module _ (g d : ℕ) (outside : (x : ℕ) → InChain es g x → x ≢ d) (store : Store es d) (at : SameLocation es g d) where
          link : (c u : ℕ) → InChain es g u → Rf es c u → mo c d → mo u d
          link c u is f m =
              ⊎_elim (λ k. k) (λ k. absurd (atomic u (d, ((c, f, m), outside u is), k)))
              (orders.total u d (is.2) store (sym (chain_location es full g u is) ∙ at) (outside u is))

          down : (x c : ℕ) → InChain es g x → (Rf es ⁺) x c → Store es c → mo x d → mo c d
          down x c is (one f) s m = link x c (chain_more es g x c is f s) f m
          down x c is (more {b = y} f p) s m =
              let next = chain_more es g x y is f (source_store es full y c p) in down y c next p s (link x y next f m)

          from_head : (c : ℕ) → InChain es g c → mo g d → mo c d
          from_head c (is, inl e, s) m = subst (λ z. mo z d) e m
          from_head c (is, inr p, s) m = down g c (is, inl refl, write_store es g is) p s m

          to_head : (c : ℕ) → InChain es g c → mo c d → mo g d
          to_head c (is, inl e, s) m = subst (λ z. mo z d) (sym e) m
          to_head c (is, inr p, s) m = orders.joins g c d (rf_path_along g c p s) m

          pub before_all : (b c : ℕ) → InChain es g b → InChain es g c → mo b d → mo c d
          before_all b c p q m = from_head c q (to_head b p m)

          pub after_all : (b c : ℕ) → InChain es g b → InChain es g c → mo d b → mo d c
          after_all b c p q m =
              ⊎_elim (λ k. absurd (orders.strict d (orders.joins d b d m (before_all c b q p k)))) (λ k. k)
              (orders.total c d (q.2) store (sym (chain_location es full g c q) ∙ at) (outside c q))
