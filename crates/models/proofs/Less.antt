-- With less happens-before, an axiom that holds goes on to hold.
use Rattle.std.proofs.Common.{ℕ, List, inl, inr}
use Rattle.events.specs.Relations.{Rel, ◌？, ◌∪◌, ◌⁺, one}
use Rattle.events.specs.Paths.{path_through}
use Rattle.events.specs.declared.event.Event.{Event}
use Rattle.models.specs.Models.{Holds}
use Rattle.models.specs.declared.axiom.Axiom.{Axiom}
use Rattle.models.specs.declared.axiom.Axiom.TheVariants.{Causality, WriteCoherence, ReadCoherence, Atomicity}
use Rattle.models.specs.declared.scope.Scope.{Scope}
use Rattle.models.specs.declared.scope.Scope.TheVariants.{Location, Whole, Weak}

module _ (es : List Event) (mo more_hb hb : Rel) (less : (a b : ℕ) → hb a b → more_hb a b) where
  optional : (a b : ℕ) → (hb ？) a b → (more_hb ？) a b
  optional a b (inl e) = inl e
  optional a b (inr h) = inr (less a b h)

  step : (a b : ℕ) → (hb ∪ mo) a b → ((more_hb ∪ mo) ⁺) a b
  step a b (inl h) = one (inl (less a b h))
  step a b (inr m) = one (inr m)

  pub holds_less : (x : Axiom) (scope : Scope) → Holds x scope es more_hb mo → Holds x scope es hb mo
  holds_less Causality scope holds = holds
  holds_less WriteCoherence Location holds = λ a (b, m, (c, r, h)). holds a (b, m, (c, r, optional c a h))
  holds_less WriteCoherence Whole holds = λ a p. holds a (path_through step p)
  holds_less WriteCoherence Weak holds = tt
  holds_less ReadCoherence Location holds = λ a (b, f, (c, r, h)). holds a (b, f, (c, r, less c a h))
  holds_less ReadCoherence Whole holds = λ a (b, f, (c, r, h)). holds a (b, f, (c, r, less c a h))
  holds_less ReadCoherence Weak holds = λ w (v, (l, at), (u, s, (r, h, f))). holds w (v, (less w v l, at), (u, s, (r, less u r h, f)))
  holds_less Atomicity Location holds = holds
  holds_less Atomicity Whole holds = holds
  holds_less Atomicity Weak holds = holds
