-- Pairs that break an axiom, and the axiom.
use Rattle.std.proofs.Common.{◌≡◌, ◌≢◌, ℕ, List, inl, inr, ⊎_elim, refl, sym, subst, ◌∙◌, length, arith}
use Rattle.events.specs.Relations.{Rel, ◌⨾◌, ◌∪◌, ◌？}
use Rattle.events.specs.Run.{Within, Store}
use Rattle.events.specs.Graph.{Rf, Inside}
use Rattle.events.specs.declared.event.Event.{Event}
use Rattle.models.specs.Orders.{Mo}
use Rattle.models.specs.Models.{Fr, AtOneLocation, Holds}
use Rattle.models.specs.declared.axiom.Axiom.{Axiom}
use Rattle.models.specs.declared.axiom.Axiom.TheVariants.{Causality, WriteCoherence, ReadCoherence, Atomicity}
use Rattle.models.specs.declared.scope.Scope.{Scope}
use Rattle.models.specs.declared.scope.Scope.TheVariants.{Location, Whole, Weak}
use Rattle.confirm.specs.Places.{PlacesOf}
use Rattle.confirm.specs.Breaks.{PairBreaks, HasBreakingPair}

-- a relation, and then an optional reads-from, of which the second event has one at most
pub after_writer : (r : Rel) (es : List Event) (a b w : ℕ) → Rf es w b → ¬ r a b → (r ⨾ Rf es ？) a b → r a w
after_writer r es a b w f none p =
    ⊎_elim (λ e. absurd (none (subst (λ x. r a x) e (p.1)))) (λ g. subst (λ x. r a x) (sym (g.1) ∙ f.1) (p.1)) (p.2)

module _ (es : List Event) (hb mo : Rel) where
  -- an axiom that is broken by pairs holds where none breaks it
  pub holds_unbroken : (x : Axiom) (scope : Scope) → x ≢ Causality → (x ≡ WriteCoherence → scope ≢ Whole) → ((a b : ℕ) → ¬ PairBreaks x scope es hb mo a b) → Holds x scope es hb mo
  holds_unbroken Causality scope later paired none = absurd (later refl)
  holds_unbroken WriteCoherence Location later paired none = λ a (b, m, (c, r, h)). none a c ((b, m, r), h)
  holds_unbroken WriteCoherence Whole later paired none = absurd (paired refl refl)
  holds_unbroken WriteCoherence Weak later paired none = tt
  holds_unbroken ReadCoherence Location later paired none = λ a (b, f, (c, r, h)). none a c ((b, f, r), h)
  holds_unbroken ReadCoherence Whole later paired none = λ a (b, f, (c, r, h)). none a c ((b, f, r), h)
  holds_unbroken ReadCoherence Weak later paired none = λ w (v, l, (u, (e, s), (r, h, f))).
      none r u (subst (λ z. Store es z) e s, h, (w, f, subst (λ z. AtOneLocation es hb w z) e l))
  holds_unbroken Atomicity Location later paired none = λ u (v, f, m). none u v (f, m)
  holds_unbroken Atomicity Whole later paired none = λ u (v, f, m). none u v (f, m)
  holds_unbroken Atomicity Weak later paired none = λ u v w a b differs f g. none u v (a, b, differs, (w, f, g))

  -- and no pair breaks it where it holds
  pub unbroken : (x : Axiom) (scope : Scope) → Holds x scope es hb mo → (a b : ℕ) → ¬ PairBreaks x scope es hb mo a b
  unbroken Causality scope h a b broken = broken
  unbroken WriteCoherence Location holds a c ((b, m, r), h) = holds a (b, m, (c, r, h))
  unbroken WriteCoherence Whole holds a c broken = broken
  unbroken WriteCoherence Weak holds a c broken = broken
  unbroken ReadCoherence Location holds a c ((b, f, r), h) = holds a (b, f, (c, r, h))
  unbroken ReadCoherence Whole holds a c ((b, f, r), h) = holds a (b, f, (c, r, h))
  unbroken ReadCoherence Weak holds r v (s, h, (w, f, l)) = holds w (v, l, (v, (refl, s), (r, h, f)))
  unbroken Atomicity Location holds u v (f, m) = holds u (v, f, m)
  unbroken Atomicity Whole holds u v (f, m) = holds u (v, f, m)
  unbroken Atomicity Weak holds u v (a, b, differs, (w, f, g)) = holds u v w a b differs f g

  -- whatever breaks an axiom is in the run
  module _ (inside : Inside es mo) where
    after_inside : (r : Rel) → Inside es r → (a b : ℕ) → (r ⨾ Rf es ？) a b → Within es a × Within es b
    after_inside r within a b (m, p, inl e) = ((within a m p).0, subst (λ z. Within es z) e ((within a m p).1))
    after_inside r within a b (m, p, inr f) = ((within a m p).0, f.0.0)

    fr_inside : Inside es (Fr es mo)
    fr_inside r v ((w, f, m), differs) = (f.0.0, (inside w v m).1)

    pub broken_inside : (x : Axiom) (scope : Scope) (a b : ℕ) → PairBreaks x scope es hb mo a b → Within es a × Within es b
    broken_inside Causality scope a b broken = absurd broken
    broken_inside WriteCoherence Location a b broken = after_inside mo inside a b (broken.0)
    broken_inside WriteCoherence Whole a b broken = absurd broken
    broken_inside WriteCoherence Weak a b broken = absurd broken
    broken_inside ReadCoherence Location a b broken = after_inside (Fr es mo) fr_inside a b (broken.0)
    broken_inside ReadCoherence Whole a b broken = after_inside (Fr es mo) fr_inside a b (broken.0)
    broken_inside ReadCoherence Weak a b (s, h, (w, f, l)) = (f.0.0, s.0)
    broken_inside Atomicity Location a b broken = fr_inside a b (broken.0)
    broken_inside Atomicity Whole a b broken = fr_inside a b (broken.0)
    broken_inside Atomicity Weak a b broken = (broken.0.0, broken.1.0)

-- an axiom that a pair breaks does not hold, and one that none breaks does
module _ (es : List Event) (hb mo : Rel) (inside : Inside es mo) (x : Axiom) (scope : Scope) where
  pub broken_fails : HasBreakingPair x scope es hb mo → ¬ Holds x scope es hb mo
  broken_fails (a, w, (b, v, broken)) holds = unbroken es hb mo x scope holds a b broken

  pub unbroken_holds : x ≢ Causality → (x ≡ WriteCoherence → scope ≢ Whole) → ¬ HasBreakingPair x scope es hb mo → Holds x scope es hb mo
  unbroken_holds later paired none =
      holds_unbroken es hb mo x scope later paired
      (λ a b broken. let (w, v) = broken_inside es hb mo inside x scope a b broken in none (a, w, (b, v, broken)))

-- modification order joins stores of the run
pub mo_inside : (es : List Event) (o places : List ℕ) → PlacesOf es o (length o) places → Inside es (Mo es o)
mo_inside es o places p a b ((i, j, less, lt, e, f), at) =
    (subst (λ z. Within es z) e ((p.stores i (omega arith)).0), subst (λ z. Within es z) f ((p.stores j lt).0))

-- two relations that join events of the run only
pub both_inside : (es : List Event) (r s : Rel) → Inside es r → Inside es s → (a b : ℕ) → (r ∪ s) a b → Within es a × Within es b
both_inside es r s first second a b (inl p) = first a b p
both_inside es r s first second a b (inr p) = second a b p
