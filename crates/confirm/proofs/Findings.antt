-- The first axiom that fails, from the axioms one by one.
use Rattle.std.proofs.Common.{◌≡◌, ◌↔◌, ◌<◌, ℕ, List, Bool, not, IsTrue, ap, sym, subst, ◌∙◌, refl, Some, Option, Ok, Err, Result, arith}
use Rattle.std.proofs.lemmas.Bool.{both_ways, not-true, not_from_false, false_from_ne_true}
use Rattle.events.specs.Graph.{Inside}
use Rattle.events.specs.Relations.{Rel}
use Rattle.events.specs.declared.event.Event.{Event}
use Rattle.models.specs.Numbers.{axiom_number}
use Rattle.models.specs.Orders.{IsOrder, Mo}
use Rattle.models.specs.Models.{Hb, Holds, Satisfies, rule_of, scope_of}
use Rattle.models.specs.declared.name.ModelName.{ModelName}
use Rattle.executions.specs.declared.fault.CheckerFault.{CheckerFault}
use Rattle.models.proofs.Less.{holds_less}
use Rattle.models.specs.declared.axiom.Axiom.{Axiom}
use Rattle.models.specs.declared.axiom.Axiom.TheVariants.{Causality, WriteCoherence, ReadCoherence, Atomicity}
use Rattle.models.specs.declared.scope.Scope.{Scope}
use Rattle.models.specs.declared.scope.Scope.TheVariants.{Location}
use Rattle.confirm.specs.Confirm.{Finds, Confirms, ConfirmsUnder}
use Rattle.confirm.specs.Breaks.{HasBreakingPair}
use Rattle.confirm.specs.declared.finding.Finding.{Finding}
use Rattle.confirm.specs.declared.finding.Finding.TheVariants.{Passes, Fails}
use Rattle.confirm.proofs.Breaks.{broken_fails, unbroken_holds}

module _ (es : List Event) (hb mo : Rel) (inside : Inside es mo) (scope : Scope) where
  -- write coherence at location scope
  pub location_decided : scope ≡ Location → (b : Bool) → (IsTrue b ↔ HasBreakingPair WriteCoherence Location es hb mo) → IsTrue (not b) ↔ Holds WriteCoherence scope es hb mo
  location_decided is b broken =
      subst (λ s. IsTrue (not b) ↔ Holds WriteCoherence s es hb mo) (sym is) (
        λ t. unbroken_holds es hb mo inside WriteCoherence Location (λ e. let n = ap axiom_number e in absurd (omega arith)) (λ _ e. (cc)) (λ p. both_ways b (not-true b t) (broken.1 p)),
        λ holds. not_from_false b (false_from_ne_true b (λ t. broken_fails es hb mo inside WriteCoherence Location (broken.0 t) holds)),
      )

  module _ (causal : Holds Causality scope es hb mo) (writes : Holds WriteCoherence scope es hb mo) where
    pub first_read : HasBreakingPair ReadCoherence scope es hb mo → Finds scope es hb mo (Fails ReadCoherence)
    first_read broken = (broken_fails es hb mo inside ReadCoherence scope broken, lower)
      where
        lower : (y : Axiom) → axiom_number y < 3 → Holds y scope es hb mo
        lower Causality lt = causal
        lower WriteCoherence lt = writes
        lower ReadCoherence lt = absurd (omega arith)
        lower Atomicity lt = absurd (omega arith)

    module _ (reads : ¬ HasBreakingPair ReadCoherence scope es hb mo) where
      read_holds : Holds ReadCoherence scope es hb mo
      read_holds =
          unbroken_holds es hb mo inside ReadCoherence scope (λ e. let n = ap axiom_number e in absurd (omega arith)) (λ e. let n = ap axiom_number e in absurd (omega arith)) reads

      pub first_atomic : HasBreakingPair Atomicity scope es hb mo → Finds scope es hb mo (Fails Atomicity)
      first_atomic broken = (broken_fails es hb mo inside Atomicity scope broken, lower)
        where
          lower : (y : Axiom) → axiom_number y < 4 → Holds y scope es hb mo
          lower Causality lt = causal
          lower WriteCoherence lt = writes
          lower ReadCoherence lt = read_holds
          lower Atomicity lt = absurd (omega arith)

      pub all_hold : ¬ HasBreakingPair Atomicity scope es hb mo → Finds scope es hb mo Passes
      all_hold none Causality = causal
      all_hold none WriteCoherence = writes
      all_hold none ReadCoherence = read_holds
      all_hold none Atomicity =
          unbroken_holds es hb mo inside Atomicity scope (λ e. let n = ap axiom_number e in absurd (omega arith)) (λ e. let n = ap axiom_number e in absurd (omega arith)) none

-- the same run, order and happens-before under other names
pub confirmed : (scope : Scope) (sw : List Event → Rel) (es candidate_es causal_es : List Event) (o candidate_o : List ℕ) (hb : Rel) (f : Finding) → candidate_es ≡ es → causal_es ≡ es → candidate_o ≡ o → ((a b : ℕ) → hb a b ↔ Hb (sw causal_es) causal_es a b) → Finds scope candidate_es hb (Mo candidate_es candidate_o) f → Finds scope es (Hb (sw es) es) (Mo es o) f
confirmed scope sw es candidate_es causal_es o candidate_o hb f e e₂ eo same finds =
    finds_same f (subst (λ x. Finds scope es hb (Mo es x) f) eo (subst (λ x. Finds scope x hb (Mo x candidate_o) f) e finds))
  where
    now : (a b : ℕ) → hb a b ↔ Hb (sw es) es a b
    now = subst (λ x. (a b : ℕ) → hb a b ↔ Hb (sw x) x a b) e₂ same

    finds_same : (g : Finding) → Finds scope es hb (Mo es o) g → Finds scope es (Hb (sw es) es) (Mo es o) g
    finds_same Passes all = λ x. holds_less es (Mo es o) hb (Hb (sw es) es) (λ a b h. (now a b).1 h) x scope (all x)
    finds_same (Fails x) (broken, lower) = (
      λ holds. broken (holds_less es (Mo es o) (Hb (sw es) es) hb (λ a b h. (now a b).0 h) x scope holds),
      λ y lt. holds_less es (Mo es o) hb (Hb (sw es) es) (λ a b h. (now a b).1 h) y scope (lower y lt),
    )

-- what is confirmed under the model that a number names
pub named : (n : Option ModelName) (k m : ModelName) (es : List Event) (o : List ℕ) (r : Result Finding CheckerFault) → Some k ≡ n → k ≡ m → Confirms (scope_of m) (rule_of m es) es o r → ConfirmsUnder n es o r
named n k m es o r is same c = subst (λ x. ConfirmsUnder x es o r) (ap Some (sym same) ∙ is) c

-- an order passes exactly where it is one and satisfies the rule
pub passes : (scope : Scope) (sw : Rel) (es : List Event) (o : List ℕ) (r : Result Finding CheckerFault) → Confirms scope sw es o r → (r ≡ Ok Passes) ↔ (IsOrder scope es o × Satisfies scope sw es (Mo es o))
passes scope sw es o (Ok Passes) (is, all) = (λ _. (is, all), λ _. refl)
passes scope sw es o (Ok (Fails x)) (is, (broken, lower)) = (λ e. (cc), λ (_, all). absurd (broken (all x)))
passes scope sw es o (Err fault) (isnt, _) = (λ e. (cc), λ (is, _). absurd (isnt is))
