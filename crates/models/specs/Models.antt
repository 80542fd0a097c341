-- The memory models. An execution is a list of events, which gives program order (`Po`) and reads-from (`Rf`); a rule gives the
-- pairs that synchronise (`sw`), and an order of the stores gives modification order (`mo`).
use Rattle.std.specs.Prelude.{◌≡◌, ◌≢◌, ℕ, true, List}
use Rattle.events.specs.Events.{acquires, releases}
use Rattle.events.specs.Run.{at, Within, Store, Update, Fence, SameLocation}
use Rattle.events.specs.Graph.{Po, Rf}
use Rattle.events.specs.declared.event.Event.{Event}
use Rattle.events.specs.Relations.{Rel, ◌⨾◌, ◌∪◌, ◌∖id, ◌？, ◌⁻¹, ◌⁺, ⟦◌⟧, Irreflexive, Acyclic}
use Rattle.models.specs.declared.scope.Scope.{Scope}
use Rattle.models.specs.declared.scope.Scope.TheVariants.{Location, Whole, Weak}
use Rattle.models.specs.declared.axiom.Axiom.{Axiom}
use Rattle.models.specs.declared.axiom.Axiom.TheVariants.{Causality, WriteCoherence, ReadCoherence, Atomicity}
use Rattle.models.specs.declared.name.ModelName.{ModelName}
use Rattle.models.specs.declared.name.ModelName.TheVariants.{Rc20, Ra, Sra, Wra, Relaxed}

-- Sets of events, besides stores, updates and fences.

-- release or stronger
abbrev pub Release : List Event → ℕ → Type 0
Release es a = Within es a × (releases (at es a).mode ≡ true)

-- acquire or stronger
abbrev pub Acquire : List Event → ℕ → Type 0
Acquire es a = Within es a × (acquires (at es a).mode ≡ true)

-- The rules: which event synchronises with which.

abbrev pub rc20_rule : List Event → Rel
rc20_rule es = ⟦ Release es ⟧ ⨾ (⟦ Fence es ⟧ ⨾ Po es) ？ ⨾ Rf es ⁺ ⨾ (Po es ⨾ ⟦ Fence es ⟧) ？ ⨾ ⟦ Acquire es ⟧

abbrev pub reads_from_rule : List Event → Rel
reads_from_rule es = Rf es

abbrev pub empty_rule : List Event → Rel
empty_rule es a b = ⊥

-- The relations that the axioms speak of.

-- happens-before
abbrev pub Hb : Rel → List Event → Rel
Hb sw es = (Po es ∪ sw) ⁺

-- from-read
abbrev pub Fr : List Event → Rel → Rel
Fr es mo = (Rf es ⁻¹ ⨾ mo) ∖id

-- the pairs of a relation within one location
abbrev pub AtOneLocation : List Event → Rel → Rel
AtOneLocation es r a b = r a b × SameLocation es a b

-- The axioms at each scope, of happens-before and modification order.

abbrev pub Holds : Axiom → Scope → List Event → Rel → Rel → Type 0
Holds Causality scope es hb mo = Acyclic (Po es ∪ Rf es)
Holds WriteCoherence Location es hb mo = Irreflexive (mo ⨾ Rf es ？ ⨾ hb ？)
Holds WriteCoherence Whole es hb mo = Acyclic (hb ∪ mo)
Holds WriteCoherence Weak es hb mo = Unit {0}
Holds ReadCoherence Location es hb mo = Irreflexive (Fr es mo ⨾ Rf es ？ ⨾ hb)
Holds ReadCoherence Whole es hb mo = Irreflexive (Fr es mo ⨾ Rf es ？ ⨾ hb)
Holds ReadCoherence Weak es hb mo = Irreflexive (AtOneLocation es hb ⨾ ⟦ Store es ⟧ ⨾ hb ⨾ Rf es ⁻¹)
Holds Atomicity Location es hb mo = Irreflexive (Fr es mo ⨾ mo)
Holds Atomicity Whole es hb mo = Irreflexive (Fr es mo ⨾ mo)
Holds Atomicity Weak es hb mo = (u v w : ℕ) → Update es u → Update es v → u ≢ v → Rf es w u → ¬ Rf es w v

-- mo satisfies the rule at this scope
abbrev pub Satisfies : Scope → Rel → List Event → Rel → Type 0
Satisfies scope sw es mo = (x : Axiom) → Holds x scope es (Hb sw es) mo

-- The models.

abbrev pub rule_of : ModelName → List Event → Rel
rule_of Rc20 = rc20_rule
rule_of Ra = reads_from_rule
rule_of Sra = reads_from_rule
rule_of Wra = reads_from_rule
rule_of Relaxed = empty_rule

abbrev pub scope_of : ModelName → Scope
scope_of Rc20 = Location
scope_of Ra = Location
scope_of Sra = Whole
scope_of Wra = Weak
scope_of Relaxed = Location
