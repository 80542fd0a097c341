-- Steps between stores. An order that satisfies the rule goes along all of them at location scope, and along read steps at whole
-- scope.
use Rattle.std.specs.Prelude.{◌≢◌, ℕ, List}
use Rattle.events.specs.Run.{Store, SameLocation}
use Rattle.events.specs.Graph.{Rf}
use Rattle.events.specs.declared.event.Event.{Event}
use Rattle.events.specs.Relations.{Rel, ◌⨾◌, ◌∪◌, ◌？}
use Rattle.verdicts.specs.Chains.{InChain}

-- different stores of one location
abbrev pub TwoStores : List Event → Rel
TwoStores es a b = Store es a × Store es b × SameLocation es a b × (a ≢ b)

-- w happens before the store v of its location, and that before r
abbrev pub Overwrites : List Event → Rel → ℕ → ℕ → ℕ → Type 0
Overwrites es hb w v r = hb w v × hb v r × Store es v × SameLocation es w v

-- a reaches b by an optional reads-from, then an optional happens-before
abbrev pub BeforeStep : List Event → Rel → Rel
BeforeStep es hb a b = TwoStores es a b × (Rf es ？ ⨾ hb ？) a b

-- a reaches the load r by an optional reads-from, then happens-before, and r reads from b
abbrev pub ReadStep : List Event → Rel → ℕ → Rel
ReadStep es hb r a b = TwoStores es a b × (Rf es ？ ⨾ hb) a r × Rf es b r

-- a read step through some load
abbrev pub ReadSteps : List Event → Rel → Rel
ReadSteps es hb a b = (r : ℕ) × ReadStep es hb r a b

abbrev pub StoreStep : List Event → Rel → Rel
StoreStep es hb = BeforeStep es hb ∪ ReadSteps es hb

-- a step leads from the chain that g heads to another, that h heads
abbrev pub ChainStep : List Event → Rel → Rel
ChainStep es hb g h = (g ≢ h) × ((a b : ℕ) × InChain es g a × InChain es h b × StoreStep es hb a b)
