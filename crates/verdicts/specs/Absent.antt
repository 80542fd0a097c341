-- That a run has no violation of a kind.
use Rattle.std.specs.Prelude.{◌≡◌, ℕ, List}
use Rattle.events.specs.Run.{Update}
use Rattle.events.specs.Graph.{Rf}
use Rattle.events.specs.declared.event.Event.{Event}
use Rattle.events.specs.Relations.{Rel}
use Rattle.verdicts.specs.Chains.{BeforeInChain}
use Rattle.verdicts.specs.Steps.{Overwrites, StoreStep}

-- no two updates share a writer
abbrev pub NoTwins : List Event → Type 0
NoTwins es = (u v w : ℕ) → Update es u → Update es v → Rf es w u → Rf es w v → u ≡ v

-- no store comes in happens-before between a store of its location and a load of that
abbrev pub NoWeak : List Event → Rel → Type 0
NoWeak es hb = (w v r : ℕ) → Rf es w r → ¬ Overwrites es hb w v r

-- no step leads back in a chain
abbrev pub NoBack : List Event → Rel → Type 0
NoBack es hb = (a b : ℕ) → StoreStep es hb a b → ¬ BeforeInChain es b a
