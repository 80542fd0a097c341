-- What is searched for at weak scope.
use Rattle.std.specs.Prelude.{ℕ, List}
use Rattle.events.specs.Graph.{Rf}
use Rattle.events.specs.Lowest.{IsLowestPair}
use Rattle.events.specs.Relations.{Rel}
use Rattle.events.specs.declared.event.Event.{Event}
use Rattle.verdicts.specs.Steps.{Overwrites}

-- no store does
abbrev pub NoneOverwrites : List Event → Rel → ℕ → ℕ → Type 0
NoneOverwrites es hb w r = (v : ℕ) → ¬ Overwrites es hb w v r

-- the store v comes in happens-before between the load r and its writer
abbrev pub Misses : List Event → Rel → Rel
Misses es hb r v = (w : ℕ) × Rf es w r × Overwrites es hb w v r

-- of all such loads r is the lowest, v of its stores, and w is the writer
abbrev pub LowestWeak : List Event → Rel → ℕ → ℕ → ℕ → Type 0
LowestWeak es hb w v r = IsLowestPair (Misses es hb) r v × Rf es w r × Overwrites es hb w v r
