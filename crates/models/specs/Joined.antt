-- What a rule has to show of its pairs.
use Rattle.std.specs.Prelude.{ℕ, List}
use Rattle.events.specs.Relations.{Rel, ◌⁺}
use Rattle.events.specs.Graph.{PoRf, Inside}
use Rattle.events.specs.declared.event.Event.{Event}

-- sw joins only what one or more steps of program order and reads-from join
abbrev pub Joined : List Event → Rel → Type 0
Joined es sw = (a b : ℕ) → sw a b → (PoRf es ⁺) a b

-- and so it joins events of the run
pub record SwJoins (es : List Event) (sw : Rel) : Type 0 where
  pub path : Joined es sw
  pub within : Inside es sw
