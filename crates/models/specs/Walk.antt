-- The walk back along reads-from by which RC20's rule is decided.
use Rattle.std.specs.Prelude.{◌≡◌, ℕ, Bool, true, false, List, slice_index_or}
use Rattle.events.specs.Run.{Fence}
use Rattle.events.specs.Graph.{Po, Rf}
use Rattle.events.specs.declared.event.Event.{Event}
use Rattle.events.specs.Relations.{Rel, ◌⨾◌, ◌？, ◌⁺, ⟦◌⟧}

-- what a releases begins at w: a is w, or a fence before w
abbrev pub Starts : List Event → Rel
Starts es = (⟦ Fence es ⟧ ⨾ Po es) ？

-- what a releases gets as far as r along reads-from
abbrev pub Reaches : List Event → Rel
Reaches es = Starts es ⨾ Rf es ⁺

-- what r reads gets on to b: b is r, or a fence after r
abbrev pub Ends : List Event → Rel
Ends es = (Po es ⨾ ⟦ Fence es ⟧) ？

-- what a releases gets to b
abbrev pub Arrives : List Event → Rel
Arrives es = Reaches es ⨾ Ends es

abbrev pub Seen : List Bool → ℕ → Type 0
Seen seen x = slice_index_or seen x false ≡ true

-- nothing that was seen is where a starts, and what it reads from was seen too
abbrev pub Walked : List Event → ℕ → List Bool → Type 0
Walked es a seen = (x : ℕ) → Seen seen x → ¬ Starts es a x × ((w : ℕ) → Rf es w x → Seen seen w)
