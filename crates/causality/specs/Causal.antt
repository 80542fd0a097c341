-- The causal order of a run, and the steps that happens-before is made of.
use Rattle.std.specs.Prelude.{ℕ, List, length, take, slice_index}
use Rattle.events.specs.Graph.{Po, PoRf}
use Rattle.events.specs.declared.event.Event.{Event}
use Rattle.events.specs.Relations.{Rel, ◌∪◌}
use Rattle.toposort.specs.Listing.{Ordered}

-- the first places of the listing are the topological order of program order and reads-from
abbrev pub CausalOrder : List Event → List ℕ → Type 0
CausalOrder es listing = Ordered (length es) (PoRf es) (take (length es) listing)

-- one step of happens-before
abbrev pub Step : Rel → List Event → Rel
Step sw es = Po es ∪ sw

-- the event at a place
abbrev pub event_at : List ℕ → ℕ → ℕ
event_at listing k = slice_index listing k
