-- The rf-chains of a location: a write, the update that reads from it, the update that reads from that, and so on.
use Rattle.std.specs.Prelude.{List}
use Rattle.events.specs.Run.{Store, Write}
use Rattle.events.specs.Graph.{Rf}
use Rattle.events.specs.declared.event.Event.{Event}
use Rattle.events.specs.Relations.{Rel, ◌⨾◌, ◌？, ◌⁻¹, ◌⁺}

-- the store a is in the chain that the write g heads
abbrev pub InChain : List Event → Rel
InChain es g a = Write es g × ((Rf es ⁺) ？) g a × Store es a

abbrev pub SameChain : List Event → Rel
SameChain es = InChain es ⁻¹ ⨾ InChain es

-- b stands before a in one chain
abbrev pub BeforeInChain : List Event → Rel
BeforeInChain es b a = (Rf es ⁺) b a × Store es a
