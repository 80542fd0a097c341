-- The memory that a call is handed.
use Rattle.std.specs.Prelude.{ℕ, ◌-◌, List, take, drop, min}
use Rattle.events.specs.declared.raw.RawEvent.{RawEvent}
use Rattle.sessions.specs.declared.handed.Handed.{Handed}
use Rattle.sessions.specs.declared.handed.Handed.TheVariants.{Own, Other}

-- its places: the first so many of the record's own memory, or a part of the other memory
abbrev pub handed_to : Handed → List RawEvent → List RawEvent → List RawEvent
handed_to (Own n) memory others = take n memory
handed_to (Other p) memory others = take p.places (drop p.from others)

-- and how many these are, where the two memories have so many
abbrev pub places_handed : ℕ → ℕ → Handed → ℕ
places_handed room others_room (Own n) = min n room
places_handed room others_room (Other p) = min p.places (others_room - p.from)
