-- The bytes that spell a run.
use Rattle.std.specs.Prelude.{ℕ, ◌/◌, ◌%◌, List, [], ◌∷◌, ◌++◌, length}
use Rattle.std.specs.List.{flat_map}
use Rattle.events.specs.Events.{kind_number, mode_number}
use Rattle.events.specs.declared.event.Event.{Event}

-- two bytes, the low one first
abbrev pub little_endian : ℕ → List ℕ
little_endian n = n % 256 ∷ (n / 256 ∷ [])

-- length 8, kind 1, and the event's numbers
abbrev pub event_bytes : Event → List ℕ
event_bytes e =
    little_endian 8 ++ (little_endian 1
    ++ (e.thread ∷ (kind_number e.kind ∷ (mode_number e.mode ∷ (e.location ∷ little_endian e.writer)))))

-- length 4, kind 2, and the number of events
abbrev pub end_bytes : ℕ → List ℕ
end_bytes n = little_endian 4 ++ (little_endian 2 ++ little_endian n)

abbrev pub spelling : List Event → List ℕ
spelling es = flat_map event_bytes es ++ end_bytes (length es)
