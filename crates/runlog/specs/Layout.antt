-- Where what stands in the bytes of a log.
use Rattle.std.specs.Prelude.{ℕ, ◌+◌, ◌*◌, Bool, ◌&&◌, List, length, Some, None, Option, ◌==◌, nat_le, slice_index, if◌then◌else◌}
use Rattle.events.specs.declared.raw.RawEvent.{RawEvent}

abbrev pub byte : List ℕ → ℕ → ℕ
byte s p = slice_index s p

-- two bytes, the low one first
abbrev pub word : List ℕ → ℕ → ℕ
word s p = byte s p + 256 * byte s (p + 1)

-- a record begins at p, with all its bytes: a field of two bytes that holds how many bytes follow it, a field of two bytes
-- that holds the record's kind, and the rest
abbrev pub record_at : List ℕ → ℕ → ℕ → ℕ → Bool
record_at s p long kind = nat_le (p + 2 + long) (length s) && (word s p == long && word s (p + 2) == kind)

abbrev pub is_event : List ℕ → ℕ → Bool
is_event s p = record_at s p 8 1

abbrev pub is_end : List ℕ → ℕ → Bool
is_end s p = record_at s p 4 2

-- an event record takes 10 bytes, so the record after n of them begins here
abbrev pub start : ℕ → ℕ
start n = 10 * n

-- the end record takes 6 bytes, so the first byte after it, where it follows n event records, is this one
abbrev pub after_end : ℕ → ℕ
after_end n = start n + 6

-- the numbers in the event record that begins at p
abbrev pub raw_at : List ℕ → ℕ → RawEvent
raw_at s p = record { thread = byte s (p + 4); kind = byte s (p + 5); mode = byte s (p + 6); location = byte s (p + 7); writer = word s (p + 8) }

-- the numbers in the event record that begins at p, if one does
abbrev pub event_record : List ℕ → ℕ → Option RawEvent
event_record s p = if is_event s p then Some (raw_at s p) else None

-- the count in the end record that begins at p, if one does
abbrev pub end_record : List ℕ → ℕ → Option ℕ
end_record s p = if is_end s p then Some (word s (p + 4)) else None
