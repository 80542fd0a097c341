-- A relation as a test on two numbers, and the bits that it is read from.
use Rattle.std.specs.Prelude.{ℕ, ◌+◌, ◌-◌, ◌/◌, ◌%◌, ◌≤◌, Bool, ◌&&◌, List, [], nat_le, ◌==◌, slice_index_or, IsTrue}
use Rattle.std.specs.Int.{bit_at}
use Rattle.events.specs.Limits.{max_events}
use Rattle.events.specs.Relations.{Rel}
use Rattle.relation.specs.declared.relation.Relation.{Relation}

-- n may be the number of an event
abbrev pub InRange : ℕ → Type 0
InRange n = (1 ≤ n) × (n ≤ max_events)

-- the same as a test
abbrev pub in_range : ℕ → Bool
in_range n = nat_le 1 n && nat_le n max_events

abbrev pub bits_per_word : ℕ
bits_per_word = 64

-- so many words have a bit for each number
abbrev pub words_per_row : ℕ
words_per_row = (max_events - 1) / bits_per_word + 1

-- where the bit of a stands: that of number 1 is bit 0 of word 0
abbrev pub word_of : ℕ → ℕ
word_of a = (a - 1) / bits_per_word

abbrev pub bit_of : ℕ → ℕ
bit_of a = (a - 1) % bits_per_word

-- the row has the number a
unfoldable pub has_member : List ℕ → ℕ → Bool
has_member row a = in_range a && bit_at (slice_index_or row (word_of a) 0) (bit_of a) == 1

-- the pair (a, b) is in the relation: the row of b has the number a
unfoldable pub has : Relation → ℕ → ℕ → Bool
has r a b = in_range b && has_member (slice_index_or r.rows (b - 1) []) a

-- the pairs that a relation has
abbrev pub Pairs : Relation → Rel
Pairs r a b = IsTrue (has r a b)
