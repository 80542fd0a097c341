-- A graph has the nodes 1 to n, and E a b says that an edge leads from a to b.
use Rattle.std.specs.Prelude.{ℕ, ◌≤◌}
use Rattle.events.specs.Relations.{Rel}

abbrev pub Node : ℕ → ℕ → Type 0
Node n v = (1 ≤ v) × (v ≤ n)

-- the edges that count: those between nodes
abbrev pub Between : ℕ → Rel → Rel
Between n E a b = Node n a × Node n b × E a b
