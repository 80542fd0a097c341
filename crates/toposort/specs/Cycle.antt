-- A cycle.
use Rattle.std.specs.Prelude.{◌≢◌, ℕ, ◌+◌, ◌-◌, ◌<◌, ◌≤◌, List, length, slice_index}
use Rattle.events.specs.Relations.{Rel, Acyclic}
use Rattle.toposort.specs.Graph.{Node, Between}
use Rattle.toposort.specs.Listing.{Ordered}

-- different nodes, each with an edge to the next, and the last with one to the first
pub record IsCycle (n : ℕ) (E : Rel) (c : List ℕ) : Type 0 where
  pub some : 0 < length c
  pub nodes : (i : ℕ) → i < length c → Node n (slice_index c i)
  pub apart : (i j : ℕ) → i < j → j < length c → slice_index c i ≢ slice_index c j
  pub joined : (i : ℕ) → i + 1 < length c → E (slice_index c i) (slice_index c (i + 1))
  pub closed : E (slice_index c (length c - 1)) (slice_index c 0)

-- a graph that has a listing is acyclic, and one that has a cycle is not
pub record Tells (n : ℕ) (E : Rel) : Type 0 where
  pub listing : (l : List ℕ) → Ordered n E l → Acyclic (Between n E)
  pub cycle : (c : List ℕ) → IsCycle n E c → ¬ Acyclic (Between n E)

-- where no node has an edge to itself, a cycle has two nodes or more
abbrev pub TwoOrMore : ℕ → Rel → Type 0
TwoOrMore n E = ((v : ℕ) → Node n v → ¬ E v v) → (c : List ℕ) → IsCycle n E c → 2 ≤ length c
