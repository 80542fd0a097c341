-- What a search keeps of a graph while it lists the nodes: which are listed, and which unlisted node has an edge to another.
use Rattle.std.specs.Prelude.{◌≡◌, ℕ, ◌+◌, ◌<◌, ◌≤◌, Bool, true, false, List, slice_index, slice_index_or, Some, None, Option}
use Rattle.events.specs.Relations.{Rel}
use Rattle.toposort.specs.Graph.{Node}

abbrev pub Unlisted : ℕ → List Bool → ℕ → Type 0
Unlisted n listed v = Node n v × (slice_index_or listed v false ≡ false)

abbrev pub AllListed : ℕ → List Bool → Type 0
AllListed n listed = (v : ℕ) → Node n v → slice_index_or listed v false ≡ true

-- no unlisted node below p has an edge to v
abbrev pub ClearBelow : ℕ → Rel → List Bool → ℕ → ℕ → Type 0
ClearBelow n E listed v p = (u : ℕ) → u < p → Unlisted n listed u → ¬ E u v

-- unlisted nodes may have an edge to v from p on, which is a node or n + 1
pub record BlockedFrom (n : ℕ) (E : Rel) (listed : List Bool) (v p : ℕ) : Type 0 where
  pub low : 1 ≤ p
  pub high : p ≤ n + 1
  pub clear : ClearBelow n E listed v p

-- p is the lowest unlisted node with an edge to v, or n + 1
pub record IsBlocker (n : ℕ) (E : Rel) (listed : List Bool) (v p : ℕ) : Type 0 where
  pub from : BlockedFrom n E listed v p
  pub blocks : p ≤ n → Unlisted n listed p × E p v

-- each node may be blocked from the number on that stands in its place
abbrev pub AllBlockedFrom : ℕ → Rel → List Bool → List ℕ → Type 0
AllBlockedFrom n E listed blockers = (v : ℕ) → Node n v → BlockedFrom n E listed v (slice_index blockers v)

-- what stands in the place of v, if v is unlisted, is an unlisted node with an edge to it
abbrev pub Blocked : ℕ → Rel → List Bool → List ℕ → ℕ → Type 0
Blocked n E listed blockers v = Unlisted n listed v → Unlisted n listed (slice_index blockers v) × E (slice_index blockers v) v

abbrev pub AllBlocked : ℕ → Rel → List Bool → List ℕ → Type 0
AllBlocked n E listed blockers = (v : ℕ) → Node n v → Blocked n E listed blockers v

-- the lowest unlisted node to which no unlisted node has an edge, or none where each is blocked
abbrev pub LowestReady : ℕ → Rel → List Bool → List ℕ → Option ℕ → Type 0
LowestReady n E listed blockers (Some v) =
    Unlisted n listed v × ClearBelow n E listed v (n + 1) × ((w : ℕ) → Node n w → w < v → Blocked n E listed blockers w)
LowestReady n E listed blockers None = AllBlocked n E listed blockers

-- the edges the other way round
abbrev pub Backward : Rel → Rel
Backward E a b = E b a
