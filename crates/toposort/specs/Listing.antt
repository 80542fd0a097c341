-- A listing, or topological order: which node comes at each turn.
use Rattle.std.specs.Prelude.{◌≡◌, ℕ, ◌<◌, List, length, slice_index}
use Rattle.events.specs.Relations.{Rel}
use Rattle.toposort.specs.Graph.{Node}

-- v is one of the first k of l
abbrev pub Placed : List ℕ → ℕ → ℕ → Type 0
Placed l k v = (j : ℕ) × (j < k) × (slice_index l j ≡ v)

-- v is a node that is not among the first k of l
abbrev pub Left : ℕ → List ℕ → ℕ → ℕ → Type 0
Left n l k v = Node n v × ¬ Placed l k v

-- v is left, and no node that is left has an edge to it
abbrev pub Ready : ℕ → Rel → List ℕ → ℕ → ℕ → Type 0
Ready n E l k v = Left n l k v × ((u : ℕ) → Left n l k u → ¬ E u v)

-- v is the lowest node that is ready after the first k of l
pub record Turn (n : ℕ) (E : Rel) (l : List ℕ) (k v : ℕ) : Type 0 where
  pub ready : Ready n E l k v
  pub lowest : (w : ℕ) → w < v → ¬ Ready n E l k w

-- so many as there are nodes, and at each turn the lowest that is ready
pub record Ordered (n : ℕ) (E : Rel) (l : List ℕ) : Type 0 where
  pub whole : length l ≡ n
  pub turns : (k : ℕ) → k < n → Turn n E l k (slice_index l k)

-- a listing has every node
abbrev pub EveryNode : ℕ → Rel → Type 0
EveryNode n E = (l : List ℕ) → Ordered n E l → (v : ℕ) → Node n v → Placed l n v

-- a graph has one listing at most
abbrev pub OneListing : ℕ → Rel → Type 0
OneListing n E = (l m : List ℕ) → Ordered n E l → Ordered n E m → l ≡ m

-- in a listing each edge goes forward
abbrev pub EdgesForward : ℕ → Rel → Type 0
EdgesForward n E = (l : List ℕ) → Ordered n E l → (i j : ℕ) → i < n → j < n → E (slice_index l i) (slice_index l j) → i < j
