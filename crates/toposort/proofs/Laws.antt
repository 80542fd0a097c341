-- A listing has every node, in it each edge goes forward, and a graph has one at most; a listing is there where the graph is
-- acyclic, and a cycle where it is not.
use Rattle.std.proofs.Common.{◌≡◌, ◌↔◌, ℕ, zero, suc, ◌+◌, ◌-◌, ◌<◌, ◌≤◌, List, length, get_or, sym, ◌∙◌, arith}
use Rattle.std.proofs.lemmas.List.{ext_get_or}
use Rattle.events.specs.Relations.{Rel, ◌⁺, one, more, Acyclic}
use Rattle.events.specs.Paths.{path_join, path_through}
use Rattle.toposort.specs.Graph.{Node, Between}
use Rattle.toposort.specs.Listing.{Turn, Ordered, EveryNode, OneListing, EdgesForward}
use Rattle.toposort.specs.Cycle.{IsCycle, Tells}
use Rattle.toposort.proofs.Pigeons.{full}
use Rattle.toposort.proofs.Turns.{SameBelow, turn_same}

module _ (n : ℕ) (E : Rel) where
  turn_once : (l : List ℕ) (k v w : ℕ) → Turn n E l k v → Turn n E l k w → v ≡ w
  turn_once l k v w a b = grind (arith, a.lowest w, b.lowest v)

  same_front : (l m : List ℕ) → Ordered n E l → Ordered n E m → (k : ℕ) → k ≤ n → SameBelow k l m
  same_front l m a b zero h j lt = absurd (omega arith)
  same_front l m a b (suc k) h j lt =
      let before = same_front l m a b k (omega arith) in
      let once = turn_once m k _ _ (turn_same n E l m k _ before (a.turns k h)) (b.turns k h) in
      grind (arith, before j)

  pub one_listing : OneListing n E
  one_listing l m a b =
      let p = a.whole in
      let q = b.whole in
      ext_get_or 0 l m (omega arith) (λ i h. same_front l m a b n (omega arith) i (omega arith))

  pub every_node : EveryNode n E
  every_node l o v node =
      full n v (λ i. get_or l i 0) (λ i lt. (o.turns i lt).ready.0.0) (λ i j h m e. (o.turns j m).ready.0.1 (i, h, e)) node

  pub edges_forward : EdgesForward n E
  edges_forward l o i j a b e = grind arith

  -- along a path the places in a listing rise
  pub path_forward : (l : List ℕ) → Ordered n E l → (a b : ℕ) → (Between n E ⁺) a b → (k : ℕ) → k < n → get_or l k 0 ≡ b → (j : ℕ) × (j < k) × (get_or l j 0 ≡ a)
  path_forward l o a b (one s) k lt e =
      let p = every_node l o a (s.0) in
      (p.0, edges_forward l o (p.0) k (p.1) lt (rw (p.2, e) (s.2)), p.2)
  path_forward l o a b (more {b = m} s q) k lt e =
      let h = path_forward l o m b q k lt e in
      let p = every_node l o a (s.0) in
      let f = edges_forward l o (p.0) (h.0) (p.1) (omega arith) (rw (p.2, h.2) (s.2)) in
      (p.0, omega arith, p.2)

  path_begins : (a b : ℕ) → (Between n E ⁺) a b → Node n a
  path_begins a b (one s) = s.0
  path_begins a b (more s q) = s.0

  listing_acyclic : (l : List ℕ) → Ordered n E l → Acyclic (Between n E)
  listing_acyclic l o a p =
      let k = every_node l o a (path_begins a a p) in
      let j = path_forward l o a a p (k.0) (k.1) (k.2) in
      (o.turns (k.0) (k.1)).ready.0.1 (j.0, j.1, j.2 ∙ sym (k.2))

  module _ (c : List ℕ) (is : IsCycle n E c) where
    -- the path along a cycle from its first node on
    along : (i : ℕ) → suc i < length c → (Between n E ⁺) (get_or c 0 0) (get_or c (suc i) 0)
    along zero lt = one (is.nodes 0 (omega arith), is.nodes 1 lt, is.joined 0 (omega arith))
    along (suc i) lt =
        let e : suc i + 1 ≡ suc (suc i) = omega arith in
        path_join (along i (omega arith)) (one (is.nodes (suc i) (omega arith), is.nodes (suc (suc i)) lt, rw e at (is.joined (suc i) (omega arith))))

    closing : (l : ℕ) → l < length c → E (get_or c l 0) (get_or c 0 0) → (Between n E ⁺) (get_or c 0 0) (get_or c 0 0)
    closing zero lt s = one (is.nodes 0 lt, is.nodes 0 lt, s)
    closing (suc l) lt s = path_join (along l lt) (one (is.nodes (suc l) lt, is.nodes 0 (omega arith), s))

    cycle_cyclic : ¬ Acyclic (Between n E)
    cycle_cyclic acyclic = let some = is.some in acyclic (get_or c 0 0) (closing (length c - 1) (omega arith) (is.closed))

  pub tells : Tells n E
  tells = record { listing = listing_acyclic; cycle = cycle_cyclic }

  -- where all edges are between nodes
  pub between_acyclic : ((a b : ℕ) → E a b → Node n a × Node n b) → Acyclic (Between n E) ↔ Acyclic E
  between_acyclic within = (
    λ acyclic a p. acyclic a (path_through (λ x y s. let w = within x y s in one (w.0, w.1, s)) p),
    λ acyclic a p. acyclic a (path_through (λ x y s. one (s.2)) p),
  )
