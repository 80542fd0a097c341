-- The listing, one turn after another.
use Rattle.std.proofs.Common.{◌≡◌, ℕ, ◌+◌, ◌<◌, ◌≤◌, Bool, true, false, ◌↔◌, List, length, get_or, set, take, replicate, Some, ⊎_elim, sym, arith}
use Rattle.std.proofs.lemmas.Bool.{cases_lt, cases_eq}
use Rattle.std.proofs.lemmas.List.{get_or-set_same, get_or-set_other, get_or-take, get_or-replicate, length-take-le, length-set, length-replicate}
use Rattle.events.specs.Relations.{Rel}
use Rattle.toposort.specs.Graph.{Node}
use Rattle.toposort.specs.Listing.{Placed, Left, Ready, Turn, Ordered}
use Rattle.toposort.specs.Scratch.{Unlisted, AllListed, BlockedFrom, AllBlockedFrom, LowestReady}
use Rattle.toposort.proofs.Pigeons.{crowd}

-- what is marked is what stands in the first k places of order
abbrev pub Marks : ℕ → List ℕ → ℕ → List Bool → Type 0
Marks n order k listed = (v : ℕ) → Node n v → ((get_or listed v false ≡ true) ↔ Placed order k v)

-- after k turns
pub record Begun (n : ℕ) (E : Rel) (order : List ℕ) (k : ℕ) (listed : List Bool) (blockers : List ℕ) : Type 0 where
  pub places : n ≤ length order
  pub nodes : n < length listed
  pub from : AllBlockedFrom n E listed blockers
  pub marked : Marks n order k listed
  pub turns : (i : ℕ) → i < k → Turn n E order i (get_or order i 0)

-- a turn speaks of the places before it alone
abbrev pub SameBelow : ℕ → List ℕ → List ℕ → Type 0
SameBelow k l m = (j : ℕ) → j < k → get_or l j 0 ≡ get_or m j 0

module _ (n : ℕ) (E : Rel) where
  placed_same : (l m : List ℕ) (k v : ℕ) → SameBelow k l m → Placed l k v → Placed m k v
  placed_same l m k v same p = grind arith

  ready_same : (l m : List ℕ) (k v : ℕ) → SameBelow k l m → Ready n E l k v → Ready n E m k v
  ready_same l m k v same r = grind (arith, placed_same)

  pub turn_same : (l m : List ℕ) (k v : ℕ) → SameBelow k l m → Turn n E l k v → Turn n E m k v
  turn_same l m k v same t =
      record { ready = ready_same l m k v same t.ready; lowest = λ w h r. grind (arith, t.lowest w h, ready_same m l k w) }

  module _ (order : List ℕ) (k : ℕ) (listed : List Bool) (m : Marks n order k listed) where
    unlisted_left : (v : ℕ) → Unlisted n listed v → Left n order k v
    unlisted_left v is = grind (arith, m v)

    left_unlisted : (v : ℕ) → Left n order k v → Unlisted n listed v
    left_unlisted v is = grind (arith, m v)

    -- the lowest unlisted node that is clear has the turn
    turn_from : (blockers : List ℕ) (v : ℕ) → LowestReady n E listed blockers (Some v) → Turn n E order k v
    turn_from blockers v low =
        record {
          ready = grind (arith, unlisted_left, left_unlisted);
          lowest = λ w h r. grind (arith, low.2 w, left_unlisted w, unlisted_left);
        }

  -- after a mark less is unlisted
  from_more : (listed : List Bool) (v w p : ℕ) → v < length listed → BlockedFrom n E listed w p → BlockedFrom n E (set listed v true) w p
  from_more listed v w p h b = grind (arith, get_or-set_same, get_or-set_other)

  marks_more : (order : List ℕ) (k : ℕ) (listed : List Bool) (v : ℕ) → Marks n order k listed → v < length listed → k < length order → Marks n (set order k v) (k + 1) (set listed v true)
  marks_more order k listed v m h i w node = (there, λ p. grind (arith, get_or-set_same, get_or-set_other))
    where
      there : get_or (set listed v true) w false ≡ true → Placed (set order k v) (k + 1) w
      there t =
          ⊎_elim (λ same. (k, omega arith, grind (arith, get_or-set_same)))
          (λ other.
          let (j, lt, e) = (m w node).0 (grind (arith, get_or-set_other)) in
          (j, omega arith, grind (arith, get_or-set_other)))
          (cases_eq w v)

  turns_more : (order : List ℕ) (k v : ℕ) → k < length order → ((i : ℕ) → i < k → Turn n E order i (get_or order i 0)) → Turn n E order k v → (i : ℕ) → i < k + 1 → Turn n E (set order k v) i (get_or (set order k v) i 0)
  turns_more order k v h turns turn i lt =
      ⊎_elim (λ less. rw (before i less) (turn_same order (set order k v) i (get_or order i 0) (λ j b. grind (arith, before j)) (turns i less)))
      (λ ge.
      let q : i ≡ k = omega arith in
      rw (q, get_or-set_same order k v 0 h) (turn_same order (set order k v) k v (λ j b. sym (before j b)) turn))
      (cases_lt i k)
    where
      before : (j : ℕ) → j < k → get_or (set order k v) j 0 ≡ get_or order j 0
      before j b = get_or-set_other order k j v 0 (omega arith)

  -- nothing is listed at the start
  pub begun_none : (order : List ℕ) (m : ℕ) → n ≤ length order → n < m → Begun n E order 0 (replicate m false) (replicate m 1)
  begun_none order m places nodes =
      record {
        places = places;
        nodes = rw (length-replicate m false) nodes;
        from = λ v node. grind (arith, get_or-replicate {A = ℕ} m v 1 0);
        marked = λ v node. grind (arith, get_or-replicate m v false false);
        turns = λ i h. absurd (omega arith);
      }

  -- one turn
  pub begun_more : (order : List ℕ) (k : ℕ) (listed : List Bool) (was blockers : List ℕ) (v : ℕ) → Begun n E order k listed was → k < n → AllBlockedFrom n E listed blockers → LowestReady n E listed blockers (Some v) → Begun n E (set order k v) (k + 1) (set listed v true) blockers
  begun_more order k listed was blockers v b h from low =
      let node = low.0.0 in
      let places = b.places in
      let nodes = b.nodes in
      let in_order : k < length order = omega arith in
      let in_listed : v < length listed = omega arith in
      record {
        places = rw (length-set order k v) places;
        nodes = rw (length-set listed v true) nodes;
        from = λ w at. from_more listed v w _ in_listed (from w at);
        marked = marks_more order k listed v b.marked in_listed in_order;
        turns = turns_more order k v in_order b.turns (turn_from order k listed b.marked blockers v low);
      }

  module _ (order : List ℕ) (k : ℕ) (listed : List Bool) (blockers : List ℕ) (b : Begun n E order k listed blockers) where
    -- some node is left before the last turn
    pub begun_left : k < n → ¬ AllListed n listed
    begun_left h all =
        let few = crowd n k (λ i. get_or order i 0) (λ v node. (b.marked v node).0 (all v node)) in
        omega arith

    -- after the last turn
    pub begun_all : n ≤ k → Ordered n E (take n order)
    begun_all h =
        let places = b.places in
        let at : (j : ℕ) → j < n → get_or (take n order) j 0 ≡ get_or order j 0 = λ j lt. get_or-take n order j 0 lt in
        record {
          whole = length-take-le n order (omega arith);
          turns = λ i lt. rw (at i lt) (turn_same order (take n order) i (get_or order i 0) (λ j less. sym (at j (omega arith))) (b.turns i (omega arith)));
        }
