-- The walk back, and the cycle that it closes.
use Rattle.std.proofs.Common.{◌≡◌, ◌≢◌, ℕ, ◌+◌, ◌-◌, ◌<◌, ◌≤◌, Bool, List, length, get_or, set, drop, reverse, slice_range, ◌∙◌, arith}
use Rattle.std.proofs.lemmas.List.{get_or-set_same, get_or-set_other, get_or-take, get_or-drop, get_or-reverse, length-take-le, length-drop, length-reverse}
use Rattle.events.specs.Relations.{Rel}
use Rattle.toposort.specs.Cycle.{IsCycle}
use Rattle.toposort.specs.Scratch.{Unlisted, Backward}
use Rattle.toposort.proofs.Pigeons.{room}

-- v is unlisted, and before it come different unlisted nodes, each with an edge to the one before
pub record Trail (n : ℕ) (E : Rel) (listed : List Bool) (path : List ℕ) (count v : ℕ) : Type 0 where
  pub here : Unlisted n listed v
  pub few : count ≤ n
  pub nodes : (i : ℕ) → i < count → Unlisted n listed (get_or path i 0)
  pub apart : (i j : ℕ) → i < j → j < count → get_or path i 0 ≢ get_or path j 0
  pub joined : (i : ℕ) → i + 1 < count → E (get_or path (i + 1) 0) (get_or path i 0)
  pub last : 0 < count → E v (get_or path (count - 1) 0)

module _ (n : ℕ) (E : Rel) where
  -- a cycle backward, turned round
  pub cycle_turned : (c : List ℕ) → IsCycle n (Backward E) c → IsCycle n E (reverse c)
  cycle_turned c is =
      let same = length-reverse c in
      let some = is.some in
      record {
        some = omega arith;
        nodes = λ i h. grind (arith, at i, is.nodes (length c - 1 - i));
        apart = λ i j h m e. grind (arith, at i, at j, is.apart (length c - 1 - j) (length c - 1 - i));
        joined = λ i h. grind (arith, at i, at (i + 1), is.joined (length c - 1 - (i + 1)));
        closed = grind (arith, at (length (reverse c) - 1), at 0, is.closed);
      }
    where
      at : (i : ℕ) → i < length c → get_or (reverse c) i 0 ≡ get_or c (length c - 1 - i) 0
      at i h = get_or-reverse c i 0 h

  module _ (listed : List Bool) (path : List ℕ) (count v : ℕ) (t : Trail n E listed path count v) where
    -- where v comes again, the trail from there on is a cycle
    pub trail_cycle : (from : ℕ) → from < count → count ≤ length path → get_or path from 0 ≡ v → IsCycle n (Backward E) (slice_range path from count)
    trail_cycle from h room e =
        let c = slice_range path from count in
        let size : length c ≡ count - from = length-take-le (count - from) (drop from path) (omega (arith, length-drop from path)) in
        let at : (i : ℕ) → i < count - from → get_or c i 0 ≡ get_or path (from + i) 0 = λ i h. get_or-take (count - from) (drop from path) i 0 h ∙ get_or-drop from path i 0 in
        record {
          some = omega arith;
          nodes = λ i h. grind (arith, at i, t.nodes (from + i));
          apart = λ i j h m e. grind (arith, at i, at j, t.apart (from + i) (from + j));
          joined = λ i h. grind (arith, at i, at (i + 1), t.joined (from + i));
          closed = grind (arith, at (length c - 1), at 0, t.last);
        }

    module _ (new : (j : ℕ) → j < count → get_or path j 0 ≢ v) where
      -- a node that is not on the trail leaves room on it
      pub trail_room : count < n
      trail_room = room n count v (λ i. get_or path i 0) (λ i h. (t.nodes i h).0) t.apart t.here.0 new

      module _ (fits : count < length path) where
        before : (i : ℕ) → i < count → get_or (set path count v) i 0 ≡ get_or path i 0
        before i h = get_or-set_other path count i v 0 (omega arith)

        at : get_or (set path count v) count 0 ≡ v
        at = get_or-set_same path count v 0 fits

        pub trail_more : (x : ℕ) → Unlisted n listed x → E x v → Trail n E listed (set path count v) (count + 1) x
        trail_more x free edge =
            record {
              here = free;
              few = let r = trail_room in omega arith;
              nodes = λ i h. grind (arith, before i, at, t.nodes i);
              apart = λ i j h m e. grind (arith, before i, before j, at, t.apart i j, new i);
              joined = λ i h. grind (arith, before i, before (i + 1), at, t.joined i, t.last);
              last = λ _. grind (arith, at);
            }
