-- Decisions of what is said of listings of a graph, and of whether there is one.
use Rattle.std.proofs.Common.{◌≡◌, ℕ, zero, suc, ◌<◌, ◌+◌, List, [], ◌∷◌, ◌++◌, length, get_or, refl, sym, ◌∙◌, arith}
use Rattle.std.proofs.Math.Decide.{ℕ_discrete, dec_le, map_dec}
use Rattle.std.proofs.lemmas.List.{get_or_append_left, get_or_push, length-append}
use Rattle.events.specs.Relations.{Rel}
use Rattle.toposort.specs.Graph.{Node}
use Rattle.toposort.specs.Listing.{Placed, Left, Ready, Turn, Ordered}
use Rattle.toposort.proofs.Turns.{SameBelow, turn_same}
use Rattle.examples.proofs.Decisions.{dec_and, dec_if, dec_not, dec_each, dec_some, dec_where, dec_all, more_below}

abbrev pub dec_placed : (l : List ℕ) (k v : ℕ) → Dec (Placed l k v)
dec_placed l k v = dec_some k _ (λ j. ℕ_discrete (get_or l j 0) v)

module _ (n : ℕ) (E : Rel) (dec : (a b : ℕ) → Dec (E a b)) where
  pub node_low : (v : ℕ) → Node n v → v < suc n
  node_low v node = let high = node.1 in omega arith

  abbrev pub dec_left : (l : List ℕ) (k v : ℕ) → Dec (Left n l k v)
  dec_left l k v = dec_and (dec_and (dec_le 1 v) (dec_le v n)) (dec_not (dec_placed l k v))

  abbrev pub dec_ready : (l : List ℕ) (k v : ℕ) → Dec (Ready n E l k v)
  dec_ready l k v =
      dec_and (dec_left l k v)
      (dec_all (suc n) _ (λ u q left. q (node_low u left.0) left) (λ u. dec_if (dec_left l k u) (dec_not (dec u v))))

  -- whether some node has the turn, and which
  abbrev pub dec_next : (l : List ℕ) (k : ℕ) → Dec ((v : ℕ) × Turn n E l k v)
  dec_next l k =
      dec_where (suc n) _ (λ v t. node_low v t.ready.0.0)
      (λ v. map_dec (λ (r, w). record { ready = r; lowest = w }) (λ t. (t.ready, t.lowest))
      (dec_and (dec_ready l k v) (dec_each v _ (λ w. dec_not (dec_ready l k w)))))

  -- the first k turns are those of l, in any listing
  pub record Begins (k : ℕ) (l : List ℕ) : Type 0 where
    pub places : length l ≡ k
    pub turns : (j : ℕ) → j < k → Turn n E l j (get_or l j 0)
    pub same : (m : List ℕ) → Ordered n E m → SameBelow k l m

  module _ (k : ℕ) (l : List ℕ) (b : Begins k l) (less : k < n) where
    pub turn_next : (m : List ℕ) → Ordered n E m → Turn n E l k (get_or m k 0)
    turn_next m o = turn_same n E m l k _ (λ j lt. sym (b.same m o j lt)) (o.turns k less)

    pub begins_more : (v : ℕ) → Turn n E l k v → Begins (suc k) (l ++ v ∷ [])
    begins_more v t =
        let places = b.places in
        let last = get_or_push l v 0 k places in
        let front : SameBelow k l (l ++ v ∷ []) = λ j lt. sym (get_or_append_left l (v ∷ []) 0 j (omega arith)) in
        record {
          places = omega (arith, length-append l (v ∷ []));
          turns =
              more_below _ k
              (λ j lt. rw (← (front j lt)) (turn_same n E l _ j _ (λ i h. front i (omega arith)) (b.turns j lt)))
              (rw last (turn_same n E l _ k v front t));
          same = λ m o.
              let u = turn_next m o in
              more_below _ k (λ j lt. sym (front j lt) ∙ b.same m o j lt) (last ∙ grind (arith, t.lowest (get_or m k 0), u.lowest v));
        }

  -- the listing that begins so, with m turns more
  abbrev pub dec_from : (m k : ℕ) (l : List ℕ) → Begins k l → k + m ≡ n → Dec ((x : List ℕ) × Ordered n E x)
  dec_from zero k l b e =
      yes (l, record { whole = omega (arith, b.places); turns = λ j lt. b.turns j (omega arith) })
  dec_from (suc m) k l b e =
      elim (dec_next l k) [
        | yes (v, t) ↦ dec_from m (suc k) (l ++ v ∷ []) (begins_more k l b (omega arith) v t) (omega arith)
        | no none ↦ no (λ (x, o). none (get_or x k 0, turn_next k l b (omega arith) x o))
      ]

  -- whether there is a listing, and which
  abbrev pub dec_listing : Dec ((l : List ℕ) × Ordered n E l)
  dec_listing =
      dec_from n 0 [] (record { places = refl; turns = λ j lt. absurd (omega arith); same = λ m o j lt. absurd (omega arith) })
      (omega arith)
