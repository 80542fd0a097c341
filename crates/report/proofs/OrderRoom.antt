-- How much room the words of an order take: a store adds 8 characters at most.
use Rattle.std.proofs.Common.{◌≡◌, ℕ, ◌+◌, ◌*◌, ◌≤◌, List, [], ◌∷◌, length, map, decimal, ap, length-append, arith}
use Rattle.std.specs.Prelude.{slice_index, ◌==◌}
use Rattle.std.specs.List.{All, join_with_byte}
use Rattle.std.proofs.lemmas.Bool.{cond_both, eqb-true}
use Rattle.std.proofs.lemmas.List.Elements.{All-head, All-tail}
use Rattle.events.specs.Run.{Store, FullRun}
use Rattle.events.specs.declared.event.Event.{Event}
use Rattle.verdicttext.specs.Groups.{location, groups, onto_groups}
use Rattle.verdicttext.specs.Text.{less, group_word, order_words}
use Rattle.report.proofs.Room.{room}
use Rattle.report.proofs.Digits.{event_digits, location_digits}

-- one word more, in front
joined_onto : (c : ℕ) (w : List ℕ) (ws : List (List ℕ)) → length (join_with_byte c (w ∷ ws)) ≤ length w + 1 + length (join_with_byte c ws)
joined_onto c w [] = omega arith
joined_onto c w (v ∷ ws) = simp length-append (omega arith)

module _ (es : List Event) (full : FullRun es) where
  abbrev groups_room : List (List ℕ) → ℕ
  groups_room gs = room (map (group_word es) gs)

  alone : (a : ℕ) (gs : List (List ℕ)) → Store es a → groups_room ((a ∷ []) ∷ gs) ≤ 8 + groups_room gs
  alone a gs store =
      let place = location_digits es full a store in
      let number = event_digits es full a (store.0) in
      simp length-append (omega arith)

  joined : (a : ℕ) (g : List ℕ) (gs : List (List ℕ)) → Store es a → location es a ≡ location es (slice_index g 0)
      → groups_room ((a ∷ g) ∷ gs) ≤ 8 + groups_room (g ∷ gs)
  joined a g gs store same =
      let number = event_digits es full a (store.0) in
      let longer = joined_onto less (decimal a) (map decimal g) in
      let place = ap (λ l. length (decimal l)) same in
      simp length-append (omega arith)

  onto_room : (a : ℕ) (gs : List (List ℕ)) → Store es a → groups_room (onto_groups es a gs) ≤ 8 + groups_room gs
  onto_room a [] store = alone a [] store
  onto_room a (g ∷ gs) store =
      cond_both (location es a == location es (slice_index g 0)) _ _ (λ x. groups_room x ≤ 8 + groups_room (g ∷ gs))
      (λ same. joined a g gs store (eqb-true _ _ same))
      (λ other. alone a (g ∷ gs) store)

  pub order_room : (o : List ℕ) → All (Store es) o → room (order_words es o) ≤ 8 * length o
  order_room [] all = omega arith
  order_room (a ∷ o) all =
      let first = onto_room a (groups es o) (All-head (Store es) a o all) in
      let rest = order_room o (All-tail (Store es) a o all) in
      omega arith
