-- The groups part the order.
use Rattle.std.proofs.Common.{◌≡◌, ℕ, zero, suc, ◌<◌, ◌≢◌, List, [], ◌∷◌, length, sym, refl, ap, ◌∙◌, arith}
use Rattle.std.specs.Prelude.{slice_index, ◌==◌}
use Rattle.std.proofs.lemmas.Bool.{cond_both, eqb-true, eqb-false}
use Rattle.events.specs.declared.event.Event.{Event}
use Rattle.verdicttext.specs.Groups.{location, groups, onto_groups, group_at, group_location, PartOrder}

module _ (es : List Event) where
  part_joined : (a : ℕ) (o g : List ℕ) (gs : List (List ℕ)) → PartOrder es o (g ∷ gs) → location es a ≡ location es (slice_index g 0)
      → PartOrder es (a ∷ o) ((a ∷ g) ∷ gs)
  part_joined a o g gs h same = record { whole = ap (λ l. a ∷ l) h.whole; some = some; one = one; next = next }
    where
      some : (i : ℕ) → i < length ((a ∷ g) ∷ gs) → 0 < length (group_at ((a ∷ g) ∷ gs) i)
      some zero lt = grind arith
      some (suc i) lt = h.some (suc i) lt

      one : (i k : ℕ) → i < length ((a ∷ g) ∷ gs) → k < length (group_at ((a ∷ g) ∷ gs) i)
          → location es (slice_index (group_at ((a ∷ g) ∷ gs) i) k) ≡ group_location es ((a ∷ g) ∷ gs) i
      one zero zero lt within = refl
      one zero (suc k) lt within = h.one zero k lt (grind arith) ∙ sym same
      one (suc i) k lt within = h.one (suc i) k lt within

      next : (i : ℕ) → suc i < length ((a ∷ g) ∷ gs) → group_location es ((a ∷ g) ∷ gs) i ≢ group_location es ((a ∷ g) ∷ gs) (suc i)
      next zero lt = λ is. h.next zero lt (sym same ∙ is)
      next (suc i) lt = h.next (suc i) lt

  part_alone : (a : ℕ) (o : List ℕ) (gs : List (List ℕ)) → PartOrder es o gs → (0 < length gs → location es a ≢ group_location es gs 0)
      → PartOrder es (a ∷ o) ((a ∷ []) ∷ gs)
  part_alone a o gs h other = record { whole = ap (λ l. a ∷ l) h.whole; some = some; one = one; next = next }
    where
      some : (i : ℕ) → i < length ((a ∷ []) ∷ gs) → 0 < length (group_at ((a ∷ []) ∷ gs) i)
      some zero lt = grind arith
      some (suc i) lt = h.some i (grind arith)

      one : (i k : ℕ) → i < length ((a ∷ []) ∷ gs) → k < length (group_at ((a ∷ []) ∷ gs) i)
          → location es (slice_index (group_at ((a ∷ []) ∷ gs) i) k) ≡ group_location es ((a ∷ []) ∷ gs) i
      one zero zero lt within = refl
      one zero (suc k) lt within = absurd (grind arith)
      one (suc i) k lt within = h.one i k (grind arith) within

      next : (i : ℕ) → suc i < length ((a ∷ []) ∷ gs) → group_location es ((a ∷ []) ∷ gs) i ≢ group_location es ((a ∷ []) ∷ gs) (suc i)
      next zero lt = other (grind arith)
      next (suc i) lt = h.next i (grind arith)

  part_onto : (a : ℕ) (o : List ℕ) (gs : List (List ℕ)) → PartOrder es o gs → PartOrder es (a ∷ o) (onto_groups es a gs)
  part_onto a o [] h = part_alone a o [] h (λ lt. absurd (grind arith))
  part_onto a o (g ∷ gs) h =
      cond_both (location es a == location es (slice_index g 0)) _ _ (PartOrder es (a ∷ o))
      (λ same. part_joined a o g gs h (eqb-true _ _ same))
      (λ other. part_alone a o (g ∷ gs) h (λ _. eqb-false _ _ other))

  pub parted : (o : List ℕ) → PartOrder es o (groups es o)
  parted [] = record { whole = refl; some = λ i lt. absurd (grind arith); one = λ i k lt w. absurd (grind arith); next = λ i lt. absurd (grind arith) }
  parted (a ∷ o) = part_onto a o (groups es o) (parted o)
