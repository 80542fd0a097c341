-- An order, entry by entry.
use Rattle.std.proofs.Common.{◌≡◌, ℕ, ◌<◌, ◌≤◌, ◌+◌, ◌-◌, List, length, get_or, set, ⊎_elim, sym, ap, subst, ◌∙◌, arith}
use Rattle.std.proofs.lemmas.Bool.{cases_eq}
use Rattle.std.proofs.lemmas.List.{get_or-set_same, get_or-set_other}
use Rattle.events.specs.Run.{Store}
use Rattle.events.specs.declared.event.Event.{Event}
use Rattle.models.specs.Orders.{location_at}
use Rattle.confirm.specs.Places.{PlacesOf, MayFollow}

module _ (es : List Event) (o : List ℕ) where
  module _ (i : ℕ) (places : List ℕ) (p : PlacesOf es o i places) where
    module _ (f : MayFollow es o places i) (fits : get_or o i 0 < length places) where
      there : (j : ℕ) → j < i + 1 → get_or (set places (get_or o i 0) (i + 1)) (get_or o j 0) 0 ≡ j + 1
      there j lt =
          ⊎_elim
          (λ same. subst (λ k. get_or (set places (get_or o i 0) (i + 1)) (get_or o k 0) 0 ≡ k + 1) (sym same) (get_or-set_same places (get_or o i 0) (i + 1) 0 fits))
          (λ other.
          let t = p.there j (omega arith) in
          get_or-set_other places (get_or o i 0) (get_or o j 0) (i + 1) 0
          (λ e. let z = ap (λ x. get_or places x 0) e ∙ f.1 in absurd (omega arith))
          ∙ t)
          (cases_eq j i)

      back : (e : ℕ) → 0 < get_or (set places (get_or o i 0) (i + 1)) e 0 → (get_or (set places (get_or o i 0) (i + 1)) e 0 ≤ i + 1) × (get_or o (get_or (set places (get_or o i 0) (i + 1)) e 0 - 1) 0 ≡ e)
      back e some =
          ⊎_elim
          (λ same.
          let at = ap (λ x. get_or (set places (get_or o i 0) (i + 1)) x 0) same ∙ get_or-set_same places (get_or o i 0) (i + 1) 0 fits in
          (omega arith, ap (λ k. get_or o k 0) (omega arith) ∙ sym same))
          (λ other.
          let at = get_or-set_other places (get_or o i 0) e (i + 1) 0 other in
          let b = p.back e (omega arith) in
          let few = b.0 in
          (omega arith, ap (λ k. get_or o k 0) (omega arith) ∙ b.1))
          (cases_eq e (get_or o i 0))

      stores : (j : ℕ) → j < i + 1 → Store es (get_or o j 0)
      stores j lt = ⊎_elim (λ same. subst (λ k. Store es (get_or o k 0)) (sym same) (f.0)) (λ other. p.stores j (omega arith)) (cases_eq j i)

      rising : (j k : ℕ) → j < k → k < i + 1 → location_at es o j ≤ location_at es o k
      rising j k less lt =
          ⊎_elim
          (λ same. subst (λ z. location_at es o j ≤ location_at es o z) (sym same) (last (omega arith)))
          (λ other. p.rising j k less (omega arith))
          (cases_eq k i)
        where
          last : j < i → location_at es o j ≤ location_at es o i
          last h =
              let next = f.2 (omega arith) in
              ⊎_elim
              (λ same. subst (λ z. location_at es o z ≤ location_at es o i) (sym same) next)
              (λ other. let before = p.rising j (i - 1) (omega arith) (omega arith) in omega arith)
              (cases_eq j (i - 1))

      pub places_more : (w : ℕ) → w ≡ get_or o i 0 → PlacesOf es o (i + 1) (set places w (i + 1))
      places_more w e =
          subst (λ x. PlacesOf es o (i + 1) (set places x (i + 1))) (sym e) (record { there = there; back = back; stores = stores; rising = rising })
