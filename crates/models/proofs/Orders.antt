-- The modification order that an order gives.
use Rattle.std.proofs.Common.{◌≡◌, ◌<◌, ℕ, List, length, get_or, inl, inr, ⊎_elim, refl, sym, subst, ◌∙◌, arith}
use Rattle.std.proofs.lemmas.Bool.{cases_order}
use Rattle.events.specs.Run.{Store}
use Rattle.events.specs.declared.event.Event.{Event}
use Rattle.models.specs.Orders.{ListsStores, Mo, MoOrders}

module _ (es : List Event) (o : List ℕ) (lists : ListsStores es o) where
  -- no store stands at two places
  place_once : (i j : ℕ) → i < length o → j < length o → get_or o i 0 ≡ get_or o j 0 → i ≡ j
  place_once i j h k e =
      ⊎_elim (λ same. same) (⊎_elim (λ less. absurd (lists.once i j less k e)) (λ less. absurd (lists.once j i less h (sym e)))) (cases_order i j)

  pub mo_orders : MoOrders es (Mo es o)
  mo_orders =
      record {
        stores = λ a b ((i, j, less, lt, e, f), at). (subst (λ z. Store es z) e (lists.stores i (omega arith)), subst (λ z. Store es z) f (lists.stores j lt), at);
        strict = λ a ((i, j, less, lt, e, f), at). lists.once i j less lt (e ∙ sym f);
        joins = λ a b c ((i, j, less, lt, e, f), at) ((k, l, less₂, lt₂, g, h), at₂).
            let same = place_once j k lt (omega arith) (f ∙ sym g) in ((i, l, omega arith, lt₂, e, h), at ∙ at₂);
        total = λ a b s t at differs.
            let (i, lt, e) = lists.all a s in
            let (j, lt₂, f) = lists.all b t in
            ⊎_elim (λ same. absurd (differs (sym e ∙ (subst (λ k. get_or o i 0 ≡ get_or o k 0) same refl ∙ f))))
            (⊎_elim (λ less. inl ((i, j, less, lt₂, e, f), at)) (λ less. inr ((j, i, less, lt, f, e), sym at)))
            (cases_order i j);
      }
