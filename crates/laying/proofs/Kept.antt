-- The locations of the stores, filled in event by event.
use Rattle.std.proofs.Common.{◌≡◌, ⊎_elim, ℕ, ◌+◌, ◌<◌, List, length, get_or, set, sym, subst, ◌∙◌, arith}
use Rattle.std.proofs.lemmas.Bool.{cases_eq}
use Rattle.std.proofs.lemmas.List.{get_or-set_same, get_or-set_other}
use Rattle.events.specs.Run.{at, Store}
use Rattle.events.specs.declared.event.Event.{Event}
use Rattle.laying.specs.Stores.{StoreLocations}

pub record LocationsBelow (es : List Event) (k : ℕ) (locations : List ℕ) : Type 0 where
  pub store : (x : ℕ) → x < k → Store es x → get_or locations x 0 ≡ (at es x).location
  pub other : (x : ℕ) → (x < k → ¬ Store es x) → get_or locations x 0 ≡ 0

module _ (es : List Event) (k : ℕ) (locations : List ℕ) where
  pub locations_skip : LocationsBelow es k locations → ¬ Store es k → LocationsBelow es (k + 1) locations
  locations_skip b none =
      record {
        store = λ x lt s. ⊎_elim (λ e. absurd (none (subst (λ z. Store es z) e s))) (λ n. b.store x (omega arith) s) (cases_eq x k);
        other = λ x isnt. b.other x (λ lt. isnt (omega arith));
      }

  pub locations_more : LocationsBelow es k locations → k < length locations → Store es k →
      LocationsBelow es (k + 1) (set locations k (at es k).location)
  locations_more b high s =
      record {
        store = λ x lt t.
            ⊎_elim
            (λ e. subst (λ z. get_or (set locations k (at es k).location) z 0 ≡ (at es z).location) (sym e)
            (get_or-set_same locations k (at es k).location 0 high))
            (λ n. get_or-set_other locations k x (at es k).location 0 n ∙ b.store x (omega arith) t)
            (cases_eq x k);
        other = λ x isnt.
            ⊎_elim (λ e. absurd (isnt (omega arith) (subst (λ z. Store es z) (sym e) s)))
            (λ n. get_or-set_other locations k x (at es k).location 0 n ∙ b.other x (λ lt. isnt (omega arith)))
            (cases_eq x k);
      }

pub locations_all : (es : List Event) (k : ℕ) (locations : List ℕ) → length es < k → LocationsBelow es k locations →
    StoreLocations es locations
locations_all es k locations all b =
    record { store = λ x s. let high = s.0.1 in b.store x (omega arith) s; other = λ x isnt. b.other x (λ _. isnt) }

-- the numbers from 1 on, filled in one by one
pub rising_more : (list : List ℕ) (k : ℕ) → ((i : ℕ) → i < k → get_or list i 0 ≡ i + 1) → k < length list →
    (i : ℕ) → i < k + 1 → get_or (set list k (k + 1)) i 0 ≡ i + 1
rising_more list k before high i lt =
    ⊎_elim (λ e. subst (λ z. get_or (set list k (k + 1)) z 0 ≡ z + 1) (sym e) (get_or-set_same list k (k + 1) 0 high))
    (λ n. get_or-set_other list k i (k + 1) 0 n ∙ before i (omega arith))
    (cases_eq i k)
