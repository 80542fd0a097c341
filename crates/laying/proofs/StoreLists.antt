-- What is gathered by the locations of stores is laid location by location, and lists the stores of a run if all are members.
use Rattle.std.proofs.Common.{⊎_elim, ℕ, ◌-◌, ◌<◌, ◌≤◌, List, length, get_or, refl, sym, subst, ◌∙◌, arith}
use Rattle.std.specs.Prelude.{slice_index}
use Rattle.events.specs.Limits.{max_locations}
use Rattle.events.specs.Run.{at, Store, SameLocation, FullRun}
use Rattle.events.specs.declared.event.Event.{Event}
use Rattle.models.specs.Orders.{ListsStores}
use Rattle.chains.proofs.Members.{store_or_not}
use Rattle.laying.specs.Gathers.{Different, Listed, Gathers}
use Rattle.models.specs.Orders.{Before}
use Rattle.laying.specs.Stores.{StoreLocations, AllLocations, ByLocation}
use Rattle.laying.proofs.Laws.{before_itself}

module _ (all : List ℕ) (is : AllLocations all) where
  pub locations_different : Different all
  locations_different i j less lt same =
      let whole = is.whole in
      let a = is.rising i (omega arith) in
      let b = is.rising j (omega arith) in
      omega arith

  location_there : (l : ℕ) → 1 ≤ l → l ≤ max_locations → Listed all l
  location_there l low high =
      let whole = is.whole in
      let a = is.rising (l - 1) (omega arith) in
      (l - 1, omega arith, omega arith)

  location_low : (l : ℕ) → Listed all l → 1 ≤ l
  location_low l (i, lt, e) =
      let whole = is.whole in
      let a = is.rising i (omega arith) in
      omega arith

  location_rises : (a b : ℕ) → Before all a b → a < b
  location_rises a b (i, j, less, lt, e, f) =
      let whole = is.whole in
      let c = is.rising i (omega arith) in
      let d = is.rising j (omega arith) in
      omega arith

legal_location : (es : List Event) → FullRun es → (w : ℕ) → Store es w →
    (1 ≤ (at es w).location) × ((at es w).location ≤ max_locations)
legal_location es full w s = let legal = (full.legal w (s.0)).location in legal.0 (grind arith)

module _ (es : List Event) (full : FullRun es) (kept : List ℕ) (is : StoreLocations es kept) (all : List ℕ) (every : AllLocations all)
    (m : List ℕ) (o : List ℕ) (gathers : Gathers (slice_index kept) m all o) where
  -- what is no store has a location that is none
  stored : (i : ℕ) → i < length o → Store es (get_or o i 0)
  stored i h =
      let some = location_low all every _ (gathers.only i h).1 in
      ⊎_elim (λ s. s) (λ no. let none = is.other _ no in absurd (omega arith)) (store_or_not es (get_or o i 0))

  location_listed : (w : ℕ) → Store es w → Listed all (slice_index kept w)
  location_listed w s =
      let (low, high) = legal_location es full w s in
      let e = is.store w s in
      location_there all every _ (omega arith) (omega arith)

  pub by_location : ByLocation es m o
  by_location =
      record {
        only = λ i h. (stored i h, (gathers.only i h).0);
        all = λ w s there. gathers.all w there (location_listed w s);
        rising = λ i j less h.
            let a = is.store _ (stored i (omega arith)) in
            let b = is.store _ (stored j h) in
            ⊎_elim (λ p. let rises = location_rises all every _ _ p in omega arith) (λ (e, p). omega arith)
            (gathers.sorted i j less h);
        along = λ i j less h same.
            ⊎_elim
            (λ p. absurd (before_itself all (locations_different all every) _ _
            (is.store _ (stored i (omega arith)) ∙ (same ∙ sym (is.store _ (stored j h)))) p))
            (λ p. p.1)
            (gathers.sorted i j less h);
      }

pub lists_stores : (es : List Event) (m : List ℕ) → Different m → ((w : ℕ) → Store es w → Listed m w) →
    (o : List ℕ) → ByLocation es m o → ListsStores es o
lists_stores es m once has o is =
    record {
      stores = λ i h. (is.only i h).0;
      all = λ w s. is.all w s (has w s);
      once = λ i j less h same. before_itself m once _ _ same (is.along i j less h (subst (λ z. SameLocation es (get_or o i 0) z) same refl));
      rising = is.rising;
    }
