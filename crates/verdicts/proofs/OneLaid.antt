-- At each scope there is one order at most that is laid of a run.
use Rattle.std.proofs.Common.{◌≡◌, ◌-◌, ◌⊎◌, inl, inr, ◌<◌, ◌≤◌, ℕ, zero, suc, List, length, get_or, ⊎_elim, sym, subst, ap, ◌∙◌, arith}
use Rattle.std.proofs.lemmas.Bool.{cases_lt, cases_order}
use Rattle.std.proofs.lemmas.List.{ext_get_or}
use Rattle.events.specs.Run.{at, Update, SameLocation}
use Rattle.events.specs.Graph.{Rf}
use Rattle.events.specs.declared.event.Event.{Event}
use Rattle.events.specs.Relations.{Rel, ◌∪◌}
use Rattle.toposort.specs.Listing.{Placed}
use Rattle.toposort.proofs.Turns.{SameBelow}
use Rattle.toposort.proofs.Laws.{one_listing}
use Rattle.models.specs.Orders.{ListsStores, Before, location_at}
use Rattle.models.specs.declared.scope.Scope.{Scope}
use Rattle.models.specs.declared.scope.Scope.TheVariants.{Location, Whole, Weak}
use Rattle.verdicts.specs.Steps.{ReadSteps}
use Rattle.verdicts.specs.Layings.{ChainReady, ChainTurn, LaysChains, ReadsOff, LaysEvents, OneLaid}
use Rattle.verdicts.proofs.Chains.{rf_once, write_or_update}
use Rattle.verdicts.proofs.Lists.{Once, place_once, before_once, listing_once}

same_turned : (k : ℕ) (l m : List ℕ) → SameBelow k l m → SameBelow k m l
same_turned k l m same j lt = sym (same j lt)

module _ (es : List Event) where
  -- what o has at place i stands in p, and not before that place, if the two are equal before it
  placed_later : (o p : List ℕ) → ListsStores es o → ListsStores es p →
      (i : ℕ) → i < length o → SameBelow i o p → (j : ℕ) × (i ≤ j) × (j < length p) × (get_or p j 0 ≡ get_or o i 0)
  placed_later o p a b i h same =
      let (j, lt, e) = b.all (get_or o i 0) (a.stores i h) in
      (j, ⊎_elim (λ less. absurd (a.once j i less h (same j less ∙ e))) (λ ge. ge) (cases_lt j i), lt, e)

  not_longer : (o p : List ℕ) → ListsStores es o → ListsStores es p → SameBelow (length o) o p → ¬ (length o < length p)
  not_longer o p a b same lt =
      let (j, less, e) = a.all (get_or p (length o) 0) (b.stores (length o) lt) in
      b.once j (length o) less lt (sym (same j less) ∙ e)

  -- two lists of the stores are one if they have the same at each place up to which they are equal
  module _ (o p : List ℕ) (a : ListsStores es o) (b : ListsStores es p) where
    abbrev SameNext : Type 0
    SameNext = (i : ℕ) → i < length o → i < length p → SameBelow i o p → get_or o i 0 ≡ get_or p i 0

    same_front : SameNext → (k : ℕ) → k ≤ length o → k ≤ length p → SameBelow k o p
    same_front next zero h m j lt = absurd (omega arith)
    same_front next (suc k) h m j lt =
        let before = same_front next k (omega arith) (omega arith) in
        let here = next k (omega arith) (omega arith) before in
        grind (arith, before j)

    same_length : SameNext → length o ≡ length p
    same_length next =
        ⊎_elim (λ same. same)
        (⊎_elim (λ less. absurd (not_longer o p a b (same_front next (length o) (omega arith) (omega arith)) less))
        (λ less. absurd (not_longer p o b a (same_turned _ o p (same_front next (length p) (omega arith) (omega arith))) less)))
        (cases_order (length o) (length p))

    same_lists : SameNext → o ≡ p
    same_lists next =
        let same = same_length next in
        ext_get_or 0 o p same (λ i h. same_front next (length o) (omega arith) (omega arith) i h)

  -- what two lists of the stores have at the first place at which they may differ is of one location
  location_below : (o p : List ℕ) → ListsStores es o → ListsStores es p →
      (i : ℕ) → i < length o → i < length p → SameBelow i o p → location_at es p i ≤ location_at es o i
  location_below o p a b i h m same =
      let (j, ge, lt, e) = placed_later o p a b i h same in
      ⊎_elim (λ less. subst (λ z. location_at es p i ≤ (at es z).location) e (b.rising i j less lt))
      (λ le. let here : j ≡ i = omega arith in grind (arith, here, e)) (cases_lt i j)

  location_same : (o p : List ℕ) → ListsStores es o → ListsStores es p →
      (i : ℕ) → i < length o → i < length p → SameBelow i o p → SameLocation es (get_or o i 0) (get_or p i 0)
  location_same o p a b i h m same =
      omega (arith, location_below o p a b i h m same, location_below p o b a i m h (same_turned i o p same))

  -- Location scope

  module _ (hb : Rel) where
    -- a chain's turn speaks of the places before it alone
    placed_same : (k : ℕ) (l m : List ℕ) (v : ℕ) → SameBelow k l m → Placed l k v → Placed m k v
    placed_same k l m v same (j, lt, e) = (j, lt, sym (same j lt) ∙ e)

    ready_same : (o p : List ℕ) (i h : ℕ) → SameBelow i o p → ChainReady es hb o i h → ChainReady es hb p i h
    ready_same o p i h same r =
        let back = same_turned i o p same in
        record {
          head = r.head;
          unlaid = λ q. r.unlaid (placed_same i p o h back q);
          free = λ g is left s. r.free g is (λ q. left (placed_same i o p g same q)) s;
        }

    turn_once : (o p : List ℕ) (i g h : ℕ) → SameBelow i o p → SameLocation es g h →
        ChainTurn es hb o i g → ChainTurn es hb p i h → g ≡ h
    turn_once o p i g h same there a b =
        ⊎_elim (λ e. e)
        (⊎_elim (λ less. absurd (b.lowest g less there (ready_same o p i g same (a.ready))))
        (λ less. absurd (a.lowest h less (sym there) (ready_same p o i h (same_turned i o p same) (b.ready)))))
        (cases_order g h)

    -- an update stands right after its writer in both
    update_same : (o p : List ℕ) → LaysChains es hb o → LaysChains es hb p →
        (i : ℕ) → i < length o → SameBelow i o p → Update es (get_or o i 0) → get_or o i 0 ≡ get_or p i 0
    update_same o p a b i h same is =
        let (some, f) = a.whole i h is in
        let (j, ge, lt, e) = placed_later o p (a.lists) (b.lists) i h same in
        let (some₂, g) = b.whole j lt (subst (λ z. Update es z) (sym e) is) in
        let writer = rf_once es _ _ _ f (subst (λ z. Rf es (get_or p (j - 1) 0) z) e g) in
        let at_writer = sym (same (i - 1) (omega arith)) ∙ writer in
        let before = place_once p (b.lists.once) (i - 1) (j - 1) (omega arith) (omega arith) at_writer in
        let here : j ≡ i = omega arith in
        sym e ∙ ap (λ k. get_or p k 0) here

    chains_next : (o p : List ℕ) → LaysChains es hb o → LaysChains es hb p →
        (i : ℕ) → i < length o → i < length p → SameBelow i o p → get_or o i 0 ≡ get_or p i 0
    chains_next o p a b i h m same =
        let there = location_same o p (a.lists) (b.lists) i h m same in
        ⊎_elim
        (λ w. ⊎_elim
        (λ w₂. turn_once o p i _ _ same there (a.turns i h w) (b.turns i m w₂))
        (λ u. sym (update_same p o b a i m (same_turned i o p same) u))
        (write_or_update es (get_or p i 0) (b.lists.stores i m)))
        (λ u. update_same o p a b i h same u)
        (write_or_update es (get_or o i 0) (a.lists.stores i h))

    one_chains : (o p : List ℕ) → LaysChains es hb o → LaysChains es hb p → o ≡ p
    one_chains o p a b = same_lists o p (a.lists) (b.lists) (chains_next o p a b)

  -- Whole scope

  -- where two orders may differ, what the second has stands in the listing before what the first has, or they do not differ
  off_before : (l o p : List ℕ) → ReadsOff es l o → ReadsOff es l p →
      (i : ℕ) → i < length o → i < length p → SameBelow i o p →
      (get_or o i 0 ≡ get_or p i 0) ⊎ Before l (get_or p i 0) (get_or o i 0)
  off_before l o p a b i h m same =
      let (j, ge, lt, e) = placed_later o p (a.lists) (b.lists) i h same in
      let there = location_same o p (a.lists) (b.lists) i h m same in
      ⊎_elim (λ less. inr (rw e at (b.along i j less lt (rw e (sym there)))))
      (λ le. let here : j ≡ i = omega arith in inl (sym e ∙ ap (λ k. get_or p k 0) here))
      (cases_lt i j)

  one_off : (l : List ℕ) → Once l → (o p : List ℕ) → ReadsOff es l o → ReadsOff es l p → o ≡ p
  one_off l once o p a b =
      same_lists o p (a.lists) (b.lists)
      (λ i h m same.
      let back = same_turned i o p same in
      ⊎_elim (λ e. e)
      (λ s. ⊎_elim (λ e. sym e) (λ t. absurd (before_once l once _ _ s t)) (off_before l p o b a i m h back))
      (off_before l o p a b i h m same))

  one_events : (hb : Rel) (o p : List ℕ) → LaysEvents es hb o → LaysEvents es hb p → o ≡ p
  one_events hb o p (l, t, a) (m, u, b) =
      let same = one_listing (length es) (hb ∪ ReadSteps es hb) m l u t in
      let once = listing_once (length es) (hb ∪ ReadSteps es hb) l t in
      one_off l once o p a (subst (λ k. ReadsOff es k p) same b)

pub one_laid : (scope : Scope) (es : List Event) (hb : Rel) → OneLaid scope es hb
one_laid Location es hb = one_chains es hb
one_laid Whole es hb = one_events es hb
one_laid Weak es hb = λ o p e f. e ∙ sym f
