-- Where no step leads back in a chain, the order that is laid of chains satisfies every axiom at location scope.
use Rattle.std.proofs.Common.{◌≡◌, ◌≢◌, ◌⊎◌, inl, inr, ⊎_elim, ◌-◌, ◌<◌, ◌≤◌, ℕ, zero, suc, List, length, get_or, sym, subst, ap, ◌∙◌, arith}
use Rattle.std.proofs.lemmas.Bool.{cases_lt}
use Rattle.events.specs.Run.{Store, Write, Update}
use Rattle.events.specs.Graph.{Rf, PoRf}
use Rattle.events.specs.declared.event.Event.{Event}
use Rattle.events.specs.Relations.{Rel, ◌⁺, ◌？, one, more, Acyclic}
use Rattle.events.specs.Paths.{path_join}
use Rattle.toposort.specs.Listing.{Placed}
use Rattle.models.specs.Orders.{Mo, MoOrders}
use Rattle.models.specs.Models.{Holds}
use Rattle.models.specs.declared.axiom.Axiom.{Axiom}
use Rattle.models.specs.declared.axiom.Axiom.TheVariants.{Causality, WriteCoherence, ReadCoherence, Atomicity}
use Rattle.models.specs.declared.scope.Scope.TheVariants.{Location}
use Rattle.models.proofs.Orders.{mo_orders}
use Rattle.verdicts.specs.Chains.{InChain}
use Rattle.verdicts.specs.Steps.{TwoStores, StoreStep}
use Rattle.verdicts.specs.Layings.{LaysChains}
use Rattle.verdicts.specs.Absent.{NoBack}
use Rattle.verdicts.proofs.Chains.{rf_once, rf_path, write_or_update, store_update}
use Rattle.verdicts.proofs.Lists.{place_once}

module _ (es : List Event) (hb : Rel) (o : List ℕ) (laid : LaysChains es hb o) where
  -- all places after i up to j have updates
  abbrev Updates : ℕ → ℕ → Type 0
  Updates i j = (k : ℕ) → i < k → k ≤ j → Update es (get_or o k 0)

  -- the chain that has a store at place i has its head at place p
  record HeadAt (i p : ℕ) : Type 0 where
    pub before : p ≤ i
    pub head : Write es (get_or o p 0)
    pub updates : Updates p i

  head_here : (i : ℕ) → Write es (get_or o i 0) → HeadAt i i
  head_here i w = record { before = omega arith; head = w; updates = λ k lt le. absurd (omega arith) }

  head_more : (i p : ℕ) → Update es (get_or o (suc i) 0) → HeadAt i p → HeadAt (suc i) p
  head_more i p u a =
      let le = a.before in
      record {
        before = omega arith;
        head = a.head;
        updates = λ k lt to.
            ⊎_elim (λ less. a.updates k lt (omega arith)) (λ ge. let here : k ≡ suc i = omega arith in rw here u)
            (cases_lt k (suc i));
      }

  -- an update stands right after its writer
  writer_before : (j : ℕ) → suc j < length o → Update es (get_or o (suc j) 0) → Rf es (get_or o j 0) (get_or o (suc j) 0)
  writer_before j h u =
      let f = (laid.whole (suc j) h u).1 in
      let before : suc j - 1 ≡ j = omega arith in
      rw before at f

  head_place : (i : ℕ) → i < length o → (p : ℕ) × HeadAt i p
  head_place zero h =
      ⊎_elim (λ w. (0, head_here 0 w)) (λ u. let some = (laid.whole 0 h u).0 in absurd (omega arith))
      (write_or_update es _ (laid.lists.stores 0 h))
  head_place (suc i) h =
      ⊎_elim (λ w. (suc i, head_here (suc i) w)) (λ u. let (p, a) = head_place i (omega arith) in (p, head_more i p u a))
      (write_or_update es _ (laid.lists.stores (suc i) h))

  -- updates in a row read one from another
  run : (i j : ℕ) → i ≤ j → j < length o → Updates i j → ((Rf es ⁺) ？) (get_or o i 0) (get_or o j 0)
  run i zero le h u = let here : i ≡ 0 = omega arith in inl (ap (λ k. get_or o k 0) here)
  run i (suc j) le h u =
      ⊎_elim (λ less.
      let f = writer_before j h (u (suc j) less (omega arith)) in
      inr (⊎_elim (λ e. subst (λ z. (Rf es ⁺) z (get_or o (suc j) 0)) (sym e) (one f)) (λ q. path_join q (one f))
      (run i j (omega arith) (omega arith) (λ k lt to. u k lt (omega arith)))))
      (λ ge. let here : i ≡ suc j = omega arith in inl (ap (λ k. get_or o k 0) here))
      (cases_lt i (suc j))

  in_chain : (i p : ℕ) → i < length o → HeadAt i p → InChain es (get_or o p 0) (get_or o i 0)
  in_chain i p h a = (a.head, run p i (a.before) h (a.updates), laid.lists.stores i h)

  -- no step leads back to a chain from one that is laid after it
  no_step_back : (i j p q : ℕ) → i < length o → j < length o → p < q → HeadAt i p → HeadAt j q →
      ¬ StoreStep es hb (get_or o j 0) (get_or o i 0)
  no_step_back i j p q h m less a b s =
      let le = a.before in
      let le₂ = b.before in
      let turn = laid.turns p (omega arith) (a.head) in
      let left : ¬ Placed o p (get_or o q 0) = λ (k, lt, e). laid.lists.once k q (omega arith) (omega arith) e in
      let other : get_or o q 0 ≢ get_or o p 0 = λ e. laid.lists.once p q less (omega arith) (sym e) in
      turn.ready.free (get_or o q 0) (b.head) left (other, (get_or o j 0, get_or o i 0, in_chain j q m b, in_chain i p h a, s))

  -- a store that comes before another of its location comes before it in a chain, or no step leads back to it
  mo_cases : (a b : ℕ) → Mo es o a b → (Rf es ⁺) a b ⊎ ¬ StoreStep es hb b a
  mo_cases a b ((i, j, less, lt, e, f), at) =
      let (p, c) = head_place i (omega arith) in
      let (q, d) = head_place j lt in
      let le = c.before in
      ⊎_elim (λ later. inr (rw (e, f) at (no_step_back i j p q (omega arith) lt (omega arith) c d)))
      (λ earlier.
      ⊎_elim (λ same. absurd (laid.lists.once i j less lt same)) (λ path. inl (rw (e, f) at path))
      (run i j (omega arith) lt (λ k lt₂ to. d.updates k (omega arith) to)))
      (cases_lt i q)

  -- no store stands between an update and its writer
  none_between : (w u v : ℕ) → Rf es w u → Mo es o w v → ¬ Mo es o v u
  none_between w u v f ((i, j, less, lt, e, g), at) ((k, m, less₂, lt₂, g₂, d), at₂) =
      let is : Update es u = store_update es u (subst (λ z. Store es z) d (laid.lists.stores m lt₂)) (f.0) in
      let (some, t) = laid.whole m lt₂ (subst (λ z. Update es z) (sym d) is) in
      let writer = rf_once es _ _ _ (subst (λ z. Rf es (get_or o (m - 1) 0) z) d t) f in
      let here = place_once o (laid.lists.once) i (m - 1) (omega arith) (omega arith) (e ∙ sym writer) in
      let same = place_once o (laid.lists.once) j k lt (omega arith) (g ∙ sym g₂) in
      omega arith

module _ (es : List Event) (hb : Rel) (path : (a b : ℕ) → hb a b → (PoRf es ⁺) a b)
    (causal : Acyclic (PoRf es)) where
  optional_path : (b c a : ℕ) → (Rf es ？) b c → (hb ？) c a → (b ≡ a) ⊎ (PoRf es ⁺) b a
  optional_path b c a (inl e) (inl f) = inl (e ∙ f)
  optional_path b c a (inl e) (inr h) = inr (subst (λ z. (PoRf es ⁺) z a) (sym e) (path c a h))
  optional_path b c a (inr r) (inl f) = inr (subst (λ z. (PoRf es ⁺) b z) f (one (inr r)))
  optional_path b c a (inr r) (inr h) = inr (more (inr r) (path c a h))

  module _ (o : List ℕ) (laid : LaysChains es hb o) (back : NoBack es hb) where
    orders : MoOrders es (Mo es o)
    orders = mo_orders es o (laid.lists)

    two_stores : (a b : ℕ) → Mo es o a b → TwoStores es b a
    two_stores a b m =
        let (s, t, at) = orders.stores a b m in
        (t, s, sym at, λ e. orders.strict a (subst (λ z. Mo es o a z) e m))

    write_coherent : Holds WriteCoherence Location es hb (Mo es o)
    write_coherent a (b, m, (c, r, h)) =
        let s : StoreStep es hb b a = inl (two_stores a b m, (c, r, h)) in
        ⊎_elim (λ chain.
        ⊎_elim (λ e. orders.strict a (subst (λ z. Mo es o a z) e m)) (λ p. causal a (path_join (rf_path es a b chain) p))
        (optional_path b c a r h))
        (λ none. none s)
        (mo_cases es hb o laid a b m)

    read_coherent : Holds ReadCoherence Location es hb (Mo es o)
    read_coherent r (v, ((w, f, m), differs), step) =
        let s : StoreStep es hb v w = inr (r, (two_stores w v m, step, f)) in
        ⊎_elim (λ chain. back v w s (chain, (orders.stores w v m).1)) (λ none. none s) (mo_cases es hb o laid w v m)

    pub chains_satisfy : (x : Axiom) → Holds x Location es hb (Mo es o)
    chains_satisfy Causality = causal
    chains_satisfy WriteCoherence = write_coherent
    chains_satisfy ReadCoherence = read_coherent
    chains_satisfy Atomicity = λ u (v, ((w, f, m), differs), n). none_between es hb o laid w u v f m n
