-- What is gathered chain by chain, along a listing of the chains, and then location by location, lays the chains.
use Rattle.std.proofs.Common.{◌≡◌, ◌⊎◌, inl, inr, ⊎_elim, ℕ, suc, ◌-◌, ◌<◌, ◌≤◌, List, length, get_or, refl, sym, ap, subst, ◌∙◌, arith}
use Rattle.std.proofs.lemmas.Bool.{cases_lt, cases_order}
use Rattle.std.specs.Prelude.{slice_index}
use Rattle.events.specs.Run.{at, Within, Store, Write, Update, SameLocation, FullRun}
use Rattle.events.specs.Graph.{Rf, PoRf}
use Rattle.events.specs.declared.event.Event.{Event}
use Rattle.events.specs.Relations.{Rel, ◌⁺, one, more}
use Rattle.toposort.specs.Listing.{Placed, Left, Turn, Ordered}
use Rattle.toposort.proofs.Laws.{every_node}
use Rattle.models.specs.Orders.{ListsStores}
use Rattle.verdicts.specs.Absent.{NoTwins}
use Rattle.verdicts.specs.Chains.{InChain}
use Rattle.verdicts.specs.Steps.{ChainStep}
use Rattle.verdicts.specs.Layings.{ChainReady, ChainTurn, LaysChains}
use Rattle.verdicts.proofs.Chains.{rf_path, write_store, store_update, writer_store, writer_location, source_store, chain_location, chain_ordered}
use Rattle.verdicts.proofs.Lists.{listing_once}
use Rattle.chains.specs.Numbers.{HeadsOf}
use Rattle.chains.proofs.Orders.{order_all, path_earlier}
use Rattle.chains.proofs.Members.{update_load, heads_along, chain_of}
use Rattle.laying.specs.Gathers.{Different, Listed, Earlier, Gathers}
use Rattle.models.specs.Orders.{Before}
use Rattle.laying.specs.Stores.{ByLocation}
use Rattle.laying.proofs.Laws.{before_itself, gathers_once}
use Rattle.verdicts.proofs.Lists.{place_once, before_once}
use Rattle.laying.proofs.StoreLists.{lists_stores}

-- in a listing of all nodes each stands somewhere
pub node_listed : (n : ℕ) (E : Rel) (l : List ℕ) → Ordered n E l → (v : ℕ) → (1 ≤ v) × (v ≤ n) → Listed l v
node_listed n E l o v node = let whole = o.whole in let (j, lt, e) = every_node n E l o v node in (j, omega arith, e)

-- a step between chains leads from a write to a write of its location
step_writes : (es : List Event) → FullRun es → (hb : Rel) (g h : ℕ) → ChainStep es hb g h → Write es g × Write es h × SameLocation es g h
step_writes es full hb g h (differs, (a, b, c, d, inl ((s, t, same, apart), k))) =
    (c.0, d.0, chain_location es full g a c ∙ (same ∙ sym (chain_location es full h b d)))
step_writes es full hb g h (differs, (a, b, c, d, inr (r, ((s, t, same, apart), k, f)))) =
    (c.0, d.0, chain_location es full g a c ∙ (same ∙ sym (chain_location es full h b d)))

module _ (es : List Event) (full : FullRun es) (single : NoTwins es) (hb : Rel)
    (order : List ℕ) (causal : Ordered (length es) (PoRf es) order) (heads : List ℕ) (headed : HeadsOf es heads)
    (l : List ℕ) (listing : Ordered (length es) (ChainStep es hb) l) (m : List ℕ) (members : Gathers (slice_index heads) order l m) where
  order_different : Different order
  order_different = listing_once (length es) (PoRf es) order causal

  listing_different : Different l
  listing_different = listing_once (length es) (ChainStep es hb) l listing

  pub members_once : Different m
  members_once = gathers_once (slice_index heads) order l order_different listing_different m members

  -- a store is in the chain of its head
  own_chain : (a : ℕ) → Store es a → InChain es (slice_index heads a) a
  own_chain a s = chain_of es heads headed full order causal (slice_index heads a) a s refl

  pub members_have : (w : ℕ) → Store es w → Listed m w
  members_have w s =
      members.all w (node_listed (length es) (PoRf es) order causal w (s.0))
      (node_listed (length es) (ChainStep es hb) l listing (slice_index heads w) ((own_chain w s).0.0))

  -- along reads-from the causal order rises
  path_precedes : (a b : ℕ) → Within es b → (Rf es ⁺) a b → Before order a b
  path_precedes a b w p =
      let whole = causal.whole in
      let (k, lt, e) = order_all es full order causal b w in
      let (j, less, f) = path_earlier es full order causal a b (rf_path es a b p) k lt e in
      (j, k, less, omega arith, f, e)

  precedes_earlier : (a b : ℕ) → Before m a b → Earlier (slice_index heads) order l a b
  precedes_earlier a b (i, j, less, lt, e, f) =
      subst (λ z. Earlier (slice_index heads) order l z b) e
      (subst (λ z. Earlier (slice_index heads) order l (get_or m i 0) z) f (members.sorted i j less lt))

  -- within a chain the members stand as in the causal order
  in_chain_order : (a b : ℕ) → slice_index heads a ≡ slice_index heads b → Before m a b → Before order a b
  in_chain_order a b same p =
      ⊎_elim (λ q. absurd (before_itself l listing_different _ _ same q)) (λ q. q.1) (precedes_earlier a b p)

  -- what stands between two members of one chain is of the chain
  between_heads : (a b c : ℕ) → slice_index heads a ≡ slice_index heads c → Before m a b → Before m b c →
      slice_index heads a ≡ slice_index heads b
  between_heads a b c same p q =
      ⊎_elim
      (λ first. ⊎_elim
      (λ second. absurd (before_once l listing_different _ _ first (subst (λ z. Before l (slice_index heads b) z) (sym same) second)))
      (λ second. same ∙ sym second.0)
      (precedes_earlier b c q))
      (λ first. first.0)
      (precedes_earlier a b p)

  -- no store of a chain stands between a writer and the update that reads from it
  none_between : (w u c : ℕ) → Rf es w u → Update es u → Store es c → Before m w c → ¬ Before m c u
  none_between w u c f is s p q =
      cases (chain_ordered es full single (slice_index heads c) w c (chain w (writer_store es full w u f) here) (chain c s refl))
    where
      together : slice_index heads u ≡ slice_index heads w
      together = heads_along es heads headed w u (one f)

      here : slice_index heads w ≡ slice_index heads c
      here = between_heads w c u (sym together) p q

      chain : (a : ℕ) → Store es a → slice_index heads a ≡ slice_index heads c → InChain es (slice_index heads c) a
      chain a t e = chain_of es heads headed full order causal (slice_index heads c) a t e

      first : Before order w c
      first = in_chain_order w c here p

      second : Before order c u
      second = in_chain_order c u (sym here ∙ sym together) q

      after : (Rf es ⁺) w c → ⊥
      after (one k) = before_itself order order_different c u (single c u w (store_update es c s (k.0)) is k f) second
      after (more {b = y} k r) =
          let same : y ≡ u = single y u w (store_update es y (source_store es full y c r) (k.0)) is k f in
          before_once order order_different c u second (path_precedes u c (s.0) (subst (λ z. (Rf es ⁺) z c) same r))

      cases : (w ≡ c) ⊎ ((Rf es ⁺) w c ⊎ (Rf es ⁺) c w) → ⊥
      cases (inl e) = before_itself order order_different w c e first
      cases (inr (inl r)) = after r
      cases (inr (inr r)) = before_once order order_different w c first (path_precedes c w ((writer_store es full w u f).0) r)

  module _ (o : List ℕ) (by : ByLocation es m o) where
    lists : ListsStores es o
    lists = lists_stores es m members_once members_have o by

    -- the writer of an update stands before it
    writer_first : (i j w : ℕ) → i < length o → j < length o → get_or o j 0 ≡ w → Rf es w (get_or o i 0) → j < i
    writer_first i j w h k e f =
        ⊎_elim
        (λ same. absurd (before_itself order order_different w (get_or o i 0) (sym e ∙ ap (λ z. get_or o z 0) (sym same)) rising))
        (⊎_elim
        (λ less.
        let p = by.along i j less k (sym (rw e (writer_location es full w _ f))) in
        absurd (before_once order order_different _ _ rising
        (in_chain_order (get_or o i 0) w (heads_along es heads headed _ _ (one f)) (subst (λ z. Before m (get_or o i 0) z) e p))))
        (λ less. less))
        (cases_order i j)
      where
        rising : Before order w (get_or o i 0)
        rising = path_precedes w (get_or o i 0) (f.0.0) (one f)

    -- nothing stands between the two
    no_gap : (i j w : ℕ) → i < length o → Update es (get_or o i 0) → get_or o j 0 ≡ w → Rf es w (get_or o i 0) → ¬ (suc j < i)
    no_gap i j w h is e f gap =
        let same : SameLocation es (get_or o j 0) (get_or o i 0) =
        subst (λ z. SameLocation es z (get_or o i 0)) (sym e) (writer_location es full w (get_or o i 0) f) in
        let up = lists.rising j (i - 1) (omega arith) (omega arith) in
        let down = lists.rising (i - 1) i (omega arith) h in
        none_between w (get_or o i 0) (get_or o (i - 1) 0) f is (lists.stores (i - 1) (omega arith))
        (subst (λ z. Before m z (get_or o (i - 1) 0)) e (by.along j (i - 1) (omega arith) (omega arith) (omega arith)))
        (by.along (i - 1) i (omega arith) h (omega arith))

    whole : (i : ℕ) → i < length o → Update es (get_or o i 0) → (0 < i) × Rf es (get_or o (i - 1) 0) (get_or o i 0)
    whole i h is =
        let f : Rf es (at es (get_or o i 0)).writer (get_or o i 0) = (update_load es (get_or o i 0) is, refl) in
        let (j, lt, e) = lists.all _ (writer_store es full _ (get_or o i 0) f) in
        let less = writer_first i j _ h lt e f in
        let next : i - 1 ≡ j = ⊎_elim (λ gap. absurd (no_gap i j _ h is e f gap)) (λ near. omega arith) (cases_lt (suc j) i) in (
          omega arith,
          subst (λ z. Rf es (get_or o z 0) (get_or o i 0)) (sym next) (subst (λ z. Rf es z (get_or o i 0)) (sym e) f),
        )

    -- of two heads of one location that which stands first in o does so in the listing
    head_first : (i j : ℕ) → i < j → j < length o → Write es (get_or o i 0) → Write es (get_or o j 0) →
        SameLocation es (get_or o i 0) (get_or o j 0) → Before l (get_or o i 0) (get_or o j 0)
    head_first i j less h a b same =
        let e : slice_index heads (get_or o i 0) ≡ get_or o i 0 = (headed _).write a in
        let d : slice_index heads (get_or o j 0) ≡ get_or o j 0 = (headed _).write b in
        ⊎_elim
        (λ p. subst (λ z. Before l z (get_or o j 0)) e (subst (λ z. Before l (slice_index heads (get_or o i 0)) z) d p))
        (λ p. absurd (lists.once i j less h (sym e ∙ (p.0 ∙ d))))
        (precedes_earlier _ _ (by.along i j less h same))

    placed_first : (g i : ℕ) → i < length o → Write es g → Write es (get_or o i 0) → SameLocation es g (get_or o i 0) →
        Placed o i g → Before l g (get_or o i 0)
    placed_first g i h a b same (j, less, e) =
        subst (λ z. Before l z (get_or o i 0)) e
        (head_first j i less h (subst (λ z. Write es z) (sym e) a) b (subst (λ z. SameLocation es z (get_or o i 0)) (sym e) same))

    -- and the other way round
    first_placed : (g i : ℕ) → i < length o → Write es g → Write es (get_or o i 0) → SameLocation es g (get_or o i 0) →
        Before l g (get_or o i 0) → Placed o i g
    first_placed g i h a b same p =
        let (j, k, e) = lists.all g (write_store es g a) in (
          j,
          ⊎_elim (λ here. absurd (before_itself l listing_different _ _ (sym e ∙ ap (λ z. get_or o z 0) here) p))
              (⊎_elim (λ less. less)
              (λ less.
              absurd (before_once l listing_different _ _ p
              (subst (λ z. Before l (get_or o i 0) z) e
              (head_first i j less k b (subst (λ z. Write es z) (sym e) a) (sym (subst (λ z. SameLocation es z (get_or o i 0)) (sym e) same)))))))
              (cases_order j i),
          e,
        )

    module _ (i : ℕ) (h : i < length o) (is : Write es (get_or o i 0)) where
      here : Listed l (get_or o i 0)
      here = node_listed (length es) (ChainStep es hb) l listing (get_or o i 0) (is.0)

      its_turn : Turn (length es) (ChainStep es hb) l (here.0) (get_or o i 0)
      its_turn =
          let lt = here.1 in
          let size = listing.whole in
          subst (λ z. Turn (length es) (ChainStep es hb) l (here.0) z) (here.2) (listing.turns (here.0) (omega arith))

      to_precedes : (g : ℕ) → Placed l (here.0) g → Before l g (get_or o i 0)
      to_precedes g (p, less, e) = (p, here.0, less, here.1, e, here.2)

      to_placed : (g : ℕ) → Before l g (get_or o i 0) → Placed l (here.0) g
      to_placed g (p, q, less, lt, e, f) =
          let same = place_once l listing_different q (here.0) lt (here.1) (f ∙ sym here.2) in (p, omega arith, e)

      -- a head that is not laid is left at the turn of this one
      left : (g : ℕ) → Write es g → SameLocation es g (get_or o i 0) → ¬ Placed o i g → Left (length es) l (here.0) g
      left g a same unlaid = (a.0, λ placed. unlaid (first_placed g i h a is same (to_precedes g placed)))

      free : (g : ℕ) → Write es g → ¬ Placed o i g → ¬ ChainStep es hb g (get_or o i 0)
      free g a unlaid s = let (_, _, same) = step_writes es full hb g _ s in its_turn.ready.1 g (left g a same unlaid) s

      lowest : (g : ℕ) → g < get_or o i 0 → SameLocation es g (get_or o i 0) → ¬ ChainReady es hb o i g
      lowest g less same r =
          its_turn.lowest g less (
            left g (r.head) same (r.unlaid),
            λ u out s.
                let (a, _, near) = step_writes es full hb u g s in
                r.free u a (λ placed. out.1 (to_placed u (placed_first u i h a is (near ∙ same) placed))) s,
          )

      turn : ChainTurn es hb o i (get_or o i 0)
      turn =
          record {
            ready = record { head = is; unlaid = λ (j, less, e). lists.once j i less h e; free = free };
            lowest = lowest;
          }

    pub lays_chains : LaysChains es hb o
    lays_chains = record { lists = lists; whole = whole; turns = turn }
