-- The heads that are kept are those of the chains.
use Rattle.std.proofs.Common.{◌≡◌, ◌⊎◌, inl, inr, ⊎_elim, ℕ, Bool, true, false, zero, suc, ◌<◌, ◌≤◌, List, length, get_or, refl, sym, subst, ◌∙◌, arith}
use Rattle.std.proofs.lemmas.Bool.{cases_lt, false≢true}
use Rattle.events.specs.Run.{at, Within, Load, Store, Write, Update, FullRun}
use Rattle.events.specs.Events.{is_load, is_store}
use Rattle.events.specs.Graph.{Rf, PoRf}
use Rattle.events.specs.declared.event.Kind.{Kind}
use Rattle.events.specs.declared.event.Kind.TheVariants as kind
use Rattle.events.specs.declared.event.Event.{Event}
use Rattle.events.specs.Relations.{◌⁺, one, more}
use Rattle.toposort.specs.Listing.{Ordered}
use Rattle.events.proofs.Numbers.{load_within, store_within}
use Rattle.verdicts.specs.Chains.{InChain}
use Rattle.verdicts.proofs.Chains.{write_store, chain_more, writer_store}
use Rattle.chains.specs.Ends.{Member}
use Rattle.chains.specs.Numbers.{HeadsOf}
use Rattle.chains.specs.Lift.{Kept, KeptFor}
use Rattle.chains.proofs.Orders.{order_all, path_earlier}

-- a load, a store, or neither
kinds : (k : Kind) → (k ≡ kind.Write) ⊎ ((is_load k ≡ true) ⊎ ((is_load k ≡ false) × (is_store k ≡ false)))
kinds kind.Read = inr (inl refl)
kinds kind.Write = inl refl
kinds kind.Update = inr (inl refl)
kinds kind.Fence = inr (inr (refl, refl))

module _ (es : List Event) where
  bool_cases : (b : Bool) → (b ≡ true) ⊎ (b ≡ false)
  bool_cases true = inl refl
  bool_cases false = inr refl

  pub store_or_not : (x : ℕ) → Store es x ⊎ ¬ Store es x
  store_or_not x =
      ⊎_elim (λ t. inl (store_within es x t, t)) (λ f. inr (λ s. false≢true (sym f ∙ s.1))) (bool_cases (is_store (at es x).kind))

  pub load_or_not : (x : ℕ) → Load es x ⊎ ¬ Load es x
  load_or_not x =
      ⊎_elim (λ t. inl (load_within es x t, t)) (λ f. inr (λ l. false≢true (sym f ∙ l.1))) (bool_cases (is_load (at es x).kind))

  pub update_load : (u : ℕ) → Update es u → Load es u
  update_load u is = grind arith

module _ (es : List Event) (heads : List ℕ) (is : HeadsOf es heads) where
  pub heads_along : (a b : ℕ) → (Rf es ⁺) a b → get_or heads b 0 ≡ get_or heads a 0
  heads_along a b (one f) = (is b).load a f
  heads_along a b (more {b = x} f p) = heads_along x b p ∙ (is x).load a f

  chain_head : (g a : ℕ) → InChain es g a → get_or heads a 0 ≡ g
  chain_head g a (w, inl e, s) = subst (λ z. get_or heads z 0 ≡ g) e ((is g).write w)
  chain_head g a (w, inr p, s) = heads_along g a p ∙ (is g).write w

  pub member_head : (g x : ℕ) → Member es g x → Kept heads g x
  member_head g x (s, c, inl e) = (subst (λ z. get_or heads z 0 ≡ g) e (chain_head g s c), c.0.0.0)
  member_head g x (s, c, inr f) = ((is x).load s f ∙ chain_head g s c, c.0.0.0)

  member_chain : (g a : ℕ) → Store es a → Member es g a → InChain es g a
  member_chain g a st (s, c, inl e) = subst (λ z. InChain es g z) e c
  member_chain g a st (s, c, inr f) = chain_more es g s a c f st

  module _ (full : FullRun es) (order : List ℕ) (ordered : Ordered (length es) (PoRf es) order) where
    -- every load and every store has its head, by its place in the causal order
    by_place : (n k : ℕ) → k < n → n ≤ length es → (x : ℕ) → get_or order k 0 ≡ x → Within es x → Load es x ⊎ Store es x → Member es (get_or heads x 0) x
    by_place zero k lt le x e w a = absurd (omega arith)
    by_place (suc n) k lt le x e w a =
        ⊎_elim (λ t. let write : Write es x = (w, t) in
        let same = (is x).write write in
        subst (λ z. Member es z x) (sym same) (x, (write, inl refl, write_store es x write), inl refl))
        (⊎_elim
        (λ t. from_writer (λ j less v g s. by_place n j (omega arith) (omega arith) v g (s.0) (inr s)) (at es x).writer ((w, t), refl))
        (λ t. absurd (neither t a)))
        (kinds (at es x).kind)
      where
        neither : (is_load (at es x).kind ≡ false) × (is_store (at es x).kind ≡ false) → ¬ (Load es x ⊎ Store es x)
        neither (l, t) = ⊎_elim (λ m. false≢true (sym l ∙ m.1)) (λ m. false≢true (sym t ∙ m.1))

        from_writer : ((j : ℕ) → j < k → (v : ℕ) → get_or order j 0 ≡ v → Store es v → Member es (get_or heads v 0) v) → (v : ℕ) → Rf es v x → Member es (get_or heads x 0) x
        from_writer earlier v f =
            let (j, less, g) = path_earlier es full order ordered v x (one (inr f)) k (omega arith) e in
            let s = writer_store es full v x f in
            let before = earlier j less v g s in
            subst (λ z. Member es z x) (sym ((is x).load v f)) (v, member_chain (get_or heads v 0) v s before, inr f)

    pub member_of : (x : ℕ) → Load es x ⊎ Store es x → Member es (get_or heads x 0) x
    member_of x a =
        let w : Within es x = ⊎_elim (λ l. l.0) (λ s. s.0) a in
        let (k, lt, e) = order_all es full order ordered x w in
        by_place (length es) k lt (omega arith) x e w a

    -- a store is in the chain of the head that is kept for it
    pub chain_of : (g a : ℕ) → Store es a → get_or heads a 0 ≡ g → InChain es g a
    chain_of g a s e = subst (λ z. InChain es z a) e (member_chain (get_or heads a 0) a s (member_of a (inr s)))

    -- what has a head is a load or a store
    has_head : (x : ℕ) → 1 ≤ get_or heads x 0 → Load es x ⊎ Store es x
    has_head x some =
        ⊎_elim (λ low. absurd (none (λ w. let l = w.0 in omega arith)))
        (λ low. ⊎_elim (λ high. absurd (none (λ w. let l = w.1 in omega arith))) (λ high. inside (low, high)) (cases_lt (length es) x))
        (cases_lt x 1)
      where
        none : ¬ ¬ Within es x
        none out = let zero = (is x).other (λ w. out (w.0)) (λ l. out (l.0)) in omega arith

        inside : Within es x → Load es x ⊎ Store es x
        inside w =
            ⊎_elim (λ t. inr (write_store es x (w, t)))
            (⊎_elim (λ t. inl (w, t))
            (λ (l, t).
            let zero = (is x).other (λ m. false≢true (sym t ∙ (write_store es x m).1)) (λ m. false≢true (sym l ∙ m.1)) in
            absurd (omega arith)))
            (kinds (at es x).kind)

    pub head_member : (g x : ℕ) → Kept heads g x → Member es g x
    head_member g x (e, some) = subst (λ z. Member es z x) e (member_of x (has_head x (omega arith)))

    pub heads_kept : KeptFor es heads
    heads_kept =
        record {
          high = λ x.
              ⊎_elim (λ none. omega arith)
              (λ some. let m = member_of x (has_head x some) in let high = m.1.0.0.1 in let few = full.few in omega arith)
              (cases_lt (get_or heads x 0) 1);
          inside = λ x some. ⊎_elim (λ l. l.0) (λ s. s.0) (has_head x some);
        }
