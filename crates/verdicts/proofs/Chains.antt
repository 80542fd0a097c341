-- Chains: every store in one has one head, and of two stores in one chain one comes before the other.
use Rattle.std.proofs.Common.{◌≡◌, ◌⊎◌, inl, inr, ⊎_elim, ℕ, List, refl, sym, subst, ◌∙◌, arith}
use Rattle.events.specs.Run.{Load, Store, Write, Update, SameLocation, FullRun}
use Rattle.events.specs.Graph.{Rf, PoRf}
use Rattle.events.specs.declared.event.Event.{Event}
use Rattle.events.specs.Relations.{◌⁺, one, more}
use Rattle.events.specs.Paths.{path_join, path_through, path_last}
use Rattle.verdicts.specs.Chains.{InChain, SameChain}
use Rattle.verdicts.specs.Absent.{NoTwins}

module _ (es : List Event) where
  pub rf_once : (v w r : ℕ) → Rf es v r → Rf es w r → v ≡ w
  rf_once v w r f g = sym (f.1) ∙ g.1

  pub write_reads_nothing : (w g : ℕ) → Write es g → ¬ Rf es w g
  write_reads_nothing w g is f = grind arith

  pub rf_path : (a b : ℕ) → (Rf es ⁺) a b → (PoRf es ⁺) a b
  rf_path a b p = path_through (λ u v f. one (inr f)) p

  -- a store that loads is an update, and any other is a write
  pub store_update : (u : ℕ) → Store es u → Load es u → Update es u
  store_update u s l = grind arith

  pub write_or_update : (a : ℕ) → Store es a → Write es a ⊎ Update es a
  write_or_update a s = grind arith

  pub write_store : (a : ℕ) → Write es a → Store es a
  write_store a w = grind arith

  pub update_store : (a : ℕ) → Update es a → Store es a
  update_store a u = grind arith

  -- of two events from which a walk comes to a, one comes before the other
  comparable_before : (x h a : ℕ) → (Rf es ⁺) x a → (Rf es ⁺) h a → (x ≡ h) ⊎ ((Rf es ⁺) x h ⊎ (Rf es ⁺) h x)
  comparable_before x h a (one f) q =
      let (y, l) = path_last q in
      let same = rf_once y x a (l.1) f in
      ⊎_elim (λ e. inl (sym (e ∙ same))) (λ t. inr (inr (subst (λ z. (Rf es ⁺) h z) same t))) (l.0)
  comparable_before x h a (more {b = z} f p) q =
      ⊎_elim (λ e. inr (inl (subst (λ y. (Rf es ⁺) x y) e (one f))))
      (⊎_elim (λ t. inr (inl (more f t)))
      (λ t.
      let (y, l) = path_last t in
      let same = rf_once y x z (l.1) f in
      ⊎_elim (λ e. inl (sym (e ∙ same))) (λ t₂. inr (inr (subst (λ k. (Rf es ⁺) h k) same t₂))) (l.0)))
      (comparable_before z h a p q)

  -- no walk comes to a write
  pub write_is_first : (x g : ℕ) → Write es g → ¬ (Rf es ⁺) x g
  write_is_first x g is p = let (y, l) = path_last p in write_reads_nothing y g is (l.1)

  pub head_once : (g h a : ℕ) → InChain es g a → InChain es h a → g ≡ h
  head_once g h a (wg, inl e, s) (wh, inl f, t) = e ∙ sym f
  head_once g h a (wg, inl e, s) (wh, inr q, t) = absurd (write_is_first h g wg (subst (λ z. (Rf es ⁺) h z) (sym e) q))
  head_once g h a (wg, inr p, s) (wh, inl f, t) = absurd (write_is_first g h wh (subst (λ z. (Rf es ⁺) g z) (sym f) p))
  head_once g h a (wg, inr p, s) (wh, inr q, t) =
      ⊎_elim (λ e. e) (⊎_elim (λ r. absurd (write_is_first g h wh r)) (λ r. absurd (write_is_first h g wg r))) (comparable_before g h a p q)

  pub turned : (a b : ℕ) → SameChain es a b → SameChain es b a
  turned a b (g, p, q) = (g, q, p)

  -- an update is in the chain of its writer
  pub chain_more : (g w u : ℕ) → InChain es g w → Rf es w u → Store es u → InChain es g u
  chain_more g w u (is, p, s) f t =
      (is, inr (⊎_elim (λ e. subst (λ z. (Rf es ⁺) z u) (sym e) (one f)) (λ q. path_join q (one f)) p), t)

  module _ (full : FullRun es) where
    pub writer_store : (w r : ℕ) → Rf es w r → Store es w
    writer_store w r f = let fits = (full.linked r (f.0.0)).reads (f.0.1) in subst (λ z. Store es z) (f.1) (fits.store)

    pub writer_location : (w r : ℕ) → Rf es w r → SameLocation es w r
    writer_location w r f = let fits = (full.linked r (f.0.0)).reads (f.0.1) in subst (λ z. SameLocation es z r) (f.1) (fits.same)

    path_location : (a b : ℕ) → (Rf es ⁺) a b → SameLocation es a b
    path_location a b (one f) = writer_location a b f
    path_location a b (more {b = x} f p) = writer_location a x f ∙ path_location x b p

    pub chain_location : (g a : ℕ) → InChain es g a → SameLocation es g a
    chain_location g a (is, inl e, s) = subst (λ z. SameLocation es g z) e refl
    chain_location g a (is, inr p, s) = path_location g a p

    -- every store on a path of reads-from to a store is in the chain
    pub source_store : (a b : ℕ) → (Rf es ⁺) a b → Store es a
    source_store a b (one f) = writer_store a b f
    source_store a b (more {b = x} f p) = writer_store a x f

    module _ (single : NoTwins es) where
      reads_once : (w u v : ℕ) → Rf es w u → Rf es w v → Store es u → Store es v → u ≡ v
      reads_once w u v f k s t = single u v w (store_update u s (f.0)) (store_update v t (k.0)) f k

      comparable_after : (g a b : ℕ) → (Rf es ⁺) g a → (Rf es ⁺) g b → Store es a → Store es b → (a ≡ b) ⊎ ((Rf es ⁺) a b ⊎ (Rf es ⁺) b a)
      comparable_after g a b (one f) (one k) s t = inl (reads_once g a b f k s t)
      comparable_after g a b (one f) (more {b = y} k q) s t =
          inr (inl (subst (λ z. (Rf es ⁺) z b) (sym (reads_once g a y f k s (source_store y b q))) q))
      comparable_after g a b (more {b = x} f p) (one k) s t =
          inr (inr (subst (λ z. (Rf es ⁺) z a) (sym (reads_once g b x k f t (source_store x a p))) p))
      comparable_after g a b (more {b = x} f p) (more {b = y} k q) s t =
          let same = reads_once g x y f k (source_store x a p) (source_store y b q) in
          comparable_after x a b p (subst (λ z. (Rf es ⁺) z b) (sym same) q) s t

      -- of two stores in one chain one comes before the other
      pub chain_ordered : (g a b : ℕ) → InChain es g a → InChain es g b → (a ≡ b) ⊎ ((Rf es ⁺) a b ⊎ (Rf es ⁺) b a)
      chain_ordered g a b (is, inl e, s) (is₂, inl f, t) = inl (sym e ∙ f)
      chain_ordered g a b (is, inl e, s) (is₂, inr q, t) = inr (inl (subst (λ z. (Rf es ⁺) z b) e q))
      chain_ordered g a b (is, inr p, s) (is₂, inl f, t) = inr (inr (subst (λ z. (Rf es ⁺) z a) f p))
      chain_ordered g a b (is, inr p, s) (is₂, inr q, t) = comparable_after g a b p q s t
