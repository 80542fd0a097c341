-- Steps between stores, and happens-before lifted to them.
use Rattle.std.proofs.Common.{◌≡◌, ◌≢◌, ◌↔◌, IsTrue, Bool, false, Option, Some, None, MatchOption, ◌⊎◌, inl, inr, ⊎_elim, ℕ, ◌<◌, List, length, get_or, refl, sym, subst, ◌∙◌, arith}
use Rattle.std.proofs.lemmas.Bool.{false≢true}
use Rattle.events.specs.Run.{at, Within, Store, Write, Update, SameLocation, FullRun}
use Rattle.events.specs.Graph.{Rf, PoRf}
use Rattle.events.specs.declared.event.Event.{Event}
use Rattle.events.specs.Relations.{Rel, ◌⁺, ◌？, one, more, Acyclic}
use Rattle.events.specs.Lowest.{IsLowestPair}
use Rattle.events.specs.Paths.{path_join}
use Rattle.toposort.specs.Listing.{Ordered}
use Rattle.models.specs.Models.{AtOneLocation}
use Rattle.models.proofs.Walks.{rf_below}
use Rattle.verdicts.specs.Absent.{NoTwins, NoBack}
use Rattle.verdicts.specs.Chains.{InChain, BeforeInChain}
use Rattle.verdicts.specs.Steps.{TwoStores, ReadStep, ReadSteps, StoreStep, ChainStep}
use Rattle.verdicts.specs.Violations.{Leads, StepHolds, IsBeforeOrRead, StepsBack}
use Rattle.verdicts.specs.declared.step.Step.{Step}
use Rattle.verdicts.specs.declared.step.Sort.{Sort}
use Rattle.verdicts.specs.declared.step.Sort.TheVariants as sort
use Rattle.verdicts.proofs.Chains.{rf_once, write_reads_nothing, head_once, chain_more, chain_ordered, write_store, writer_store, writer_location, rf_path, write_or_update}
use Rattle.chains.specs.Ends.{Top, Bottom, EndsAs, StepFor, LowestStep, Crosses, LeadsBack, LeadsBackFrom}
use Rattle.chains.specs.Lift.{Kept, KeptFor, LiftsBy, Lifts}
use Rattle.chains.specs.Numbers.{HeadsOf, PlacesIn, StoreNumbers, WriterNumbers}
use Rattle.chains.proofs.Lifts.{lowest_pair_same}
use Rattle.chains.proofs.Orders.{place_rises}
use Rattle.chains.proofs.Members.{store_or_not, load_or_not, update_load, heads_along, member_head, chain_of, head_member}

module _ (es : List Event) (full : FullRun es) where
  -- an event shares its location with what it is an optional reads-from away from
  optional_location : (a x : ℕ) → (Rf es ？) a x → SameLocation es a x
  optional_location a x (inl e) = subst (λ z. SameLocation es a z) e refl
  optional_location a x (inr f) = writer_location es full a x f

  top_store : (a x : ℕ) → Top es a x → Store es a
  top_store a x (inl (e, s)) = subst (λ z. Store es z) (sym e) s
  top_store a x (inr (f, n)) = writer_store es full a x f

  top_optional : (a x : ℕ) → Top es a x → (Rf es ？) a x
  top_optional a x (inl (e, s)) = inl e
  top_optional a x (inr (f, n)) = inr f

  pub between_bottom : (x y : ℕ) (s : Step) → StepFor es x y s → Bottom es s.to y
  between_bottom x y s b = ⊎_elim (λ (f, _). inl f) (λ (e, w, _). inr (e, w)) (b.to)

  -- if x is a store then itself, and else what it reads from
  pub top_there : (a x : ℕ) → Store es a → (Rf es ？) a x → (t : ℕ) × Top es t x × ((a ≡ t) ⊎ (Rf es ⁺) a t)
  top_there a x s k = ⊎_elim (λ st. (x, inl (refl, st), ⊎_elim (λ e. inl e) (λ f. inr (one f)) k)) (λ isnt. (a, ⊎_elim (λ e. absurd (isnt (subst (λ z. Store es z) e s))) (λ f. inr (f, isnt)) k, inl refl)) (store_or_not es x)

  -- the step between two stores that one event before another comes to
  pub between_holds : (hb : Rel) (x y : ℕ) (s : Step) → AtOneLocation es hb x y → StepFor es x y s → s.from ≢ s.to → StepHolds IsBeforeOrRead es hb s
  between_holds hb x y s (h, at) b differs =
      ⊎_elim
      (λ (f, e).
      let two : TwoStores es s.from s.to = (top_store s.from x (b.from), writer_store es full s.to y f, optional_location s.from x (top_optional s.from x (b.from)) ∙ (at ∙ sym (writer_location es full s.to y f)), differs) in
      (inr (y, e), subst (λ z. Leads es hb z s.from s.to) (sym e) (two, (x, top_optional s.from x (b.from), h), f)))
      (λ (same, w, e).
      let two : TwoStores es s.from s.to = (top_store s.from x (b.from), subst (λ z. Store es z) (sym same) (write_store es y w), optional_location s.from x (top_optional s.from x (b.from)) ∙ subst (λ z. SameLocation es x z) (sym same) at, differs) in
      (inl e, subst (λ z. Leads es hb z s.from s.to) (sym e) (two, (x, top_optional s.from x (b.from), inr (subst (λ z. hb x z) (sym same) h)))))
      (b.to)

  -- the two stores are told by the two events
  pub between_once : (x y : ℕ) (s t : Step) → StepFor es x y s → StepFor es x y t → (s.from ≡ t.from) × (s.to ≡ t.to)
  between_once x y s t b c = (top_once s.from t.from (b.from) (c.from), end_once s.sort t.sort s.to t.to (b.to) (c.to))
    where
      top_once : (a d : ℕ) → Top es a x → Top es d x → a ≡ d
      top_once a d (inl (e, _)) (inl (f, _)) = e ∙ sym f
      top_once a d (inl (e, st)) (inr (f, isnt)) = absurd (isnt st)
      top_once a d (inr (f, isnt)) (inl (e, st)) = absurd (isnt st)
      top_once a d (inr (f, _)) (inr (k, _)) = rf_once es a d x f k

      end_once : (k m : Sort) (a d : ℕ) → EndsAs es k a y → EndsAs es m d y → a ≡ d
      end_once k m a d (inl (f, _)) (inl (h, _)) = rf_once es a d y f h
      end_once k m a d (inl (f, _)) (inr (e, w, _)) = absurd (write_reads_nothing es a y w f)
      end_once k m a d (inr (e, w, _)) (inl (f, _)) = absurd (write_reads_nothing es d y w f)
      end_once k m a d (inr (e, _, _)) (inr (f, _, _)) = e ∙ sym f

  module _ (heads : List ℕ) (is : HeadsOf es heads) where
    top_head : (a x : ℕ) → Top es a x → get_or heads x 0 ≡ get_or heads a 0
    top_head a x (inl (e, s)) = subst (λ z. get_or heads x 0 ≡ get_or heads z 0) (sym e) refl
    top_head a x (inr (f, n)) = (is x).load a f

    end_head : (s : Step) (y : ℕ) → EndsAs es s.sort s.to y → get_or heads y 0 ≡ get_or heads s.to 0
    end_head s y (inl (f, e)) = (is y).load s.to f
    end_head s y (inr (same, w, e)) = subst (λ z. get_or heads y 0 ≡ get_or heads z 0) (sym same) refl

    end_store : (s : Step) (y : ℕ) → EndsAs es s.sort s.to y → Store es s.to
    end_store s y (inl (f, e)) = writer_store es full s.to y f
    end_store s y (inr (same, w, e)) = subst (λ z. Store es z) (sym same) (write_store es y w)

    module _ (order : List ℕ) (ordered : Ordered (length es) (PoRf es) order) where
      -- the chains that the step leads between
      pub between_chains : (g h x y : ℕ) (s : Step) → Kept heads g x → Kept heads h y → StepFor es x y s → InChain es g s.from × InChain es h s.to
      between_chains g h x y s (e, _) (f, _) b = (
        chain_of es heads is full order ordered g s.from (top_store s.from x (b.from)) (sym (top_head s.from x (b.from)) ∙ e),
        chain_of es heads is full order ordered h s.to (end_store s y (b.to)) (sym (end_head s y (b.to)) ∙ f),
      )

      lifted : (hb : Rel) (g h x y : ℕ) → AtOneLocation es hb x y → Kept heads g x → Kept heads h y → g ≢ h → ChainStep es hb g h
      lifted hb g h x y (l, at) p q differs =
          let (a, c, k) = head_member es heads is full order ordered g x p in
          let (b, d, m) = head_member es heads is full order ordered h y q in
          let two : TwoStores es a b = (c.2, d.2, optional_location a x k ∙ (at ∙ sym (optional_location b y m)), λ e. differs (head_once es g h b (subst (λ z. InChain es g z) e c) d)) in
          (differs, (a, b, c, d, ⊎_elim (λ e. inl (two, (x, k, inr (subst (λ z. hb x z) (sym e) l)))) (λ f. inr (y, (two, (x, k, l), f))) m))

      lift_crosses : (hb : Rel) (g h x y : ℕ) → LiftsBy es hb heads heads x y g h → Crosses es hb g h x y
      lift_crosses hb g h x y (l, p, q, differs) = (l, head_member es heads is full order ordered g x p, head_member es heads is full order ordered h y q)

      crosses_lift : (hb : Rel) (g h x y : ℕ) → g ≢ h → Crosses es hb g h x y → LiftsBy es hb heads heads x y g h
      crosses_lift hb g h x y differs (l, m, n) = (l, member_head es heads is g x m, member_head es heads is h y n, differs)

      -- both ends are there, and the step is one from the first chain to the second
      pub step_found : (hb : Rel) (g h x y : ℕ) → IsLowestPair (λ v w. LiftsBy es hb heads heads v w g h) x y → (r : Option Step) → MatchOption r ((a b : ℕ) → Top es a x → ¬ Bottom es b y) (λ s. StepFor es x y s) →
          MatchOption r (¬ ChainStep es hb g h) (λ s. (g ≢ h) × LowestStep es (Crosses es hb g h) s × StepHolds IsBeforeOrRead es hb s × InChain es g s.from × InChain es h s.to)
      step_found hb g h x y low None no_ends =
          let (l, p, q, differs) = low.second.is in
          let (a, c, k) = head_member es heads is full order ordered g x p in
          let (b, d, m) = head_member es heads is full order ordered h y q in
          let (t, top, _) = top_there a x (c.2) k in
          absurd (⊎_elim
          (λ e. ⊎_elim (λ w. no_ends t b top (inr (e, subst (λ z. Write es z) e w))) (λ up. no_ends t (at es y).writer top (inl (update_load es y (subst (λ z. Update es z) e up), refl))) (write_or_update es b (d.2)))
          (λ f. no_ends t b top (inl f))
          m)
      step_found hb g h x y low (Some s) b =
          let (l, p, q, differs) = low.second.is in
          let (c, d) = between_chains g h x y s p q b in
          (differs, (x, y, lowest_pair_same _ (Crosses es hb g h) (lift_crosses hb g h) (λ v w. crosses_lift hb g h v w differs) x y low, b), between_holds hb x y s l b (λ e. differs (head_once es g h s.to (subst (λ z. InChain es g z) e c) d)), c, d)

      pub lifts_chain_step : (hb : Rel) (g h : ℕ) → Lifts es hb heads heads g h → ChainStep es hb g h
      lifts_chain_step hb g h (x, (y, (l, p, q, differs))) = lifted hb g h x y l p q differs

      lowered : (hb : Rel) (g h a b : ℕ) → InChain es g a → InChain es h b → g ≢ h → StoreStep es hb a b → Lifts es hb heads heads g h
      lowered hb g h a b c d differs (inl ((s, t, at, apart), (x, k, inl e))) =
          absurd (⊎_elim (λ f. apart (f ∙ e)) (λ f. differs (head_once es g h b (chain_more es g a b c (subst (λ z. Rf es a z) e f) t) d)) k)
      lowered hb g h a b c d differs (inl ((s, t, at, apart), (x, k, inr l))) =
          (x, (b, ((l, sym (optional_location a x k) ∙ at), member_head es heads is g x (a, c, k), member_head es heads is h b (b, d, inl refl), differs)))
      lowered hb g h a b c d differs (inr (r, ((s, t, at, apart), (x, k, l), f))) =
          (x, (r, ((l, sym (optional_location a x k) ∙ (at ∙ writer_location es full b r f)), member_head es heads is g x (a, c, k), member_head es heads is h r (b, d, inr f), differs)))

      pub chain_step_lifts : (hb : Rel) (g h : ℕ) → ChainStep es hb g h → Lifts es hb heads heads g h
      chain_step_lifts hb g h (differs, (a, b, c, d, s)) = lowered hb g h a b c d differs s

      -- back in a chain
      module _ (places : List ℕ) (placed : PlacesIn (length es) order places) where
        pub back_places : (a b : ℕ) → BeforeInChain es b a → (get_or heads a 0 ≡ get_or heads b 0) × (get_or places b 0 < get_or places a 0)
        back_places a b (p, s) = (heads_along es heads is b a p, place_rises es full order ordered places placed b a (s.0) (rf_path es b a p))

        -- no step back, where the one that there is leads to another chain or forward
        pub none_back : (hb : Rel) (x y : ℕ) (s : Step) → StepFor es x y s → (get_or heads s.from 0 ≡ get_or heads s.to 0 → ¬ (get_or places s.to 0 < get_or places s.from 0)) → ¬ LeadsBack es hb x y
        none_back hb x y s b not_back (t, (l, c, back)) =
            let (e, f) = between_once x y s t b c in
            let (g, p) = back_places t.from t.to back in
            not_back (subst (λ z. get_or heads z 0 ≡ get_or heads s.to 0) (sym e) (subst (λ z. get_or heads t.from 0 ≡ get_or heads z 0) (sym f) g))
            (subst (λ z. get_or places s.to 0 < get_or places z 0) (sym e) (subst (λ z. get_or places z 0 < get_or places t.from 0) (sym f) p))

        pub places_back : NoTwins es → (hb : Rel) (x y : ℕ) (s : Step) → AtOneLocation es hb x y → StepFor es x y s → get_or heads s.from 0 ≡ get_or heads s.to 0 → get_or places s.to 0 < get_or places s.from 0 → StepsBack es hb s
        places_back single hb x y s l b same less =
            let t = top_store s.from x (b.from) in
            let u = end_store s y (b.to) in
            let c = chain_of es heads is full order ordered (get_or heads s.to 0) s.from t same in
            let d = chain_of es heads is full order ordered (get_or heads s.to 0) s.to u refl in
            let differs : s.from ≢ s.to = λ e. let q = subst (λ z. get_or places s.to 0 < get_or places z 0) e less in omega arith in (
              between_holds hb x y s l b differs,
              ⊎_elim (λ e. absurd (differs e))
                  (⊎_elim
                  (λ p. let q = place_rises es full order ordered places placed s.from s.to (u.0) (rf_path es s.from s.to p) in absurd (omega arith))
                  (λ p. (p, t)))
                  (chain_ordered es full single (get_or heads s.to 0) s.from s.to c d),
            )

  -- what comes to a step back are events of the run
  pub back_within : (hb : Rel) (x y : ℕ) → LeadsBack es hb x y → Within es x × Within es y
  back_within hb x y (s, (l, b, back)) = (⊎_elim (λ (_, st). st.0) (λ (f, _). f.0.0) (b.from), ⊎_elim (λ (f, _). f.0.0) (λ (_, w, _). w.0) (b.to))

  pub none_all : (hb : Rel) (k : ℕ) → length es < k → ((x : ℕ) → x < k → ¬ LeadsBackFrom es hb x) → (x y : ℕ) → ¬ LeadsBack es hb x y
  none_all hb k all none x y back = let high = (back_within hb x y back).0.1 in none x (omega arith) (y, back)

  -- where no event before another comes to a step back, there is none
  module _ (causal : Acyclic (PoRf es)) (hb : Rel) (none : (x y : ℕ) → ¬ LeadsBack es hb x y) where
    -- b is the end of a step to y, from a or from what comes after it in the chain
    step_to : (a b x y : ℕ) (t : Sort) → AtOneLocation es hb x y → (Rf es ？) a x → EndsAs es t b y → (Rf es ⁺) b a → Store es a → ⊥
    step_to a b x y t l k e p s =
        let (c, top, after) = top_there a x s k in
        none x y (
          record { from = c; to = b; sort = t },
          (
            l,
            record { from = top; to = e },
            (⊎_elim (λ same. subst (λ z. (Rf es ⁺) b z) same p) (λ q. path_join p q) after, top_store c x top),
          ),
        )

    pub no_back : NoBack es hb
    no_back a b (inl ((s, t, there, differs), (x, k, inl e))) (p, u) =
        ⊎_elim (λ f. differs (f ∙ e)) (λ f. causal b (path_join (rf_path es b a p) (one (inr (subst (λ z. Rf es a z) e f))))) k
    no_back a b (inl ((s, t, there, differs), (x, k, inr h))) (p, u) =
        ⊎_elim
        (λ w. step_to a b x b sort.Before (h, sym (optional_location a x k) ∙ there) k (inr (refl, w, refl)) p u)
        (λ up.
        let f : Rf es (at es b).writer b = (update_load es b up, refl) in
        step_to a (at es b).writer x b (sort.Read b) (h, sym (optional_location a x k) ∙ there) k (inl (f, refl)) (more f p) u)
        (write_or_update es b t)
    no_back a b (inr (r, ((s, t, there, differs), (x, k, h), f))) (p, u) =
        step_to a b x r (sort.Read r) (h, sym (optional_location a x k) ∙ (there ∙ writer_location es full b r f)) k (inl (f, refl)) p u

-- the read steps, from those of stores and from those of what is read
module _ (es : List Event) (full : FullRun es) (stores writers : List ℕ) (of_stores : StoreNumbers es stores) (of_writers : WriterNumbers es writers) where
  store_kept : (a x : ℕ) → Kept stores a x → Store es x × (a ≡ x)
  store_kept a x (e, some) =
      ⊎_elim (λ s. (s, sym e ∙ of_stores.store x s)) (λ no. let zero = of_stores.other x no in absurd (omega arith)) (store_or_not es x)

  writer_kept : (w x : ℕ) → Kept writers w x → Rf es w x
  writer_kept w x (e, some) =
      ⊎_elim (λ l. (l, sym (of_writers.load (at es x).writer x (l, refl)) ∙ e)) (λ no. let zero = of_writers.other x no in absurd (omega arith)) (load_or_not es x)

  kept_writer : (w x : ℕ) → Rf es w x → Kept writers w x
  kept_writer w x f = (of_writers.load w x f, (writer_store es full w x f).0.0)

  pub stores_kept : KeptFor es stores
  stores_kept =
      record {
        high = λ x. ⊎_elim (λ s. let e = of_stores.store x s in let few = full.few in let high = s.0.1 in omega arith) (λ no. let e = of_stores.other x no in omega arith) (store_or_not es x);
        inside = λ x some. ⊎_elim (λ s. s.0) (λ no. let e = of_stores.other x no in absurd (omega arith)) (store_or_not es x);
      }

  pub writers_kept : KeptFor es writers
  writers_kept =
      record {
        high = λ x. ⊎_elim (λ l. let f : Rf es (at es x).writer x = (l, refl) in let e = of_writers.load (at es x).writer x f in let low = rf_below es (at es x).writer x full f in omega arith) (λ no. let e = of_writers.other x no in omega arith) (load_or_not es x);
        inside = λ x some. ⊎_elim (λ l. l.0) (λ no. let e = of_writers.other x no in absurd (omega arith)) (load_or_not es x);
      }

  read_between : (hb : Rel) (a b x y : ℕ) → AtOneLocation es hb x y → Store es a → (Rf es ？) a x → Rf es b y → a ≢ b → ReadStep es hb y a b
  read_between hb a b x y (h, at) s k f differs =
      ((s, writer_store es full b y f, optional_location es full a x k ∙ (at ∙ sym (writer_location es full b y f)), differs), (x, k, h), f)

  pub stored_read : (hb : Rel) (a b x y : ℕ) → LiftsBy es hb stores writers x y a b → ReadStep es hb y a b
  stored_read hb a b x y (l, p, q, differs) =
      let (s, e) = store_kept a x p in
      read_between hb a b x y l (subst (λ z. Store es z) (sym e) s) (inl e) (writer_kept b y q) differs

  pub read_read : (hb : Rel) (a b x y : ℕ) → LiftsBy es hb writers writers x y a b → ReadStep es hb y a b
  read_read hb a b x y (l, p, q, differs) =
      let f = writer_kept a x p in read_between hb a b x y l (writer_store es full a x f) (inr f) (writer_kept b y q) differs

  pub read_lifts : (hb : Rel) (a b : ℕ) → ReadSteps es hb a b → Lifts es hb stores writers a b ⊎ Lifts es hb writers writers a b
  read_lifts hb a b (r, ((s, t, at, differs), (x, inl e, h), f)) =
      inl (x, (r, ((h, subst (λ z. SameLocation es z r) e (at ∙ writer_location es full b r f)), (subst (λ z. get_or stores z 0 ≡ a) e (of_stores.store a s), s.0.0), kept_writer b r f, differs)))
  read_lifts hb a b (r, ((s, t, at, differs), (x, inr k, h), f)) =
      inr (x, (r, ((h, sym (writer_location es full a x k) ∙ (at ∙ writer_location es full b r f)), kept_writer a x k, kept_writer b r f, differs)))

-- what is added to nothing is all that there is
pub all_added : (r n : Bool) (P Q : Type 0) → n ≡ false → (IsTrue r ↔ (IsTrue n ⊎ P)) → (P → Q) → (Q → P) → IsTrue r ↔ Q
all_added r n P Q none added to from =
    (λ t. ⊎_elim (λ k. absurd (false≢true (sym none ∙ k))) to (added.0 t), λ q. added.1 (inr (from q)))

pub both_added : (r m n : Bool) (P Q R : Type 0) → n ≡ false → (IsTrue m ↔ (IsTrue n ⊎ P)) → (IsTrue r ↔ (IsTrue m ⊎ Q)) → (P → R) → (Q → R) → (R → P ⊎ Q) → IsTrue r ↔ R
both_added r m n P Q R none first second p q back = (
  λ t. ⊎_elim (λ k. ⊎_elim (λ j. absurd (false≢true (sym none ∙ j))) p (first.0 k)) q (second.0 t),
  λ x. ⊎_elim (λ y. second.1 (inl (first.1 (inr y)))) (λ y. second.1 (inr y)) (back x),
)
