-- The heads of chains, filled in along a causal order.
use Rattle.std.proofs.Common.{◌≡◌, inr, ℕ, ◌+◌, ◌<◌, ◌≤◌, List, length, get_or, set, ⊎_elim, refl, sym, subst, ◌∙◌, arith}
use Rattle.std.proofs.lemmas.Bool.{cases_eq, cases_lt}
use Rattle.std.proofs.lemmas.List.{get_or-set_same, get_or-set_other}
use Rattle.events.specs.Run.{Within, FullRun}
use Rattle.events.specs.Graph.{Rf, PoRf}
use Rattle.events.specs.declared.event.Event.{Event}
use Rattle.events.specs.Relations.{one}
use Rattle.toposort.specs.Listing.{Placed, Ordered}
use Rattle.chains.specs.Numbers.{NextHead, HeadsOf}
use Rattle.chains.proofs.Orders.{order_all, order_numbers, path_earlier}

-- the heads of the first k are there, and no others
pub record HeadsUpTo (es : List Event) (order : List ℕ) (k : ℕ) (heads : List ℕ) : Type 0 where
  pub known : (j : ℕ) → j < k → NextHead es heads (get_or order j 0) (get_or heads (get_or order j 0) 0)
  pub none : (x : ℕ) → ¬ Placed order k x → get_or heads x 0 ≡ 0

module _ (es : List Event) (full : FullRun es) (order : List ℕ) (ordered : Ordered (length es) (PoRf es) order) where
  -- a writer has an earlier place
  writer_earlier : (w x k : ℕ) → k < length es → get_or order k 0 ≡ x → Rf es w x → Placed order k w
  writer_earlier w x k lt e f = path_earlier es full order ordered w x (one (inr f)) k lt e

  module _ (heads : List ℕ) (k h : ℕ) (lt : k < length es) (high : get_or order k 0 < length heads) where
    -- a head that is filled in changes nothing for what has an earlier place, or for the event itself
    kept : (j g : ℕ) → j ≤ k → NextHead es heads (get_or order j 0) g → NextHead es (set heads (get_or order k 0) h) (get_or order j 0) g
    kept j g le n =
        record {
          write = n.write;
          load = λ w f.
              let (i, less, e) = writer_earlier w (get_or order j 0) j (omega arith) refl f in
              let other = order_numbers es full order ordered in
              let whole = ordered.whole in
              n.load w f ∙ sym (get_or-set_other heads (get_or order k 0) w h 0 (λ same. other.apart i k (omega arith) (omega arith) (e ∙ same)));
          other = n.other;
        }

    more : HeadsUpTo es order k heads → NextHead es heads (get_or order k 0) h → HeadsUpTo es order (k + 1) (set heads (get_or order k 0) h)
    more r n =
        let numbers = order_numbers es full order ordered in
        let whole = ordered.whole in
        record {
          known = λ j less.
              ⊎_elim
              (λ here. subst (λ z. NextHead es (set heads (get_or order k 0) h) (get_or order z 0) (get_or (set heads (get_or order k 0) h) (get_or order z 0) 0)) (sym here)
              (subst (λ z. NextHead es (set heads (get_or order k 0) h) (get_or order k 0) z) (sym (get_or-set_same heads (get_or order k 0) h 0 high)) (kept k h (omega arith) n)))
              (λ before. subst (λ z. NextHead es (set heads (get_or order k 0) h) (get_or order j 0) z)
              (sym (get_or-set_other heads (get_or order k 0) (get_or order j 0) h 0 (numbers.apart j k (omega arith) (omega arith))))
              (kept j _ (omega arith) (r.known j (omega arith))))
              (cases_eq j k);
          none = λ x left.
              get_or-set_other heads (get_or order k 0) x h 0 (λ e. left (k, omega arith, sym e)) ∙ r.none x (λ (j, less, e). left (j, omega arith, e));
        }

  pub heads_more : (heads : List ℕ) (k h e : ℕ) → k < length es → e ≡ get_or order k 0 → get_or order k 0 < length heads → HeadsUpTo es order k heads → NextHead es heads e h → HeadsUpTo es order (k + 1) (set heads e h)
  heads_more heads k h e lt is high r n =
      subst (λ x. HeadsUpTo es order (k + 1) (set heads x h)) (sym is) (more heads k h lt high r (subst (λ x. NextHead es heads x h) is n))

  pub heads_all : (heads : List ℕ) (k : ℕ) → length es ≤ k → k ≤ length es → HeadsUpTo es order k heads → HeadsOf es heads
  heads_all heads k all le r x =
      ⊎_elim (λ low. outside (λ w. let l = w.0 in omega arith))
      (λ low. ⊎_elim (λ high. outside (λ w. let l = w.1 in omega arith)) (λ high. inside (low, high)) (cases_lt (length es) x))
      (cases_lt x 1)
    where
      outside : ¬ Within es x → NextHead es heads x (get_or heads x 0)
      outside out =
          record {
            write = λ w. absurd (out (w.0));
            load = λ w f. absurd (out (f.0.0));
            other = λ _ _. r.none x (λ (j, less, e). out (subst (λ z. Within es z) e ((ordered.turns j (omega arith)).ready.0.0)));
          }

      inside : Within es x → NextHead es heads x (get_or heads x 0)
      inside w = let (j, less, e) = order_all es full order ordered x w in subst (λ z. NextHead es heads z (get_or heads z 0)) e (r.known j (omega arith))
