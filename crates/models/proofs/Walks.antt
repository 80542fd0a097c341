-- The walk back along reads-from.
use Rattle.std.proofs.Common.{ℕ, ◌≡◌, ◌<◌, ◌≤◌, ◌⊎◌, inl, inr, ⊎_elim, List, length, replicate, Bool, true, false, not, get_or, set, cond, sym, refl, subst, ◌∙◌, arith}
use Rattle.std.specs.List.{count_by}
use Rattle.std.proofs.lemmas.Bool.{cases_eq, false≢true}
use Rattle.std.proofs.lemmas.List.{get_or-set_same, get_or-set_other}
use Rattle.std.proofs.lemmas.List.Sums.{sum_by-set}
use Rattle.events.specs.Run.{FullRun}
use Rattle.events.specs.Limits.{max_events}
use Rattle.events.specs.Graph.{Rf}
use Rattle.events.specs.declared.event.Event.{Event}
use Rattle.events.specs.Relations.{◌⁺, one, more}
use Rattle.models.proofs.Marks.{same_everywhere}
use Rattle.models.specs.Walk.{Starts, Reaches, Seen, Walked}

-- What was seen leads back to what was seen, or to where the walk stands, which r reads from.
pub record Walking (es : List Event) (a r : ℕ) (seen : List Bool) (here : ℕ) : Type 0 where
  pub starts : (x : ℕ) → Seen seen x → ¬ Starts es a x
  pub back : (x w : ℕ) → Seen seen x → Rf es w x → Seen seen w ⊎ (x ≡ here)
  pub path : (r ≡ here) ⊎ (Rf es ⁺) here r
  pub first : (r ≡ here) ⊎ ((w : ℕ) → Rf es w r → Seen seen w)

module _ (es : List Event) (a r : ℕ) where
  -- the same writer, of an event that is the same
  same : (w x y : ℕ) → x ≡ y → Rf es w x → Rf es w y
  same w x y e f = subst (λ z. Rf es w z) e f

  -- the event before here, and the path from it
  pub walking_path : (seen : List Bool) (here w : ℕ) → Walking es a r seen here → Rf es w here → (Rf es ⁺) w r
  walking_path seen here w k f = ⊎_elim (λ e. one (same w here r (sym e) f)) (λ p. more f p) (k.path)

  module _ (seen : List Bool) (here w : ℕ) (k : Walking es a r seen here) (f : Rf es w here) (fits : w < length seen) where
    kept : (x : ℕ) → Seen seen x → Seen (set seen w true) x
    kept x s = ⊎_elim (λ e. rw e (get_or-set_same seen w true false fits)) (λ n. get_or-set_other seen w x true false n ∙ s) (cases_eq x w)

    was : (x : ℕ) → Seen (set seen w true) x → Seen seen x ⊎ (x ≡ w)
    was x s = ⊎_elim (λ e. inr e) (λ n. inl (sym (get_or-set_other seen w x true false n) ∙ s)) (cases_eq x w)

    only : (v : ℕ) → Rf es v here → v ≡ w
    only v g = sym (g.1) ∙ f.1

    now_seen : (v : ℕ) → Rf es v here → Seen (set seen w true) v
    now_seen v g = rw (only v g) (get_or-set_same seen w true false fits)

    pub walking_more : ¬ Starts es a w → Walking es a r (set seen w true) w
    walking_more new =
        record {
          starts = λ x s. ⊎_elim (λ o. k.starts x o) (λ e. rw e new) (was x s);
          back = λ x v s g.
              ⊎_elim (λ o. ⊎_elim (λ t. inl (kept v t)) (λ e. inl (now_seen v (same v x here e g))) (k.back x v o g)) (λ e. inr e) (was x s);
          path = inr (walking_path seen here w k f);
          first = inr (⊎_elim (λ e. λ v g. now_seen v (same v r here e g)) (λ t. λ v g. kept v (t v g)) (k.first));
        }

    pub walking_less : get_or seen w false ≡ false → count_by not (set seen w true) < count_by not seen
    walking_less new = let s = sum_by-set (λ x. cond (not x) 1 0) seen w true false fits in grind (arith)

  -- the walk has come to an end: every writer of here was seen, if there is one
  module _ (seen : List Bool) (here : ℕ) (k : Walking es a r seen here) (end : (w : ℕ) → Rf es w here → Seen seen w) where
    pub walking_ended : Walked es a seen
    walking_ended x s = (k.starts x s, λ w f. ⊎_elim (λ t. t) (λ e. end w (same w x here e f)) (k.back x w s f))

    first_seen : (w : ℕ) → Rf es w r → Seen seen w
    first_seen = ⊎_elim (λ e. λ w f. end w (same w r here e f)) (λ t. t) (k.first)

    all_seen : (w x : ℕ) → (Rf es ⁺) w x → x ≡ r → Seen seen w
    all_seen w x (one f) e = first_seen w (same w x r e f)
    all_seen w x (more {a} {b} f p) e = (walking_ended b (all_seen b x p e)).1 w f

    pub walking_missed : ¬ Reaches es a r
    walking_missed p = k.starts (p.0) (all_seen (p.0) r (p.2) refl) (p.1)

-- what is read from has a place among the marks
pub rf_below : (es : List Event) (w r : ℕ) → FullRun es → Rf es w r → w ≤ max_events
rf_below es w r full f =
    let fits = (full.linked r (f.0.0)).reads (f.0.1) in let high = fits.store.0.1 in let few = full.few in omega arith

-- nothing is seen at the start
pub walked_none : (es : List Event) (a n : ℕ) → Walked es a (replicate n false)
walked_none es a n x s = absurd (false≢true (sym (same_everywhere false n x) ∙ s))
