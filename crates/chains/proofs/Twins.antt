-- The readers that are kept while twins are looked for.
use Rattle.std.proofs.Common.{◌≡◌, ◌≢◌, ℕ, ◌+◌, ◌<◌, ◌≤◌, List, length, get_or, set, ⊎_elim, sym, subst, ◌∙◌, arith}
use Rattle.std.proofs.lemmas.Bool.{cases_eq}
use Rattle.std.proofs.lemmas.List.{get_or-set_same, get_or-set_other, length-set}
use Rattle.events.specs.Limits.{max_events}
use Rattle.events.specs.Run.{Update}
use Rattle.events.specs.Graph.{Rf}
use Rattle.events.specs.declared.event.Event.{Event}
use Rattle.verdicts.specs.Absent.{NoTwins}
use Rattle.verdicts.proofs.Chains.{rf_once}
use Rattle.chains.specs.Twins.{LowestTwins}

-- of the updates below k, for each event the one that reads from it
pub record Readers (es : List Event) (k : ℕ) (readers : List ℕ) : Type 0 where
  pub long : length readers ≡ max_events + 1
  pub known : (w u : ℕ) → u < k → Update es u → Rf es w u → get_or readers w 0 ≡ u
  pub back : (w : ℕ) → get_or readers w 0 ≢ 0 → (get_or readers w 0 < k) × Update es (get_or readers w 0) × Rf es w (get_or readers w 0)

module _ (es : List Event) (k : ℕ) (readers : List ℕ) (r : Readers es k readers) where
  pub readers_more : (w : ℕ) → w ≤ max_events → Update es k → Rf es w k → get_or readers w 0 ≡ 0 → Readers es (k + 1) (set readers w k)
  readers_more w le is f none =
      let long = r.long in
      let high : w < length readers = omega arith in
      record {
        long = length-set readers w k ∙ long;
        known = λ v u lt at g.
            ⊎_elim (λ e. subst (λ z. get_or (set readers w k) z 0 ≡ u) (rf_once es w v u (subst (λ z. Rf es w z) (sym e) f) g) (get_or-set_same readers w k 0 high ∙ sym e))
            (λ n.
            let was = r.known v u (omega arith) at g in
            let low = at.0.0 in
            get_or-set_other readers w v k 0 (λ e. let zero = subst (λ z. get_or readers z 0 ≡ 0) (sym e) none in omega arith) ∙ was)
            (cases_eq u k);
        back = λ v some.
            ⊎_elim (λ e.
            let here = subst (λ z. get_or (set readers w k) z 0 ≡ k) (sym e) (get_or-set_same readers w k 0 high) in
            (omega arith, subst (λ z. Update es z) (sym here) is, subst (λ z. Rf es v z) (sym here) (subst (λ z. Rf es z k) (sym e) f)))
            (λ n.
            let there = get_or-set_other readers w v k 0 n in
            let (less, u, g) = r.back v (λ z. some (there ∙ z)) in
            (omega arith, subst (λ z. Update es z) (sym there) u, subst (λ z. Rf es v z) (sym there) g))
            (cases_eq v w);
      }

  -- an update whose writer has a reader has the first twin, and none before it has one
  pub lowest_twins : (w : ℕ) → Update es k → Rf es w k → get_or readers w 0 ≢ 0 → LowestTwins es (get_or readers w 0) k
  lowest_twins w is f some =
      let (less, u, g) = r.back w some in
      record {
        first = record {
          is = (get_or readers w 0, (less, u, is, (w, g, f)));
          first = λ v low (t, (lt, a, b, (z, p, q))). let e = r.known z t (omega arith) a p in let d = r.known z v low b q in omega arith;
        };
        second = record {
          is = (less, u, is, (w, g, f));
          first = λ t low (lt, a, b, (z, p, q)).
              let e = subst (λ y. get_or readers y 0 ≡ t) (rf_once es z w k q f) (r.known z t lt a p) in omega arith;
        };
      }

pub readers_none : (es : List Event) (readers : List ℕ) → length readers ≡ max_events + 1 → ((w : ℕ) → get_or readers w 0 ≡ 0) → Readers es 1 readers
readers_none es readers long none = record { long = long; known = λ w u lt is f. let low = is.0.0 in absurd (omega arith); back = λ w some. absurd (some (none w)) }

pub readers_all : (es : List Event) (k : ℕ) (readers : List ℕ) → length es < k → Readers es k readers → NoTwins es
readers_all es k readers all r u v w a b f g = let x = a.0.1 in let y = b.0.1 in sym (r.known w u (omega arith) a f) ∙ r.known w v (omega arith) b g
