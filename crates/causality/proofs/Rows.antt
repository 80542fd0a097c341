-- One row of happens-before after another.
use Rattle.std.proofs.Common.{◌≡◌, ◌↔◌, ℕ, true, ◌<◌, ◌≤◌, ◌+◌, ◌==◌, ◌&&◌, ◌||◌, ◌⊎◌, inl, inr, ⊎_elim, IsTrue, Bool, sym, subst, ◌∙◌, arith}
use Rattle.std.proofs.lemmas.Bool.Decides.{nat_tests}
use Rattle.std.proofs.lemmas.Bool.{cases_eq, or_cases, and_parts, eqb-true}
use Rattle.events.specs.Relations.{Rel, ◌⁺, one}
use Rattle.events.specs.Paths.{path_join, path_last}
use Rattle.relation.specs.Pairs.{in_range}
use Rattle.toposort.proofs.Pigeons.{Apart}
use Rattle.causality.specs.Rows.{Test, Rows, Row}

-- what is related to an event by D has a place before it
abbrev pub Backed : Rel → ℕ → (ℕ → ℕ) → Type 0
Backed D n order = (k : ℕ) → k < n → (a : ℕ) → D a (order k) → (j : ℕ) × (j < k) × (order j ≡ a)

-- After `insert(p, e)`, which makes S of R, and `absorb(e, p)`, which makes T of S.
pub record Joins (R S T : Test) (p e : ℕ) : Type 0 where
  pub inserted : (x y : ℕ) → S x y ≡ (R x y || (x == p && y == e))
  pub absorbed : (x y : ℕ) → T x y ≡ (S x y || (y == e && S x p))

-- as the contracts of the two say it, of numbers in range
pub joins_from : (R S T : Test) (p e q f : ℕ) (b : Bool) → p ≡ q → e ≡ f → in_range q ≡ true → in_range f ≡ true → b ≡ (in_range p && in_range e) → ((x y : ℕ) → S x y ≡ (R x y || (b && (x == p && y == e)))) → ((x y : ℕ) → T x y ≡ (S x y || (in_range e && (y == e && S x p)))) → Joins R S T q f
joins_from R S T p e q f b here there first second is inserted absorbed =
    record {
      inserted = λ x y. let i = inserted x y in grind (arith);
      absorbed = λ x y. let a = absorbed x y in grind (arith);
    }

module _ (R S T : Test) (p e : ℕ) (apart : ¬ (p ≡ e)) (joins : Joins R S T p e) where
  -- another row is as it was
  pub joins_other : (x y : ℕ) → ¬ (y ≡ e) → T x y ≡ R x y
  joins_other x y n = let a = joins.absorbed x y in let b = joins.inserted x y in grind (arith, nat_tests)

  pub joins_kept : (x : ℕ) → IsTrue (R x e) → IsTrue (T x e)
  joins_kept x h = let a = joins.absorbed x e in let b = joins.inserted x e in grind (arith, nat_tests)

  pub joins_new : IsTrue (T p e)
  joins_new = let a = joins.absorbed p e in let b = joins.inserted p e in grind (arith, nat_tests)

  pub joins_below : (x : ℕ) → IsTrue (R x p) → IsTrue (T x e)
  joins_below x h = let a = joins.absorbed x e in let b = joins.inserted x p in grind (arith, nat_tests)

  pub joins_only : (x : ℕ) → IsTrue (T x e) → IsTrue (R x e) ⊎ ((x ≡ p) ⊎ IsTrue (R x p))
  joins_only x h =
      let a = joins.absorbed x e in
      let b = joins.inserted x e in
      let c = joins.inserted x p in
      ⊎_elim (λ t. ⊎_elim (λ r. inl r) (λ o. inr (inl (eqb-true x p ((and_parts (x == p) (e == e) o).0)))) (or_cases (R x e) (x == p && e == e) (sym b ∙ t)))
      (λ t. ⊎_elim (λ r. inr (inr r)) (λ o. absurd (apart (eqb-true p e ((and_parts (x == p) (p == e) o).1)))) (or_cases (R x p) (x == p && p == e) (sym c ∙ (and_parts (e == e) (S x p) t).1)))
      (or_cases (S x e) (e == e && S x p) (sym a ∙ h))

-- a step, of the same two events
pub step_same : (D : Rel) (a b p q : ℕ) → a ≡ p → b ≡ q → D a b → D p q
step_same D a b p q e f s = subst (λ x. D x q) e (subst (λ y. D a y) f s)

module _ (D : Rel) (n : ℕ) (order : ℕ → ℕ) where
  module _ (apart : Apart n order) (k i j : ℕ) (R S T : Test) (h : k < n) (e : j + i + 1 ≡ k) (joins : Joins R S T (order j) (order k)) where
    differs : ¬ (order j ≡ order k)
    differs = apart j k (omega arith) h

    pub rows_join : Rows D n order k (k + 1) R → Rows D n order k (k + 1) T
    rows_join r =
        record {
          done = λ q lt a. let same = joins_other R S T (order j) (order k) differs joins a (order q) (apart q k lt h) in rw same (r.done q lt a);
          empty = λ q le lt a. joins_other R S T (order j) (order k) differs joins a (order q) (λ s. apart k q (omega arith) lt (sym s)) ∙ r.empty q le lt a;
          outside = λ b none a. joins_other R S T (order j) (order k) differs joins a b (λ s. none k h (sym s)) ∙ r.outside b none a;
        }

    module _ (r : Rows D n order k (k + 1) R) (w : Row D n order k i R) (step : D (order j) (order k)) where
      was : (a : ℕ) → IsTrue (T a (order k)) → IsTrue (R a (order k)) ⊎ ((a ≡ order j) ⊎ IsTrue (R a (order j)))
      was = joins_only R S T (order j) (order k) differs joins

      below : (a : ℕ) → (D ⁺) a (order j) → IsTrue (T a (order k))
      below a p = joins_below R S T (order j) (order k) differs joins a ((r.done j (omega arith) a).1 p)

      pub row_joins : Row D n order k (i + 1) T
      row_joins =
          record {
            sound = λ a t.
                ⊎_elim (λ o. w.sound a o)
                (⊎_elim (λ q. subst (λ z. (D ⁺) z (order k)) (sym q) (one step)) (λ o. path_join ((r.done j (omega arith) a).0 o) (one step)))
                (was a t);
            closed = λ p a t d.
                ⊎_elim (λ o. joins_kept R S T (order j) (order k) differs joins a (w.closed p a o d))
                (⊎_elim (λ q. below a (subst (λ z. (D ⁺) a z) q d)) (λ o. below a (path_join d ((r.done j (omega arith) p).0 o))))
                (was p t);
            steps = λ q lt le d.
                ⊎_elim (λ same. subst (λ z. IsTrue (T (order z) (order k))) (sym same) (joins_new R S T (order j) (order k) differs joins))
                (λ other. joins_kept R S T (order j) (order k) differs joins (order q) (w.steps q lt (omega arith) d))
                (cases_eq q j);
          }

  -- every place before it looked at, a row is done
  pub rows_end : Backed D n order → (k i : ℕ) (R : Test) → k < n → k ≤ i → Rows D n order k (k + 1) R → Row D n order k i R → Rows D n order (k + 1) (k + 1) R
  rows_end back k i R h all r w =
      record {
        done = λ j lt a. ⊎_elim (λ same. subst (λ z. IsTrue (R a (order z)) ↔ (D ⁺) a (order z)) (sym same) (w.sound a, full a)) (λ other. r.done j (omega arith) a) (cases_eq j k);
        empty = r.empty;
        outside = r.outside;
      }
    where
      full : (a : ℕ) → (D ⁺) a (order k) → IsTrue (R a (order k))
      full a p =
          let l = path_last p in
          let b = back k h (l.0) (l.1.1) in
          let s : IsTrue (R (order (b.0)) (order k)) = w.steps (b.0) (b.1) (omega arith) (subst (λ z. D z (order k)) (sym (b.2)) (l.1.1)) in
          ⊎_elim (λ q. subst (λ z. IsTrue (R z (order k))) (b.2 ∙ sym q) s) (λ d. w.closed (order (b.0)) a s (subst (λ z. (D ⁺) a z) (sym (b.2)) d)) (l.1.0)
