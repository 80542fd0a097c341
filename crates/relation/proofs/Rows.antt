-- The rows of a relation: what a change of one row does to the pairs.
use Rattle.std.proofs.Common.{◌≡◌, ℕ, ◌-◌, ◌≤◌, Bool, true, false, ◌&&◌, ◌||◌, List, [], ◌∷◌, length, get_or, zero, suc, ⊎_elim, refl, arith}
use Rattle.std.proofs.Math.ListN.{set}
use Rattle.std.specs.Prelude.{◌==◌, IsTrue}
use Rattle.std.specs.List.{list_all}
use Rattle.std.proofs.lemmas.Bool.{cases_eq, and_parts, eqb-true}
use Rattle.std.proofs.lemmas.Bool.Decides.{nat_tests}
use Rattle.std.proofs.lemmas.List.{get_or-set_other}
use Rattle.std.proofs.lemmas.Grind.{get_or-set_at}
use Rattle.std.proofs.lemmas.Nat.Bits.{bit_at-zero}
use Rattle.events.specs.Limits.{max_events}
use Rattle.relation.specs.Pairs.{InRange, in_range, word_of, bit_of, has_member, has}
use Rattle.relation.specs.declared.relation.Relation.{Relation}
use Rattle.relation.proofs.Members.{member_in_range}

number_in_range : (n : ℕ) → in_range n ≡ true → InRange n
number_in_range n is = grind (arith, nat_tests)

-- both numbers of a pair are in range
pub has_within : (r : Relation) (x y : ℕ) → IsTrue (has r x y) → InRange x × InRange y
unfolding has
has_within r x y is = let m = member_in_range (get_or r.rows (y - 1) []) x in grind (arith, nat_tests, m)

pub has_outside : (r : Relation) (x y : ℕ) → in_range y ≡ false → false ≡ has r x y
unfolding has
has_outside r x y out = grind (arith, nat_tests)

-- the row of y tells of the pairs with y
pub has_inside : (r : Relation) (x y : ℕ) → in_range y ≡ true → has_member (get_or r.rows (y - 1) []) x ≡ has r x y
unfolding has
has_inside r x y fits = grind (arith, nat_tests)

-- no bit is set
abbrev pub are_zero : List ℕ → Bool
are_zero = list_all (λ w. w == 0)

zero_word : (row : List ℕ) (k : ℕ) → are_zero row ≡ true → get_or row k 0 ≡ 0
zero_word [] k is = refl
zero_word (w ∷ ws) zero is = eqb-true w 0 (and_parts (w == 0) (are_zero ws) is).0
zero_word (w ∷ ws) (suc k) is = zero_word ws k (and_parts (w == 0) (are_zero ws) is).1

zero_row : (rows : List (List ℕ)) (k : ℕ) → list_all are_zero rows ≡ true → are_zero (get_or rows k []) ≡ true
zero_row [] k is = refl
zero_row (r ∷ rs) zero is = (and_parts (are_zero r) (list_all are_zero rs) is).0
zero_row (r ∷ rs) (suc k) is = zero_row rs k (and_parts (are_zero r) (list_all are_zero rs) is).1

no_members : (row : List ℕ) (x : ℕ) → are_zero row ≡ true → has_member row x ≡ false
unfolding has_member
no_members row x is =
    let w = zero_word row (word_of x) is in
    let e = bit_at-zero (bit_of x) in
    grind (arith, nat_tests)

pub no_pairs : (r : Relation) → list_all are_zero r.rows ≡ true → (x y : ℕ) → has r x y ≡ false
unfolding has
no_pairs r is x y = let e = no_members (get_or r.rows (y - 1) []) x (zero_row r.rows (y - 1) is) in grind (arith, nat_tests)

-- the row of b is written, and has more members: those that pass a test
module _ (rows : List (List ℕ)) (b : ℕ) (fits : in_range b ≡ true) (all : length rows ≡ max_events) (row : List ℕ) where
  pairs_added : (more : ℕ → Bool) → ((x : ℕ) → has_member row x ≡ (has_member (get_or rows (b - 1) []) x || more x)) → (x y : ℕ) → has (record { rows = set rows (b - 1) row }) x y ≡ (has (record { rows = rows }) x y || (y == b && more x))
  unfolding has
  pairs_added more says x y =
      let number = number_in_range b fits in
      ⊎_elim
      (λ same. let e = get_or-set_at rows (b - 1) (y - 1) row [] (omega arith) (omega arith) in let s = says x in grind (arith, nat_tests))
      (λ differs. let e : 1 ≤ y → _ = λ low. get_or-set_other rows (b - 1) (y - 1) row [] (omega arith) in grind (arith, nat_tests))
      (cases_eq y b)

  pub pair_added : (a : ℕ) → ((x : ℕ) → has_member row x ≡ (has_member (get_or rows (b - 1) []) x || x == a)) → (x y : ℕ) → has (record { rows = set rows (b - 1) row }) x y ≡ (has (record { rows = rows }) x y || (x == a && y == b))
  pair_added a says x y = let e = pairs_added (λ n. n == a) says x y in grind (arith, nat_tests)

  pub row_added : (p : ℕ) → in_range p ≡ true → ((x : ℕ) → has_member row x ≡ (has_member (get_or rows (b - 1) []) x || has_member (get_or rows (p - 1) []) x)) → (x y : ℕ) → has (record { rows = set rows (b - 1) row }) x y ≡ (has (record { rows = rows }) x y || (in_range b && (y == b && has (record { rows = rows }) x p)))
  row_added p known says x y =
      rw (fits, ← has_inside (record { rows = rows }) x p known)
      (pairs_added (has_member (get_or rows (p - 1) [])) says x y)
