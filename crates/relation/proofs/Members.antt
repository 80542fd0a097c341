-- The bits of a row: what reading, setting one, and joining two rows do to its members.
use Rattle.std.proofs.Common.{◌≡◌, ◌≢◌, ℕ, ◌+◌, ◌*◌, ◌^◌, ◌/◌, ◌%◌, ◌<◌, ◌≤◌, true, false, ◌||◌, List, length, get_or, bit_and, bit_or, w64, ⊎_elim, refl, sym, ap, ◌∙◌, arith}
use Rattle.std.proofs.Math.ListN.{set}
use Rattle.std.specs.Int.{bit_at}
use Rattle.std.specs.Prelude.{◌==◌}
use Rattle.std.proofs.lemmas.List.{get_or-set_other}
use Rattle.std.proofs.lemmas.Grind.{get_or-set_at}
use Rattle.std.proofs.lemmas.Bool.{cases_eq, cases_Bool}
use Rattle.std.proofs.lemmas.Bool.Decides.{nat_tests}
use Rattle.std.proofs.lemmas.Nat.Bits.{shr_and_one, bit_at_or, bit_at-lt, bit_at_set_same, bit_at_set_other}
use Rattle.relation.specs.Pairs.{InRange, in_range, bits_per_word, words_per_row, word_of, bit_of, has_member}

-- a row has no number out of range
pub member_in_range : (row : List ℕ) (a : ℕ) → has_member row a ≡ true → InRange a
unfolding has_member
member_in_range row a is = grind (arith, nat_tests)

pub no_member : (row : List ℕ) (a : ℕ) → in_range a ≡ false → false ≡ has_member row a
unfolding has_member
no_member row a out = grind (arith, nat_tests)

-- the bit of a as the code reads it
pub member_read : (row : List ℕ) (a : ℕ) → in_range a ≡ true → (bit_and (get_or row (word_of a) 0 / 2 ^ bit_of a) 1 == 1) ≡ has_member row a
unfolding has_member
member_read row a fits = let e = shr_and_one (get_or row (word_of a) 0) (bit_of a) in grind (arith, nat_tests)

-- the number a is added to a row
module _ (row : List ℕ) (a : ℕ) (fits : InRange a) (inside : word_of a < length row) where
  -- as the code sets its bit
  abbrev pub with_member : List ℕ
  with_member = set row (word_of a) (bit_or (get_or row (word_of a) 0) (1 * 2 ^ bit_of a % 2 ^ bits_per_word))

  read_same : (i : ℕ) → i ≡ word_of a → get_or with_member i 0 ≡ bit_or (get_or row (word_of a) 0) (1 * 2 ^ bit_of a % 2 ^ bits_per_word)
  read_same i at = get_or-set_at row (word_of a) i _ 0 at inside

  set_same : bit_at (get_or with_member (word_of a) 0) (bit_of a) ≡ 1
  set_same = rw (read_same (word_of a) refl) (bit_at_set_same w64 _ _ (omega arith))

  set_other : (x : ℕ) → 1 ≤ x → x ≢ a → bit_at (get_or with_member (word_of x) 0) (bit_of x) ≡ bit_at (get_or row (word_of x) 0) (bit_of x)
  set_other x low other =
      ⊎_elim
      (λ same. ap (λ w. bit_at w (bit_of x)) (read_same (word_of x) same) ∙ bit_at_set_other w64 _ (bit_of a) (omega arith) (bit_of x) (λ e. other (omega arith)) ∙ ap (λ i. bit_at (get_or row i 0) (bit_of x)) (sym same))
      (λ differs. ap (λ w. bit_at w (bit_of x)) (get_or-set_other row (word_of a) (word_of x) _ 0 differs))
      (cases_eq (word_of x) (word_of a))

  pub member_added : (x : ℕ) → has_member with_member x ≡ (has_member row x || x == a)
  unfolding has_member
  member_added x =
      ⊎_elim
      (λ same. let e = set_same in grind (arith, nat_tests))
      (λ differs. let e = set_other x in grind (arith, nat_tests))
      (cases_eq x a)

-- the first n words of a row have the bits of both, and the others are as they were
pub record Merged (row other new : List ℕ) (n : ℕ) : Type 0 where
  pub done : (k : ℕ) → k < n → get_or new k 0 ≡ bit_or (get_or row k 0) (get_or other k 0)
  pub rest : (k : ℕ) → n ≤ k → get_or new k 0 ≡ get_or row k 0

pub Merged-none : (row other : List ℕ) → Merged row other row 0
Merged-none row other = record { done = λ k low. absurd (omega arith); rest = λ k low. refl }

pub Merged-more : {row other new : List ℕ} {n : ℕ} → Merged row other new n → n < length new → Merged row other (set new n (bit_or (get_or new n 0) (get_or other n 0))) (n + 1)
Merged-more {row} {other} {new} {n} is inside = record {
  done = λ k low.
      ⊎_elim
      (λ same. get_or-set_at new n k _ 0 same inside ∙ ap (λ w. bit_or w (get_or other n 0)) (is.rest n (omega arith)) ∙ ap (λ i. bit_or (get_or row i 0) (get_or other i 0)) (sym same))
      (λ differs. get_or-set_other new n k _ 0 differs ∙ is.done k (omega arith))
      (cases_eq k n);
  rest = λ k low. get_or-set_other new n k _ 0 (omega arith) ∙ is.rest k (omega arith);
}

-- the union of two words has the bits of both
bits_joined : (v w i : ℕ) → (bit_at (bit_or v w) i == 1) ≡ (bit_at v i == 1 || bit_at w i == 1)
bits_joined v w i =
    let e = bit_at_or v w i in
    let vs = bit_at-lt v i in
    let ws = bit_at-lt w i in
    grind (arith, nat_tests)

-- all words of a row are joined with those of another
module _ (row other new : List ℕ) (all : Merged row other new words_per_row) (x : ℕ) where
  within : in_range x ≡ true → has_member new x ≡ (has_member row x || has_member other x)
  unfolding has_member
  within fits =
      let word = all.done (word_of x) (grind (arith, nat_tests)) in
      let bits = bits_joined (get_or row (word_of x) 0) (get_or other (word_of x) 0) (bit_of x) in
      rw (fits, word) bits

  outside : in_range x ≡ false → has_member new x ≡ (has_member row x || has_member other x)
  unfolding has_member
  outside out = rw out refl

  pub members_merged : has_member new x ≡ (has_member row x || has_member other x)
  members_merged = ⊎_elim within outside (cases_Bool (in_range x))
