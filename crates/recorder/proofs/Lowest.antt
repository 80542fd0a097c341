-- `lowest` gives the lowest number that passes its test, if any does.
use Rattle.std.proofs.Common.{◌≡◌, ℕ, zero, suc, ◌+◌, ◌<◌, ◌≤◌, Bool, true, false, Some, None, Option, refl, arith}
use Rattle.std.proofs.lemmas.Bool.{cond_both, false_from_ne_true}
use Rattle.std.specs.Bool.{Decides}
use Rattle.std.specs.List.{find, range_with_len}
use Rattle.recorder.specs.Lowest.{lowest, IsLowestTo}

-- what is found from a on, among n numbers
abbrev Found : (ℕ → Bool) → ℕ → ℕ → Option ℕ → Type 0
Found p a n None = (j : ℕ) → a ≤ j → j < a + n → p j ≡ false
Found p a n (Some i) = (a ≤ i) × (i < a + n) × (p i ≡ true) × ((j : ℕ) → a ≤ j → j < i → p j ≡ false)

module _ (p : ℕ → Bool) where
  later : (a n : ℕ) (o : Option ℕ) → p a ≡ false → Found p (a + 1) n o → Found p a (suc n) o
  later a n None here rest = λ j low high. grind (arith, rest j)
  later a n (Some i) here rest = (omega arith, omega arith, rest.2, λ j low high. grind (arith, rest.3 j))

  found : (n a : ℕ) → Found p a n (find p (range_with_len a n))
  found zero a = λ j low high. absurd (omega arith)
  found (suc n) a =
      cond_both (p a) _ _ (Found p a (suc n))
      (λ yes. (omega arith, omega arith, yes, λ j low high. absurd (omega arith)))
      (λ no. later a n (find p (range_with_len (a + 1) n)) no (found n (a + 1)))

  -- and nothing else is
  same : (a n : ℕ) (o q : Option ℕ) → Found p a n o → Found p a n q → o ≡ q
  same a n None None f g = refl
  same a n None (Some j) f g = grind (arith, f j)
  same a n (Some i) None f g = grind (arith, g i)
  same a n (Some i) (Some j) f g = grind (arith, f.3 j, g.3 i)

module _ (p : ℕ → Bool) (P : ℕ → Type 0) (n : ℕ) (tells : (i : ℕ) → 1 ≤ i → i ≤ n → Decides (p i) (P i)) where
  pub lowest_is : (i : ℕ) → lowest p n ≡ Some i → IsLowestTo P n i
  lowest_is i is =
      let f = rw is at (found p n 1) in
      record {
        is = (f.0, omega arith, (tells i f.0 (omega arith)).0 f.2);
        first = λ j less (low, to, h). let yes = (tells j low to).1 h in let no = f.3 j low less in cc;
      }

  pub is_lowest : (i : ℕ) → IsLowestTo P n i → lowest p n ≡ Some i
  is_lowest i l =
      let (from, to, is) = l.is in
      same p 1 n _ (Some i) (found p n 1) (from, omega arith, (tells i from to).1 is, λ j low less. false_from_ne_true _ (λ yes. l.first j less (low, omega arith, (tells j low (omega arith)).0 yes)))

  pub lowest_none : lowest p n ≡ None → (i : ℕ) → 1 ≤ i → i ≤ n → ¬ P i
  lowest_none is i low high h = let no = rw is at (found p n 1) i low (omega arith) in let yes = (tells i low high).1 h in cc

  pub none_lowest : ((i : ℕ) → 1 ≤ i → i ≤ n → ¬ P i) → lowest p n ≡ None
  none_lowest never = same p 1 n _ None (found p n 1) (λ i low high. false_from_ne_true _ (λ yes. never i low (omega arith) ((tells i low (omega arith)).0 yes)))
