-- Happens-before, filled in row by row along a causal order.
use Rattle.std.specs.Prelude.{◌≡◌, ◌↔◌, ℕ, ◌<◌, ◌≤◌, ◌+◌, Bool, false, IsTrue}
use Rattle.events.specs.Relations.{Rel, ◌⁺}

-- A relation as a test.
abbrev pub Test : Type 0
Test = ℕ → ℕ → Bool

-- The events in causal order, by their places; D is the relation whose paths are wanted.
module _ (D : Rel) (n : ℕ) (order : ℕ → ℕ) where
  -- the rows of the first k are done, those from place m on empty, and those of other numbers too
  pub record Rows (k m : ℕ) (R : Test) : Type 0 where
    pub done : (j : ℕ) → j < k → (a : ℕ) → IsTrue (R a (order j)) ↔ (D ⁺) a (order j)
    pub empty : (j : ℕ) → m ≤ j → j < n → (a : ℕ) → R a (order j) ≡ false
    pub outside : (b : ℕ) → ((j : ℕ) → j < n → ¬ (order j ≡ b)) → (a : ℕ) → R a b ≡ false

  -- in the row of place k, the i places before it have been looked at
  pub record Row (k i : ℕ) (R : Test) : Type 0 where
    pub sound : (a : ℕ) → IsTrue (R a (order k)) → (D ⁺) a (order k)
    pub closed : (p a : ℕ) → IsTrue (R p (order k)) → (D ⁺) a p → IsTrue (R a (order k))
    pub steps : (j : ℕ) → j < k → k ≤ j + i → D (order j) (order k) → IsTrue (R (order j) (order k))
