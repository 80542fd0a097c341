-- The lowest number with a property, and the lowest pair of a relation.
use Rattle.std.specs.Prelude.{ℕ, ◌<◌}
use Rattle.events.specs.Relations.{Rel}

-- i is the lowest number with the property
pub record IsLowest (P : ℕ → Type 0) (i : ℕ) : Type 0 where
  pub is : P i
  pub first : (j : ℕ) → j < i → ¬ P j

-- a and b are the lowest pair, by the first number, and of pairs with one first number by the second
pub record IsLowestPair (R : Rel) (a b : ℕ) : Type 0 where
  pub first : IsLowest (λ x. (y : ℕ) × R x y) a
  pub second : IsLowest (R a) b
