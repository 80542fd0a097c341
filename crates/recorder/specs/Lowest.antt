-- The lowest number of an event that meets a condition.
use Rattle.std.specs.Prelude.{ℕ, ◌≤◌, Bool, Option}
use Rattle.std.specs.List.{find, range_with_len}
use Rattle.events.specs.Lowest.{IsLowest}

-- the first number from 1 on, and up to n, that passes the test
abbrev pub lowest : (ℕ → Bool) → ℕ → Option ℕ
lowest p n = find p (range_with_len 1 n)

-- i is the lowest of the numbers from 1 to n with the property
abbrev pub IsLowestTo : (ℕ → Type 0) → ℕ → ℕ → Type 0
IsLowestTo P n = IsLowest (λ i. (1 ≤ i) × (i ≤ n) × P i)
