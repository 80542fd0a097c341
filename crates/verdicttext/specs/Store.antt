-- The text of an order, store by store.
use Rattle.std.specs.Prelude.{ℕ, List, ◌++◌, None, Some, Option, codes, decimal, ◌==◌, if◌then◌else◌}
use Rattle.verdicttext.specs.Text.{less, marked, space}

abbrev pub first_text : ℕ → ℕ → List ℕ
first_text l a = marked space (decimal l ++ (codes ":" ++ decimal a))

-- what store a, at location l, adds to those before it, of which the last is at location k
abbrev pub store_text : Option ℕ → ℕ → ℕ → List ℕ
store_text None l a = first_text l a
store_text (Some k) l a = if k == l then marked less (decimal a) else first_text l a
