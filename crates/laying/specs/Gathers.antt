-- What it means that a list gathers the members of another, class by class.
use Rattle.std.specs.Prelude.{◌≡◌, ◌≢◌, ◌⊎◌, ℕ, ◌<◌, List, length, slice_index}
use Rattle.models.specs.Orders.{Before}

-- nothing stands at two places
abbrev pub Different : List ℕ → Type 0
Different l = (i j : ℕ) → i < j → j < length l → slice_index l i ≢ slice_index l j

abbrev pub Listed : List ℕ → ℕ → Type 0
Listed l a = (i : ℕ) × (i < length l) × (slice_index l i ≡ a)

-- the class of a comes first, or a is the first of two in one class
abbrev pub Earlier : (ℕ → ℕ) → List ℕ → List ℕ → ℕ → ℕ → Type 0
Earlier class members classes a b = Before classes (class a) (class b) ⊎ ((class a ≡ class b) × Before members a b)

-- o lists the members of the classes, class by class
pub record Gathers (class : ℕ → ℕ) (members classes o : List ℕ) : Type 0 where
  pub only : (i : ℕ) → i < length o → Listed members (slice_index o i) × Listed classes (class (slice_index o i))
  pub all : (e : ℕ) → Listed members e → Listed classes (class e) → Listed o e
  pub sorted : (i j : ℕ) → i < j → j < length o → Earlier class members classes (slice_index o i) (slice_index o j)

-- one list at most gathers them
abbrev pub OneGathering : (ℕ → ℕ) → List ℕ → List ℕ → Type 0
OneGathering class members classes = (o p : List ℕ) → Gathers class members classes o → Gathers class members classes p → o ≡ p
