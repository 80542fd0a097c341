-- What a call comes to that writes a text t into memory of the caller's: old is the memory before, and new after.
use Rattle.std.specs.Prelude.{◌≡◌, ℕ, ◌+◌, ◌-◌, ◌^◌, ◌<◌, ◌≤◌, List, ◌++◌, drop, length, min, take, Ok, Err, MatchResult, Result}
use Rattle.writing.specs.declared.put.Full.{Full}

-- The text is at the front where it fits, and every other place as it was; else all is as it was.
abbrev pub Writes : List ℕ → List ℕ → List ℕ → Result ℕ Full → Type 0
Writes t old new (Ok n) = (n ≡ length t) × (n ≤ length old) × (new ≡ t ++ drop n old)
Writes t old new (Err full) = (length old < length t) × (new ≡ old)

-- the memory with the text laid over it from this place on, as far as there is room
abbrev pub laid : List ℕ → ℕ → List ℕ → List ℕ
laid t at old = take (length old) (take at old ++ (t ++ drop (length t) (drop at old)))

-- the highest number that the code can count to
abbrev pub most : ℕ
most = 2 ^ 64 - 1

-- The text is laid from a place on, and the answer is the place behind it. No memory has as many places as there are numbers.
pub record Puts (t : List ℕ) (at : ℕ) (old new : List ℕ) (end : ℕ) : Type 0 where
  pub few : length old < most
  pub behind : end ≡ min (at + length t) most
  pub memory : new ≡ laid t at old

-- Written behind what a pen for n characters holds: exactly where it fits, and refused it leaves what is there.
abbrev pub Pushes : {E : Type 0} → ℕ → List ℕ → List ℕ → List ℕ → Result (Unit {0}) E → Type 0
Pushes n t old new result =
    MatchResult result (λ _. (length old + length t ≤ n) × (new ≡ old ++ t)) (λ _. (n < length old + length t) × (new ≡ old))
