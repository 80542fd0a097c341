-- A list that is copied to the first places.
use Rattle.std.proofs.Common.{◌≡◌, ℕ, List, ◌++◌, length, drop}
use Rattle.std.proofs.lemmas.List.{take_at, drop_at}
use Rattle.toposort.specs.Answer.{Writes}

pub writes_front : (P : List ℕ → Type 0) (k : ℕ) (old xs ys : List ℕ) → length xs ≡ k → ys ≡ xs → P xs → Writes k P old (ys ++ drop k old)
writes_front P k old xs ys size same is =
    rw same (rw (take_at xs (drop k old) k size) is, drop_at xs (drop k old) k size)
