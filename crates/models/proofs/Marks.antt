-- An array that holds one value, read anywhere, with that value past its end.
use Rattle.std.proofs.Common.{◌≡◌, ℕ, ⊎_elim, replicate, get_or, arith}
use Rattle.std.proofs.lemmas.Bool.{cases_lt}
use Rattle.std.proofs.lemmas.List.{get_or-replicate, get_or_past, length-replicate}

pub same_everywhere : {A : Type 0} (x : A) (n i : ℕ) → get_or (replicate n x) i x ≡ x
same_everywhere x n i =
    ⊎_elim (λ lt. get_or-replicate n i x x lt) (λ ge. get_or_past (replicate n x) i x (omega (arith, length-replicate n x))) (cases_lt i n)
