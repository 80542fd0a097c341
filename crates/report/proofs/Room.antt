-- How much room words take, each with a character after it.
use Rattle.std.proofs.Common.{ℕ, ◌+◌, ◌*◌, ◌<◌, ◌≤◌, List, [], ◌∷◌, length, length-append, arith}
use Rattle.std.specs.List.{All, join_with_byte}
use Rattle.std.proofs.lemmas.List.Elements.{All-head, All-tail}

abbrev pub room : List (List ℕ) → ℕ
room [] = 0
room (w ∷ ws) = length w + 1 + room ws

pub joined_fits : (c : ℕ) (ws : List (List ℕ)) → length (join_with_byte c ws) ≤ room ws
joined_fits c [] = omega arith
joined_fits c (w ∷ []) = omega arith
joined_fits c (w ∷ (v ∷ ws)) = let rest = joined_fits c (v ∷ ws) in simp length-append (omega arith)

-- with the character after it, it takes no more than 8
abbrev pub Short : List ℕ → Type 0
Short w = length w < 8

pub short_words : (ws : List (List ℕ)) → All Short ws → room ws ≤ 8 * length ws
short_words [] all = omega arith
short_words (w ∷ ws) all =
    let first = All-head Short w ws all in
    let rest = short_words ws (All-tail Short w ws all) in
    omega arith
