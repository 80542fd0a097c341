-- Words joined one after another.
use Rattle.std.proofs.Common.{◌≡◌, ℕ, List, [], ◌∷◌, ◌++◌, map, sym, refl, ap, append-nil, append_assoc, ◌∙◌}
use Rattle.std.specs.List.{join_with_byte, flat_map}
use Rattle.verdicttext.specs.Text.{marked}

-- the first, and then each after the character between them
pub joined_from_first : (c : ℕ) (w : List ℕ) (ws : List (List ℕ)) → join_with_byte c (w ∷ ws) ≡ w ++ flat_map (marked c) ws
joined_from_first c w [] = sym (append-nil w)
joined_from_first c w (v ∷ ws) = ap (λ l. w ++ (c ∷ l)) (joined_from_first c v ws)

-- what stands between some words and one more
abbrev pub mark_after : {X : Type 0} → ℕ → List X → List ℕ
mark_after c [] = []
mark_after c (w ∷ ws) = c ∷ []

pub joined_more : {X : Type 0} (text : X → List ℕ) (c : ℕ) (ws : List X) (v : X)
    → join_with_byte c (map text (ws ++ v ∷ [])) ≡ join_with_byte c (map text ws) ++ (mark_after c ws ++ text v)
joined_more text c [] v = refl
joined_more text c (w ∷ []) v = refl
joined_more text c (w ∷ u ∷ ws) v = ap (λ l. text w ++ (c ∷ l)) (joined_more text c (u ∷ ws) v) ∙ sym (append_assoc (text w) (c ∷ _) (c ∷ text v))

pub mark_more : {X : Type 0} (c : ℕ) (ws : List X) (v : X) → c ∷ [] ≡ mark_after c (ws ++ v ∷ [])
mark_more c [] v = refl
mark_more c (w ∷ ws) v = refl

-- one word more, each after this character
pub marked_more : {X : Type 0} (text : X → List ℕ) (c : ℕ) (ws : List X) (v : X)
    → flat_map (marked c) (map text ws) ++ marked c (text v) ≡ flat_map (marked c) (map text (ws ++ v ∷ []))
marked_more text c [] v = sym (append-nil (marked c (text v)))
marked_more text c (w ∷ ws) v = append_assoc (marked c (text w)) _ _ ∙ ap (λ l. marked c (text w) ++ l) (marked_more text c ws v)
