-- Different numbers from a list are at most as many as the list has.
use Rattle.std.proofs.Common.{◌≡◌, ◌≢◌, ℕ, zero, suc, ◌+◌, ◌<◌, List, [], ◌∷◌, length, get_or, cond, eqb, sym, ap, ◌∙◌, arith}
use Rattle.std.proofs.lemmas.Bool.{cond_both, eqb-true}
use Rattle.std.proofs.lemmas.Bool.Decides.{nat_tests}
use Rattle.laying.specs.Gathers.{Listed}
use Rattle.toposort.proofs.Pigeons.{room}

-- where v first stands in the list
abbrev place : List ℕ → ℕ → ℕ
place [] v = 0
place (x ∷ l) v = cond (eqb x v) 0 (suc (place l v))

placed : (l : List ℕ) (v i : ℕ) → i < length l → get_or l i 0 ≡ v → (place l v < length l) × (get_or l (place l v) 0 ≡ v)
placed [] v i h e = absurd (omega arith)
placed (x ∷ l) v zero h e = grind (arith, nat_tests)
placed (x ∷ l) v (suc i) h e =
    let p = placed l v i (omega arith) e in
    cond_both (eqb x v) 0 (suc (place l v)) (λ j. (j < suc (length l)) × (get_or (x ∷ l) j 0 ≡ v))
    (λ t. (omega arith, eqb-true x v t))
    (λ t. (omega arith, p.1))

-- v is not among k different values from the list, so it has more
pub room_for_more : (l : List ℕ) (k v : ℕ) (f : ℕ → ℕ) → ((i : ℕ) → i < k → Listed l (f i)) → ((i j : ℕ) → i < j → j < k → f i ≢ f j) → Listed l v → ((i : ℕ) → i < k → f i ≢ v) → k < length l
room_for_more l k v f listed apart is new =
    room (length l) k (place l v + 1) (λ i. place l (f i) + 1)
    (λ i h. let p = at (f i) (listed i h) in (omega arith, omega arith))
    (λ i j h m e. apart i j h m (same (f i) (f j) (listed i (omega arith)) (listed j m) (omega arith)))
    (let p = at v is in (omega arith, omega arith))
    (λ i h e. new i h (same (f i) v (listed i h) is (omega arith)))
  where
    at : (w : ℕ) → Listed l w → (place l w < length l) × (get_or l (place l w) 0 ≡ w)
    at w (i, h, e) = placed l w i h e

    same : (w x : ℕ) → Listed l w → Listed l x → place l w ≡ place l x → w ≡ x
    same w x a b e = sym (at w a).1 ∙ (ap (λ j. get_or l j 0) e ∙ (at x b).1)
