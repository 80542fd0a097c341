-- Lists in which nothing stands twice.
use Rattle.std.proofs.Common.{◌≡◌, ◌≢◌, ◌<◌, ℕ, List, length, get_or, sym, ◌∙◌, arith}
use Rattle.events.specs.Relations.{Rel}
use Rattle.toposort.specs.Listing.{Ordered}
use Rattle.models.specs.Orders.{Before}

-- nothing stands at two places
abbrev pub Once : List ℕ → Type 0
Once l = (i j : ℕ) → i < j → j < length l → get_or l i 0 ≢ get_or l j 0

pub place_once : (l : List ℕ) → Once l → (i j : ℕ) → i < length l → j < length l → get_or l i 0 ≡ get_or l j 0 → i ≡ j
place_once l once i j h k e = grind (arith, once i j, once j i)

-- of two, one alone stands before the other
pub before_once : (l : List ℕ) → Once l → (a b : ℕ) → Before l a b → ¬ Before l b a
before_once l once a b (i, j, less, lt, e, f) (k, m, less₂, lt₂, g, h) =
    let p = place_once l once i m (omega arith) lt₂ (e ∙ sym h) in
    let q = place_once l once j k lt (omega arith) (f ∙ sym g) in
    omega arith

-- in a listing no node stands twice
pub listing_once : (n : ℕ) (E : Rel) (l : List ℕ) → Ordered n E l → Once l
listing_once n E l t i j less lt e = let w = t.whole in (t.turns j (omega arith)).ready.0.1 (i, less, e)
