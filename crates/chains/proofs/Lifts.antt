-- A relation to which pairs are added, number after number.
use Rattle.std.proofs.Common.{◌↔◌, ◌⊎◌, ℕ, ◌<◌, List, arith}
use Rattle.events.specs.Run.{Within}
use Rattle.events.specs.Lowest.{IsLowest, IsLowestPair}
use Rattle.events.specs.Relations.{Rel}
use Rattle.events.specs.declared.event.Event.{Event}
use Rattle.chains.specs.Lift.{KeptFor, LiftsBy}

-- R has the pairs of O, and those of P for each number below k
abbrev pub AddedBelow : Rel → (ℕ → Rel) → ℕ → Rel → Type 0
AddedBelow O P k R = (a b : ℕ) → R a b ↔ (O a b ⊎ ((y : ℕ) × (y < k) × P y a b))

module _ (es : List Event) (hb : Rel) (from to : List ℕ) where
  -- the events lie in the run
  pub lifts_inside : KeptFor es from → KeptFor es to → (x y a b : ℕ) → LiftsBy es hb from to x y a b → Within es x × Within es y
  lifts_inside f t x y a b (l, (e, p), (g, q), differs) = (f.inside x (omega arith), t.inside y (omega arith))

-- what is lowest with a property is lowest with another that the same numbers have
lowest_same : (P Q : ℕ → Type 0) → ((x : ℕ) → P x → Q x) → ((x : ℕ) → Q x → P x) → (a : ℕ) → IsLowest P a → IsLowest Q a
lowest_same P Q to from a l = record { is = to a l.is; first = λ j low q. l.first j low (from j q) }

pub lowest_pair_same : (R S : Rel) → ((x y : ℕ) → R x y → S x y) → ((x y : ℕ) → S x y → R x y) → (a b : ℕ) → IsLowestPair R a b → IsLowestPair S a b
lowest_pair_same R S to from a b l =
    record {
      first = lowest_same (λ x. (y : ℕ) × R x y) (λ x. (y : ℕ) × S x y) (λ x (y, r). (y, to x y r)) (λ x (y, s). (y, from x y s)) a l.first;
      second = lowest_same (R a) (S a) (to a) (from a) b l.second;
    }
