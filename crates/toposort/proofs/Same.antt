-- A listing or a cycle of one graph is one of another that has the same edges.
use Rattle.std.proofs.Common.{◌↔◌, inl, inr, ⊎_elim, ℕ, List}
use Rattle.events.specs.Relations.{Rel, ◌∪◌}
use Rattle.toposort.specs.Answer.{WritesAnyCycle}
use Rattle.toposort.specs.Listing.{Ready, Ordered}
use Rattle.toposort.specs.Cycle.{IsCycle}

abbrev pub SamePairs : Rel → Rel → Type 0
SamePairs E F = (a b : ℕ) → E a b ↔ F a b

pub same_union : (P E F : Rel) → SamePairs E F → SamePairs (P ∪ E) (P ∪ F)
same_union P E F same a b = (⊎_elim (λ p. inl p) (λ e. inr ((same a b).0 e)), ⊎_elim (λ p. inl p) (λ f. inr ((same a b).1 f)))

module _ (n : ℕ) (E F : Rel) (same : SamePairs E F) where
  ready_same : (l : List ℕ) (k v : ℕ) → Ready n E l k v → Ready n F l k v
  ready_same l k v (left, free) = (left, λ u is f. free u is ((same u v).1 f))

  ready_back : (l : List ℕ) (k v : ℕ) → Ready n F l k v → Ready n E l k v
  ready_back l k v (left, free) = (left, λ u is e. free u is ((same u v).0 e))

  pub ordered_same : (l : List ℕ) → Ordered n E l → Ordered n F l
  ordered_same l o =
      record {
        whole = o.whole;
        turns = λ k lt. let t = o.turns k lt in record {
          ready = ready_same l k _ t.ready;
          lowest = λ w less r. t.lowest w less (ready_back l k w r);
        };
      }

  cycle_same : (c : List ℕ) → IsCycle n E c → IsCycle n F c
  cycle_same c is =
      record {
        some = is.some;
        nodes = is.nodes;
        apart = is.apart;
        joined = λ i lt. (same _ _).0 (is.joined i lt);
        closed = (same _ _).0 is.closed;
      }

  pub shown_same : (old new : List ℕ) (k : ℕ) → WritesAnyCycle k n E old new → WritesAnyCycle k n F old new
  shown_same old new k (few, (is, rest)) = (few, (cycle_same _ is, rest))
