-- The causal order of a run, by places.
use Rattle.std.proofs.Common.{◌≡◌, ℕ, ◌<◌, List, length, get_or, subst, arith}
use Rattle.events.specs.Run.{Within, FullRun}
use Rattle.events.specs.Graph.{PoRf}
use Rattle.events.specs.declared.event.Event.{Event}
use Rattle.events.specs.Relations.{◌⁺, one, Acyclic}
use Rattle.events.specs.Paths.{path_through}
use Rattle.toposort.specs.Listing.{Placed, Ordered}
use Rattle.toposort.proofs.Laws.{every_node, path_forward, tells, between_acyclic}
use Rattle.models.proofs.Inside.{step_inside}
use Rattle.chains.specs.Numbers.{PlacesIn, EventNumbers}

module _ (es : List Event) (full : FullRun es) (order : List ℕ) (ordered : Ordered (length es) (PoRf es) order) where
  pub order_causal : Acyclic (PoRf es)
  order_causal = (between_acyclic (length es) (PoRf es) (step_inside es full)).0 ((tells (length es) (PoRf es)).listing order ordered)

  pub order_numbers : EventNumbers order
  order_numbers =
      let whole = ordered.whole in
      let few = full.few in
      record {
        few = omega arith;
        fit = λ k lt. let node = (ordered.turns k (omega arith)).ready.0.0 in let high = node.1 in omega arith;
        apart = λ j k less lt same. (ordered.turns k (omega arith)).ready.0.1 (j, less, same);
      }

  pub order_all : (x : ℕ) → Within es x → Placed order (length es) x
  order_all x w = every_node (length es) (PoRf es) order ordered x w

  -- what a path leads from has an earlier place
  pub path_earlier : (a b : ℕ) → (PoRf es ⁺) a b → (k : ℕ) → k < length es → get_or order k 0 ≡ b → Placed order k a
  path_earlier a b p k lt e =
      path_forward (length es) (PoRf es) order ordered a b
      (path_through (λ u v s. let w = step_inside es full u v s in one (w.0, w.1, s)) p) k lt e

  -- the place that is kept for an event
  pub place_rises : (places : List ℕ) → PlacesIn (length es) order places → (a b : ℕ) → Within es b → (PoRf es ⁺) a b → get_or places a 0 < get_or places b 0
  place_rises places is a b w p =
      let (k, lt, e) = order_all b w in
      let (j, less, f) = path_earlier a b p k lt e in
      let x = subst (λ z. get_or places z 0 ≡ j) f (is j (omega arith)) in
      let y = subst (λ z. get_or places z 0 ≡ k) e (is k lt) in
      omega arith
