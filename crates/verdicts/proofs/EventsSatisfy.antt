-- Of a run with no update, the order that is read off a listing of all events satisfies every axiom at whole scope.
use Rattle.std.proofs.Common.{inl, inr, ℕ, List, length, sym, subst, ◌∙◌, arith}
use Rattle.events.specs.Run.{Within, Update}
use Rattle.events.specs.Graph.{PoRf, Inside}
use Rattle.events.specs.declared.event.Event.{Event}
use Rattle.events.specs.Relations.{Rel, ◌∪◌, ◌⁺, one, more, Acyclic}
use Rattle.toposort.specs.Listing.{Ordered}
use Rattle.toposort.specs.Graph.{Node}
use Rattle.toposort.proofs.Laws.{every_node, edges_forward}
use Rattle.models.specs.Orders.{Before, Mo, MoOrders}
use Rattle.models.specs.Models.{Holds}
use Rattle.models.specs.declared.axiom.Axiom.{Axiom}
use Rattle.models.specs.declared.axiom.Axiom.TheVariants.{Causality, WriteCoherence, ReadCoherence, Atomicity}
use Rattle.models.specs.declared.scope.Scope.TheVariants.{Whole}
use Rattle.models.proofs.Orders.{mo_orders}
use Rattle.verdicts.specs.Steps.{TwoStores, ReadSteps}
use Rattle.verdicts.specs.Layings.{ReadsOff, LaysEvents}
use Rattle.verdicts.proofs.Chains.{store_update}
use Rattle.verdicts.proofs.Lists.{Once, place_once, listing_once, before_once}

module _ (l : List ℕ) (once : Once l) where
  before_joins : (a b c : ℕ) → Before l a b → Before l b c → Before l a c
  before_joins a b c (i, j, less, lt, e, f) (k, m, less₂, lt₂, g, h) =
      let same = place_once l once j k lt (omega arith) (f ∙ sym g) in
      (i, m, omega arith, lt₂, e, h)

  -- steps that lead forward in the list lead round nowhere
  module _ (r : Rel) (forward : (a b : ℕ) → r a b → Before l a b) where
    path_before : (a b : ℕ) → (r ⁺) a b → Before l a b
    path_before a b (one s) = forward a b s
    path_before a b (more {b = m} s p) = before_joins a m b (forward a m s) (path_before m b p)

    forward_acyclic : Acyclic r
    forward_acyclic a p = let b = path_before a a p in before_once l once a a b b

-- in a listing an edge between nodes leads forward
edge_before : (n : ℕ) (E : Rel) (l : List ℕ) → Ordered n E l → (a b : ℕ) → Node n a → Node n b → E a b → Before l a b
edge_before n E l t a b x y s =
    let (i, h, e) = every_node n E l t a x in
    let (j, m, f) = every_node n E l t b y in
    let whole = t.whole in
    (i, j, edges_forward n E l t i j h m (rw (e, f) s), omega arith, e, f)

module _ (es : List Event) (hb : Rel) (causal : Acyclic (PoRf es)) where
  module _ (o l : List ℕ) (listing : Ordered (length es) (hb ∪ ReadSteps es hb) l) (off : ReadsOff es l o) where
    step_before : (a b : ℕ) → Within es a → Within es b → (hb ∪ ReadSteps es hb) a b → Before l a b
    step_before = edge_before (length es) (hb ∪ ReadSteps es hb) l listing

    orders : MoOrders es (Mo es o)
    orders = mo_orders es o (off.lists)

    once : Once l
    once = listing_once (length es) (hb ∪ ReadSteps es hb) l listing

    mo_before : (a b : ℕ) → Mo es o a b → Before l a b
    mo_before a b ((i, j, less, lt, e, f), there) = rw (e, f) at (off.along i j less lt (rw (e, f) there))

    write_coherent : Inside es hb → Acyclic (hb ∪ Mo es o)
    write_coherent inside = forward_acyclic l once (hb ∪ Mo es o) forward
      where
        forward : (a b : ℕ) → (hb ∪ Mo es o) a b → Before l a b
        forward a b (inl h) = let (x, y) = inside a b h in step_before a b x y (inl h)
        forward a b (inr m) = mo_before a b m

    read_coherent : Holds ReadCoherence Whole es hb (Mo es o)
    read_coherent r (v, ((w, f, m), differs), step) =
        let (s, t, at) = orders.stores w v m in
        let two : TwoStores es v w = (t, s, sym at, λ e. orders.strict w (subst (λ z. Mo es o w z) e m)) in
        before_once l once w v (mo_before w v m) (step_before v w (t.0) (s.0) (inr (r, (two, step, f))))

    atomic : ((u : ℕ) → ¬ Update es u) → Holds Atomicity Whole es hb (Mo es o)
    atomic none u (v, ((w, f, m), differs), n) = none u (store_update es u (orders.stores v u n).1 (f.0))

  pub events_satisfy : (o : List ℕ) → ((u : ℕ) → ¬ Update es u) → LaysEvents es hb o → Inside es hb →
      (x : Axiom) → Holds x Whole es hb (Mo es o)
  events_satisfy o none laid inside Causality = causal
  events_satisfy o none (l, listing, off) inside WriteCoherence = write_coherent o l listing off inside
  events_satisfy o none (l, listing, off) inside ReadCoherence = read_coherent o l listing off
  events_satisfy o none (l, listing, off) inside Atomicity = atomic o l listing off none
