-- Along a causal order, what happens before an event stands before it.
use Rattle.std.proofs.Common.{◌≡◌, ◌↔◌, ◌⊎◌, IsTrue, ℕ, true, ◌<◌, ◌≤◌, List, length, take, get_or, inl, inr, ⊎_elim, refl, sym, subst, ◌∙◌, arith}
use Rattle.std.proofs.lemmas.Bool.Decides.{nat_tests}
use Rattle.std.proofs.lemmas.Bool.{cases_lt, false≢true}
use Rattle.std.proofs.lemmas.List.{get_or-take}
use Rattle.events.specs.Run.{Within, FullRun}
use Rattle.events.specs.Graph.{PoRf, Inside}
use Rattle.events.specs.declared.event.Event.{Event}
use Rattle.models.specs.Models.{Hb}
use Rattle.events.specs.Relations.{Rel, ◌⁺, one}
use Rattle.events.specs.Paths.{path_through}
use Rattle.toposort.specs.Graph.{Between}
use Rattle.toposort.proofs.Laws.{every_node, path_forward}
use Rattle.relation.specs.Pairs.{in_range}
use Rattle.models.specs.Joined.{Joined}
use Rattle.models.proofs.Inside.{step_inside, path_inside}
use Rattle.causality.specs.Causal.{CausalOrder, Step, event_at}
use Rattle.causality.specs.Rows.{Test, Rows}
use Rattle.causality.proofs.Rows.{Backed}
use Rattle.toposort.proofs.Pigeons.{Apart}

-- the graph of a run has all of its edges between its nodes
inside : (es : List Event) → FullRun es → (a b : ℕ) → PoRf es a b → (Between (length es) (PoRf es) ⁺) a b
inside es full a b s = let w = step_inside es full a b s in one (w.0, w.1, s)

pub path_of_steps : (es : List Event) (sw : Rel) → Joined es sw → (a b : ℕ) → Step sw es a b → (PoRf es ⁺) a b
path_of_steps es sw joined a b (inl p) = one (inl p)
path_of_steps es sw joined a b (inr s) = joined a b s

pub hb_inside : (es : List Event) → FullRun es → (sw : Rel) → Joined es sw → Inside es (Hb sw es)
hb_inside es full sw joined a b p = path_inside es full a b (path_through (path_of_steps es sw joined) p)

cases_within : (es : List Event) (b : ℕ) → Within es b ⊎ ¬ Within es b
cases_within es b =
    ⊎_elim (λ low. inr (λ w. let w = w.0 in omega arith))
    (λ low. ⊎_elim (λ high. inr (λ w. let w = w.1 in omega arith)) (λ high. inl (low, high)) (cases_lt (length es) b))
    (cases_lt b 1)

module _ (es : List Event) (listing : List ℕ) (full : FullRun es) (o : CausalOrder es listing) where
  at : (j : ℕ) → j < length es → get_or (take (length es) listing) j 0 ≡ event_at listing j
  at j lt = get_or-take (length es) listing j 0 lt

  pub order_apart : Apart (length es) (event_at listing)
  order_apart j k less lt same = (o.turns k lt).ready.0.1 (j, less, at j (omega arith) ∙ (same ∙ sym (at k lt)))

  pub order_all : (b : ℕ) → Within es b → (k : ℕ) × (k < length es) × (event_at listing k ≡ b)
  order_all b w = let p = every_node (length es) (PoRf es) (take (length es) listing) o b w in (p.0, p.1, sym (at (p.0) (p.1)) ∙ p.2)

  -- what a path leads from stands before what it leads to
  earlier : (a b : ℕ) → (PoRf es ⁺) a b → (k : ℕ) → k < length es → event_at listing k ≡ b → (j : ℕ) × (j < k) × (event_at listing j ≡ a)
  earlier a b p k lt e =
      let f = path_forward (length es) (PoRf es) (take (length es) listing) o a b (path_through (inside es full) p) k lt (at k lt ∙ e) in
      (f.0, f.1, sym (at (f.0) (let less = f.1 in omega arith)) ∙ f.2)

  pub order_backed : (sw : Rel) → Joined es sw → Backed (Step sw es) (length es) (event_at listing)
  order_backed sw joined k lt a s = earlier a (event_at listing k) (path_of_steps es sw joined a (event_at listing k) s) k lt refl

  -- every event in the order has a row of bits
  pub order_in_range : (k : ℕ) → k < length es → in_range (event_at listing k) ≡ true
  order_in_range k lt =
      let node = (o.turns k lt).ready.0.0 in
      let few = full.few in
      let same = at k lt in
      grind (arith, nat_tests)

  -- all rows done, the relation is that of the paths
  pub rows_all : (sw : Rel) → Joined es sw → (k : ℕ) (R : Test) → length es ≤ k → Rows (Step sw es) (length es) (event_at listing) k k R → (a b : ℕ) → IsTrue (R a b) ↔ (Step sw es ⁺) a b
  rows_all sw joined k R all r a b =
      ⊎_elim (λ w. let p = order_all b w in subst (λ z. IsTrue (R a z) ↔ (Step sw es ⁺) a z) (p.2) (r.done (p.0) (let lt = p.1 in omega arith) a))
      (λ n. (
        λ t. absurd (false≢true (sym (r.outside b (λ j lt e. n (subst (λ z. Within es z) (at j lt ∙ e) ((o.turns j lt).ready.0.0))) a) ∙ t)),
        λ p. absurd (n ((hb_inside es full sw joined a b p).1)),
      ))
      (cases_within es b)
