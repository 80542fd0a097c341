-- That the pairs of each of the models' rules are joined. These are proofs; they stand here since a law of an impl cites only what is
-- in specs/.
use Rattle.std.proofs.Common.{ℕ, List, inl, inr, sym}
use Rattle.events.specs.Run.{FullRun}
use Rattle.events.specs.Graph.{PoRf}
use Rattle.events.specs.declared.event.Event.{Event}
use Rattle.events.specs.Relations.{◌⁺, one, more}
use Rattle.events.specs.Paths.{path_join, path_through}
use Rattle.models.specs.Models.{rc20_rule, reads_from_rule, empty_rule}
use Rattle.models.specs.Walk.{Starts, Ends}
use Rattle.models.specs.Joined.{Joined}

module _ (es : List Event) where
  started : (a w r : ℕ) → Starts es a w → (PoRf es ⁺) w r → (PoRf es ⁺) a r
  started a w r (inl e) p = rw e p
  started a w r (inr s) p = rw s.1.0 (more (inl s.2) p)

  ended : (a r b : ℕ) → Ends es r b → (PoRf es ⁺) a r → (PoRf es ⁺) a b
  ended a r b (inl e) p = rw (sym e) p
  ended a r b (inr s) p = path_join p (one (inl (rw (sym (s.2.0)) (s.1))))

  pub rc20_joined : FullRun es → Joined es (rc20_rule es)
  rc20_joined full a b p =
      let q = p.2 in
      let s = q.2 in
      let e = s.2 in
      let middle = path_through (λ u v f. one (inr f)) (s.1) in
      rw (p.1.0) (rw (sym (e.2.0)) (ended (p.0) (s.0) (e.0) (e.1) (started (p.0) (q.0) (s.0) (q.1) middle)))

  pub reads_from_joined : FullRun es → Joined es (reads_from_rule es)
  reads_from_joined full a b p = one (inr p)

  pub empty_joined : FullRun es → Joined es (empty_rule es)
  empty_joined full a b p = absurd p
