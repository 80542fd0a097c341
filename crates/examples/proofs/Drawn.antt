-- A run with its paths listed, and happens-before by these.
use Rattle.std.proofs.Common.{◌≡◌, ◌↔◌, inl, inr, ℕ, List, Ok, refl, ◌∙◌, arith}
use Rattle.std.proofs.Math.Decide.{map_dec}
use Rattle.events.specs.Events.{acquires, releases}
use Rattle.events.specs.Run.{at, Fence, FullRun}
use Rattle.events.specs.Graph.{Po, Rf, PoRf, Inside}
use Rattle.events.specs.Relations.{Rel, ◌∪◌, ◌⁺, one, more, Acyclic}
use Rattle.events.specs.declared.event.Event.{Event}
use Rattle.events.specs.declared.event.Kind.TheVariants.{Fence as FenceKind}
use Rattle.models.specs.Joined.{Joined}
use Rattle.models.specs.JoinedRules.{rc20_joined, reads_from_joined, empty_joined}
use Rattle.models.specs.Models.{Release, Acquire, Hb, rc20_rule, empty_rule, rule_of}
use Rattle.models.specs.declared.name.ModelName.{ModelName}
use Rattle.models.specs.declared.name.ModelName.TheVariants.{Rc20, Ra, Sra, Wra, Relaxed}
use Rattle.models.proofs.Inside.{step_inside, path_inside}
use Rattle.causality.proofs.Orders.{hb_inside}
use Rattle.runlog.specs.Reading.{reading}
use Rattle.runlog.specs.Spelling.{spelling}
use Rattle.runlog.proofs.Laws.{full_from_reading}
use Rattle.examples.proofs.Decisions.{dec_and, dec_and3, dec_or, dec_not, dec_all, IsYes, decided}
use Rattle.examples.proofs.Tables.{Tables, tables, dec_table, dec_listed}
use Rattle.examples.proofs.Deciding.{bound, within_low, dec_within, dec_kind, dec_true, dec_po, dec_rf}

pub joined : (m : ModelName) (es : List Event) → FullRun es → Joined es (rule_of m es)
joined Rc20 es full = rc20_joined es full
joined Ra es full = reads_from_joined es full
joined Sra es full = reads_from_joined es full
joined Wra es full = reads_from_joined es full
joined Relaxed es full = empty_joined es full

module _ (es : List Event) where
  abbrev pub NoFence : Type 0
  NoFence = (i : ℕ) → ¬ Fence es i

  abbrev pub dec_no_fence : Dec NoFence
  dec_no_fence =
      dec_all (bound es) _ (λ i q f. q (within_low es i (f.0)) f)
      (λ i. dec_not (dec_and (dec_within es i) (dec_kind (at es i).kind FenceKind)))

  -- with no fences a release synchronises with an acquire at the end of a path of reads-from
  pub rc20_plain : NoFence → (a b : ℕ) → rc20_rule es a b ↔ Release es a × (Rf es ⁺) a b × Acquire es b
  rc20_plain none a b = (to, λ (r, p, q). (a, (refl, r), (a, inl refl, (b, p, (b, inl refl, (refl, q))))))
    where
      to : rc20_rule es a b → Release es a × (Rf es ⁺) a b × Acquire es b
      to (x, (e, r), (y, inr s, rest)) = absurd (none x (s.1.1))
      to (x, (e, r), (y, inl d, (u, p, (v, inr s, k)))) = absurd (none (s.0) (s.2.1))
      to (x, (e, r), (y, inl d, (u, p, (v, inl f, (g, q))))) =
          let path : (Rf es ⁺) a b = rw (e, d, ← g, ← f) p in
          let acquires : Acquire es b = rw (← g) q in
          (r, path, acquires)

  -- program order joins whatever a path of it joins
  pub po_path : (a b : ℕ) → Hb (empty_rule es) es a b → Po es a b
  po_path a b (one (inl p)) = p
  po_path a b (one (inr s)) = absurd s
  po_path a b (more (inr s) q) = absurd s
  po_path a b (more {b = m} (inl (v, w, same, up)) q) = let (_, x, too, on) = po_path m b q in (v, x, same ∙ too, omega arith)

  abbrev pub dec_ra : (a b : ℕ) → Dec (PoRf es a b)
  dec_ra a b = dec_or (dec_po es a b) (dec_rf es a b)

  -- a full run: f are the pairs that paths of reads-from join, and g and h those that happens-before of RA and of RC20 does
  pub record Drawn (f g h : List ℕ) : Type 0 where
    pub full : FullRun es
    pub reads : Tables (Rf es) f
    pub ra : Tables (PoRf es) g
    pub rc20 : Tables (Po es ∪ rc20_rule es) h

  module _ (f g h : List ℕ) where
    abbrev pub dec_rc20 : NoFence → Tables (Rf es) f → (a b : ℕ) → Dec ((Po es ∪ rc20_rule es) a b)
    dec_rc20 none reads a b =
        dec_or (dec_po es a b)
        (map_dec ((rc20_plain none a b).1) ((rc20_plain none a b).0)
        (dec_and3 (dec_and (dec_within es a) (dec_true (releases (at es a).mode)))
        (map_dec ((reads a b).0) ((reads a b).1) (dec_listed f a b))
        (dec_and (dec_within es b) (dec_true (acquires (at es b).mode)))))

    module _ (reads_back : reading (spelling es) ≡ Ok es) where
      pub is_full : FullRun es
      is_full = full_from_reading (spelling es) es reads_back

      table : (R : Rel) → Inside es R → (d : (a b : ℕ) → Dec (R a b)) (l : List ℕ) → IsYes (dec_table R (bound es) d l) →
          Tables R l
      table R inside d l t =
          let (built, closed) = decided _ t in
          tables R (bound es) (λ a b s. let (v, w) = inside a b s in (within_low es a v, within_low es b w)) l built closed

      pub reads_table : IsYes (dec_table (Rf es) (bound es) (dec_rf es) f) → Tables (Rf es) f
      reads_table t = table (Rf es) (λ a b s. step_inside es is_full a b (inr s)) (dec_rf es) f t

      pub drawn : (none : IsYes dec_no_fence) (t : IsYes (dec_table (Rf es) (bound es) (dec_rf es) f)) →
          IsYes (dec_table (PoRf es) (bound es) dec_ra g) →
          IsYes (dec_table (Po es ∪ rc20_rule es) (bound es) (dec_rc20 (decided _ none) (reads_table t)) h) → Drawn f g h
      drawn none t u v =
          let rc20 = dec_rc20 (decided _ none) (reads_table t) in
          record {
            full = is_full;
            reads = reads_table t;
            ra = table (PoRf es) (step_inside es is_full) dec_ra g u;
            rc20 =
                table (Po es ∪ rc20_rule es) (λ a b s. hb_inside es is_full (rc20_rule es) (joined Rc20 es is_full) a b (one s))
                rc20 h v;
          }

module _ {es : List Event} {f g h : List ℕ} (d : Drawn es f g h) where
  pub inside : (m : ModelName) → Inside es (Hb (rule_of m es) es)
  inside m = hb_inside es (d.full) (rule_of m es) (joined m es (d.full))

  abbrev pub dec_paths : (a b : ℕ) → Dec ((PoRf es ⁺) a b)
  dec_paths a b = map_dec ((d.ra a b).0) ((d.ra a b).1) (dec_listed g a b)

  abbrev pub dec_hb : (m : ModelName) (a b : ℕ) → Dec (Hb (rule_of m es) es a b)
  dec_hb Rc20 a b = map_dec ((d.rc20 a b).0) ((d.rc20 a b).1) (dec_listed h a b)
  dec_hb Ra a b = dec_paths a b
  dec_hb Sra a b = dec_paths a b
  dec_hb Wra a b = dec_paths a b
  dec_hb Relaxed a b = map_dec (λ p. one (inl p)) (po_path es a b) (dec_po es a b)

  abbrev pub dec_acyclic : Dec (Acyclic (PoRf es))
  dec_acyclic =
      dec_all (bound es) _ (λ a q p. q (within_low es a ((path_inside es (d.full) a a p).0)) p) (λ a. dec_not (dec_paths a a))
