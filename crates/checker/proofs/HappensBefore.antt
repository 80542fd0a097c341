-- Through the strengthened view RC20's happens-before is that of RA, and through the relaxed view that of Relaxed.
use Rattle.std.proofs.Common.{◌≡◌, ℕ, List, true, inl, inr, ⊎_elim, refl, sym, ◌∙◌, ap, arith}
use Rattle.std.proofs.lemmas.Bool.{false≢true}
use Rattle.events.specs.Relations.{one}
use Rattle.events.specs.Paths.{path_through}
use Rattle.events.specs.Run.{at, Within, FullRun}
use Rattle.events.specs.Graph.{Rf}
use Rattle.events.specs.Events.{is_load, is_store, acquires, releases}
use Rattle.events.specs.declared.event.Kind.{Kind}
use Rattle.events.specs.declared.event.Kind.TheVariants.{Read, Write, Update, Fence}
use Rattle.events.specs.declared.event.Mode.TheVariants.{Relaxed as RelaxedMode}
use Rattle.events.specs.declared.event.Event.{Event}
use Rattle.models.specs.JoinedRules.{rc20_joined}
use Rattle.models.specs.Models.{Hb, rc20_rule, reads_from_rule, empty_rule}
use Rattle.verdicts.proofs.Chains.{writer_store}
use Rattle.judge.proofs.Verdicts.{hb_path}
use Rattle.views.specs.Views.{strongest, strengthened, relaxed}
use Rattle.views.specs.Laws.{SameButModes, at_changed, same_but_modes, strengthened_full}
use Rattle.checker.proofs.Alike.{alike_turned, within, po, rf, po_rf}

store_releases : (k : Kind) → is_store k ≡ true → releases (strongest k) ≡ true
store_releases Read e = e
store_releases Write e = refl
store_releases Update e = refl
store_releases Fence e = refl

load_acquires : (k : Kind) → is_load k ≡ true → acquires (strongest k) ≡ true
load_acquires Read e = refl
load_acquires Write e = e
load_acquires Update e = refl
load_acquires Fence e = refl

pub strengthened_alike : (es : List Event) → SameButModes es (strengthened es)
strengthened_alike es = same_but_modes (λ e. strongest e.kind) es

pub relaxed_alike : (es : List Event) → SameButModes es (relaxed es)
relaxed_alike es = same_but_modes (λ e. RelaxedMode) es

module _ (es : List Event) (full : FullRun es) where
  -- every store releases and every load acquires
  rf_syncs : (w r : ℕ) → Rf es w r → rc20_rule (strengthened es) w r
  rf_syncs w r f =
      let store = writer_store es full w r f in
      let seen : (i : ℕ) → Within es i → (at (strengthened es) i).mode ≡ strongest (at es i).kind = λ i is. ap (λ e. e.mode) (at_changed (λ e. strongest e.kind) es i is) in
      let release = ap releases (seen w (store.0)) ∙ store_releases (at es w).kind (store.1) in
      let acquire = ap acquires (seen r (f.0.0)) ∙ load_acquires (at es r).kind (f.0.1) in
      let into = within es (strengthened es) (strengthened_alike es) in
      (w, (refl, (into w (store.0), release)), (w, inl refl, (r, one (rf es (strengthened es) (strengthened_alike es) w r f), (r, inl refl, (refl, (into r (f.0.0), acquire))))))

  pub strengthened_hb : (a b : ℕ) → Hb (rc20_rule (strengthened es)) (strengthened es) a b → Hb (reads_from_rule es) es a b
  strengthened_hb a b p =
      po_rf (strengthened es) es (alike_turned es (strengthened es) (strengthened_alike es)) a b
      (hb_path (strengthened es) (strengthened_full es full) (rc20_rule (strengthened es)) (rc20_joined (strengthened es) (strengthened_full es full)) a b p)

  pub ra_hb : (a b : ℕ) → Hb (reads_from_rule es) es a b → Hb (rc20_rule (strengthened es)) (strengthened es) a b
  ra_hb a b p = path_through (λ u v s. one (⊎_elim (λ k. inl (po es (strengthened es) (strengthened_alike es) u v k)) (λ k. inr (rf_syncs u v k)) s)) p

  -- nothing releases
  none_syncs : (a b : ℕ) → ¬ rc20_rule (relaxed es) a b
  none_syncs a b (x, (e, (is, release)), rest) =
      let from : Within es a = (is.0, omega (arith, is.1, (relaxed_alike es).count)) in
      absurd (false≢true (sym (ap (λ e. releases e.mode) (at_changed (λ e. RelaxedMode) es a from)) ∙ release))

  pub relaxed_hb : (a b : ℕ) → Hb (rc20_rule (relaxed es)) (relaxed es) a b → Hb (empty_rule es) es a b
  relaxed_hb a b p =
      path_through (λ u v s. one (⊎_elim (λ k. inl (po (relaxed es) es (alike_turned es (relaxed es) (relaxed_alike es)) u v k)) (λ k. absurd (none_syncs u v k)) s)) p

  pub empty_hb : (a b : ℕ) → Hb (empty_rule es) es a b → Hb (rc20_rule (relaxed es)) (relaxed es) a b
  empty_hb a b p = path_through (λ u v s. one (⊎_elim (λ k. inl (po es (relaxed es) (relaxed_alike es) u v k)) (λ k. absurd k) s)) p
