-- A run in other modes is the same run but for these, and again a full one. These are proofs; they stand here since an impl cites only
-- what is in specs/.
use Rattle.std.proofs.Common.{◌≡◌, ℕ, zero, suc, List, length, map, true, refl, sym, ap, subst, ◌∙◌, ⊎_elim, arith}
use Rattle.std.proofs.lemmas.Bool.{cases_lt}
use Rattle.std.proofs.lemmas.List.{length-map, get_or-map, get_or_past}
use Rattle.events.specs.Run.{at, no_event, Within, FullRun, Linked, Fits}
use Rattle.events.specs.Events.{allowed}
use Rattle.events.specs.Raw.{Legal}
use Rattle.events.specs.declared.event.Mode.{Mode}
use Rattle.events.specs.declared.event.Mode.TheVariants.{Relaxed}
use Rattle.events.specs.declared.event.Kind.{Kind}
use Rattle.events.specs.declared.event.Kind.TheVariants.{Read, Write, Update, Fence}
use Rattle.events.specs.declared.event.Event.{Event}
use Rattle.views.specs.Views.{strongest, with_mode, strengthened, relaxed}

-- the same events but for their modes
pub record SameButModes (es fs : List Event) : Type 0 where
  pub count : length fs ≡ length es
  pub thread : (i : ℕ) → (at fs i).thread ≡ (at es i).thread
  pub kind : (i : ℕ) → (at fs i).kind ≡ (at es i).kind
  pub location : (i : ℕ) → (at fs i).location ≡ (at es i).location
  pub writer : (i : ℕ) → (at fs i).writer ≡ (at es i).writer

module _ (mode : Event → Mode) where
  abbrev change : Event → Event
  change e = with_mode (mode e) e

  pub at_changed : (es : List Event) (i : ℕ) → Within es i → at (map change es) i ≡ change (at es i)
  at_changed es (suc k) w = get_or-map change es k no_event no_event (omega (arith, w.1))
  at_changed es zero w = absurd (omega (arith, w.0))

  -- what no mode says is the same of every number
  same_field : {A : Type 0} (f : Event → A) → ((e : Event) → f (change e) ≡ f e) → (es : List Event) (i : ℕ) → f (at (map change es) i) ≡ f (at es i)
  same_field f kept es zero = refl
  same_field f kept es (suc k) =
      ⊎_elim
      (λ lt. ap f (get_or-map change es k no_event no_event lt) ∙ kept (at es (suc k)))
      (λ ge. ap f (get_or_past (map change es) k no_event (omega (arith, ge, length-map es change)) ∙ sym (get_or_past es k no_event ge)))
      (cases_lt k (length es))

  pub same_but_modes : (es : List Event) → SameButModes es (map change es)
  same_but_modes es =
      record {
        count = length-map es change;
        thread = same_field (λ e. e.thread) (λ e. refl) es;
        kind = same_field (λ e. e.kind) (λ e. refl) es;
        location = same_field (λ e. e.location) (λ e. refl) es;
        writer = same_field (λ e. e.writer) (λ e. refl) es;
      }

  module _ (allows : (e : Event) → allowed e.kind (mode e) ≡ true) (es : List Event) (full : FullRun es) where
    inside : (i : ℕ) → Within (map change es) i → Within es i
    inside i w = (w.0, omega (arith, w.1, length-map es change))

    legal : (i : ℕ) → Within (map change es) i → Legal (at (map change es) i)
    legal i w =
        let was = full.legal i (inside i w) in
        subst Legal (sym (at_changed es i (inside i w))) (record { thread = was.thread; mode = allows (at es i); location = was.location })

    fits : (w r : ℕ) → Fits es w r → Fits (map change es) w r
    fits w r f =
        let s = same_but_modes es in
        record {
          other = f.other;
          store = ((f.store.0.0, omega (arith, f.store.0.1, s.count)), rw (s.kind w) (f.store.1));
          same = s.location w ∙ (f.same ∙ sym (s.location r));
        }

    linked : (i : ℕ) → Within (map change es) i → Linked (map change es) i
    linked i w =
        let s = same_but_modes es in
        let was = full.linked i (inside i w) in
        record {
          reads = λ load. rw (s.writer i) (fits (at es i).writer i (was.reads (rw (sym (s.kind i)) load)));
          others = λ other. s.writer i ∙ was.others (rw (sym (s.kind i)) other);
        }

    pub changed_full : FullRun (map change es)
    changed_full = record { few = omega (arith, full.few, length-map es change); legal = legal; linked = linked }

strongest_allowed : (e : Event) → allowed e.kind (strongest e.kind) ≡ true
strongest_allowed e = by_kind e.kind
  where
    by_kind : (k : Kind) → allowed k (strongest k) ≡ true
    by_kind Read = refl
    by_kind Write = refl
    by_kind Update = refl
    by_kind Fence = refl

relaxed_allowed : (e : Event) → allowed e.kind Relaxed ≡ true
relaxed_allowed e = by_kind e.kind
  where
    by_kind : (k : Kind) → allowed k Relaxed ≡ true
    by_kind Read = refl
    by_kind Write = refl
    by_kind Update = refl
    by_kind Fence = refl

pub strengthened_full : (es : List Event) → FullRun es → FullRun (strengthened es)
strengthened_full = changed_full (λ e. strongest e.kind) strongest_allowed

pub relaxed_full : (es : List Event) → FullRun es → FullRun (relaxed es)
relaxed_full = changed_full (λ e. Relaxed) relaxed_allowed
