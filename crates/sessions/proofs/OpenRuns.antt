-- A run that is being recorded stays one under each call that is obeyed.
use Rattle.std.proofs.Common.{◌≡◌, ◌≢◌, ℕ, zero, suc, ◌+◌, ◌-◌, ◌<◌, ◌≤◌, List, [], ◌∷◌, ◌++◌, length, take, set, refl, sym, ap, ◌∙◌, ◌⊎◌, inl, inr, arith}
use Rattle.std.proofs.lemmas.Bool.{cases_lt, cases_eq}
use Rattle.std.proofs.lemmas.List.{length_push, get_or_push, get_or_append_left, length-set, get_or-set_same, get_or-set_other, length-take, get_or-take}
use Rattle.events.specs.Events.{is_load, is_store}
use Rattle.events.specs.Raw.{Legal, raw_of}
use Rattle.events.specs.Run.{at, no_event, Within, MayRead}
use Rattle.events.specs.declared.event.Event.{Event}
use Rattle.events.specs.declared.raw.RawEvent.{RawEvent}
use Rattle.events.proofs.Fields.{checked_legal}
use Rattle.events.proofs.Numbers.{writer_within}
use Rattle.recorder.specs.Edits.{with_writer}
use Rattle.recorder.proofs.Runs.{OpenRun}
use Rattle.sessions.proofs.Obeyed.{Appended, Linked, Retracted}

pub open_none : OpenRun []
open_none = record { few = omega arith; legal = λ i within. absurd (omega arith); fitted = λ i some. let w = writer_within [] i some in absurd (omega arith) }

-- events that two runs have in common are read alike
pub record Alike (es fs : List Event) (i : ℕ) : Type 0 where
  pub kind : (at es i).kind ≡ (at fs i).kind
  pub location : (at es i).location ≡ (at fs i).location

pub may_read_alike : (es fs : List Event) (w i : ℕ) → MayRead es w i → Within fs w → Within fs i → Alike es fs w → Alike es fs i → MayRead fs w i
may_read_alike es fs w i r w_in i_in w_same i_same = (
  (i_in, ap is_load (sym i_same.kind) ∙ r.0.1),
  record { other = r.1.other; store = (w_in, ap is_store (sym w_same.kind) ∙ r.1.store.1); same = sym w_same.location ∙ r.1.same ∙ i_same.location },
)

-- the same event is alike
same_alike : (es fs : List Event) (i : ℕ) → at es i ≡ at fs i → Alike es fs i
same_alike es fs i is = record { kind = ap (λ e. e.kind) is; location = ap (λ e. e.location) is }

-- after an event is appended
pub at_appended : (es : List Event) (e : Event) (i : ℕ) → Within es i → at es i ≡ at (es ++ e ∷ []) i
at_appended es e i within = sym (get_or_append_left (no_event ∷ es) (e ∷ []) no_event i (omega arith))

pub at_last : (es : List Event) (e : Event) → at (es ++ e ∷ []) (length es + 1) ≡ e
at_last es e = get_or_push (no_event ∷ es) e no_event (length es + 1) (omega arith)

module _ (es : List Event) (run : OpenRun es) (x : RawEvent) (now : List Event) (a : Appended x es now) (unlinked : x.writer ≡ 0) where
  abbrev e : Event
  e = a.event

  abbrev fs : List Event
  fs = es ++ e ∷ []

  long : length fs ≡ length es + 1
  long = length_push es e

  pub numbers : raw_of e ≡ x
  numbers = (checked_legal x e a.passes).1

  legal_at : (i : ℕ) → Within fs i → (i < length es + 1) ⊎ (length es + 1 ≤ i) → Legal (at fs i)
  legal_at i within (inl less) = let inside : Within es i = (within.0, omega arith) in rw (← (at_appended es e i inside)) (run.legal i inside)
  legal_at i within (inr more) = let last : i ≡ length es + 1 = omega (arith, long) in rw (last, at_last es e) (checked_legal x e a.passes).0

  fitted_at : (i : ℕ) → Within fs i → (at fs i).writer ≢ 0 → (i < length es + 1) ⊎ (length es + 1 ≤ i) → MayRead fs (at fs i).writer i
  fitted_at i within some (inl less) =
      let inside : Within es i = (within.0, omega arith) in
      let same = at_appended es e i inside in
      let reads = run.fitted i (rw same some) in
      let w_in = reads.1.store.0 in
      rw (ap (λ y. y.writer) (sym same)) (may_read_alike es fs _ i reads (w_in.0, omega (arith, long)) within (same_alike es fs _ (at_appended es e _ w_in)) (same_alike es fs i same))
  fitted_at i within some (inr more) =
      let last : i ≡ length es + 1 = omega (arith, long) in
      let none : e.writer ≡ 0 = ap (λ y. y.writer) numbers ∙ unlinked in
      absurd (some (rw (last, at_last es e) none))

  pub open_appended : OpenRun now
  open_appended =
      rw a.last (record {
        few = omega (arith, long, a.room);
        legal = λ i within. legal_at i within (cases_lt i (length es + 1));
        fitted = λ i some. fitted_at i (writer_within fs i some) some (cases_lt i (length es + 1));
      })

-- after a writer is set
pub at_set_same : (es : List Event) (i : ℕ) (e : Event) → Within es i → at (set es (i - 1) e) i ≡ e
at_set_same es zero e within = absurd (omega arith)
at_set_same es (suc k) e within = let one : suc k - 1 ≡ k = omega arith in rw one (get_or-set_same es k e no_event (omega arith))

pub at_set_other : (es : List Event) (i j : ℕ) (e : Event) → 1 ≤ i → j ≢ i → at (set es (i - 1) e) j ≡ at es j
at_set_other es zero j e low other = absurd (omega arith)
at_set_other es (suc k) zero e low other = refl
at_set_other es (suc k) (suc j) e low other = let one : suc k - 1 ≡ k = omega arith in rw one (get_or-set_other es k j e no_event (omega arith))

module _ (es : List Event) (run : OpenRun es) (i w : ℕ) (now : List Event) (l : Linked i w es now) where
  abbrev gs : List Event
  gs = with_writer es i w

  abbrev linked_event : Event
  linked_event = record (at es i) { writer = w }

  same_long : length gs ≡ length es
  same_long = length-set es (i - 1) linked_event

  gs_same : (j : ℕ) → j ≢ i → at gs j ≡ at es j
  gs_same j other = at_set_other es i j linked_event l.load.0.0 other

  gs_here : at gs i ≡ linked_event
  gs_here = at_set_same es i linked_event l.load.0

  alike_by : (j : ℕ) → (j ≡ i) ⊎ (j ≢ i) → Alike es gs j
  alike_by j (inl is) = rw is (record { kind = ap (λ e. e.kind) (sym gs_here); location = ap (λ e. e.location) (sym gs_here) })
  alike_by j (inr other) = same_alike es gs j (sym (gs_same j other))

  alike : (j : ℕ) → Alike es gs j
  alike j = alike_by j (cases_eq j i)

  inside_gs : (j : ℕ) → Within es j → Within gs j
  inside_gs j within = (within.0, omega (arith, same_long))

  keeps_reading : (v j : ℕ) → MayRead es v j → MayRead gs v j
  keeps_reading v j r = may_read_alike es gs v j r (inside_gs v r.1.store.0) (inside_gs j r.0.0) (alike v) (alike j)

  legal_in : (j : ℕ) → Within gs j → (j ≡ i) ⊎ (j ≢ i) → Legal (at gs j)
  legal_in j within (inl is) = let h = run.legal i l.load.0 in rw (is, gs_here) (record { thread = h.thread; mode = h.mode; location = h.location })
  legal_in j within (inr other) = rw (gs_same j other) (run.legal j (within.0, omega (arith, same_long)))

  fitted_in : (j : ℕ) → (at gs j).writer ≢ 0 → (j ≡ i) ⊎ (j ≢ i) → MayRead gs (at gs j).writer j
  fitted_in j some (inl is) =
      let sets : (at gs j).writer ≡ w = ap (λ k. (at gs k).writer) is ∙ ap (λ y. y.writer) gs_here in
      rw (sets, is) (keeps_reading w i (l.fits (rw sets at some)))
  fitted_in j some (inr other) =
      let same = ap (λ y. y.writer) (gs_same j other) in
      rw same (keeps_reading _ j (run.fitted j (rw same at some)))

  pub open_linked : OpenRun now
  open_linked = rw l.gives (record { few = omega (arith, same_long, run.few); legal = λ j within. legal_in j within (cases_eq j i); fitted = λ j some. fitted_in j some (cases_eq j i) })

-- after the last event is dropped
pub at_take : (es : List Event) (n i : ℕ) → i ≤ n → at (take n es) i ≡ at es i
at_take es n i low = get_or-take (suc n) (no_event ∷ es) i no_event (omega arith)

module _ (es : List Event) (run : OpenRun es) (now : List Event) (t : Retracted es now) where
  abbrev hs : List Event
  hs = take (length es - 1) es

  shorter : length hs ≡ length es - 1
  shorter = omega (arith, length-take (length es - 1) es)

  -- what an event that is left reads from is left too
  fitted_left : (i : ℕ) → (at hs i).writer ≢ 0 → MayRead hs (at hs i).writer i
  fitted_left i some =
      let within = writer_within hs i some in
      let same = at_take es (length es - 1) i (omega (arith, shorter)) in
      let reads = run.fitted i (rw same at some) in
      let w_in = reads.1.store.0 in
      let left : (at es i).writer ≢ length es = λ last. t.unread i (reads.0, last) in
      let low : (at es i).writer ≤ length es - 1 = omega arith in
      rw (ap (λ y. y.writer) same) (may_read_alike es hs _ i reads (w_in.0, omega (arith, shorter)) within (same_alike es hs _ (sym (at_take es (length es - 1) _ low))) (same_alike es hs i (sym same)))

  pub open_retracted : OpenRun now
  open_retracted =
      rw t.rest (record {
        few = omega (arith, shorter, run.few);
        legal = λ i within. rw (at_take es (length es - 1) i (omega (arith, shorter))) (run.legal i (within.0, omega (arith, shorter)));
        fitted = fitted_left;
      })
