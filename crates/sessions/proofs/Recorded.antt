-- The reference model obeys the calls that record a run.
use Rattle.std.proofs.Common.{◌≡◌, ◌≢◌, ℕ, zero, suc, ◌+◌, ◌-◌, ◌<◌, ◌≤◌, min, Bool, true, false, List, [], ◌∷◌, ◌++◌, length, map, Ok, refl, sym, ap, ◌∙◌, ◌⊎◌, inl, inr, arith}
use Rattle.std.proofs.lemmas.Bool.{cond_both, cases_lt, cases_eq}
use Rattle.std.proofs.lemmas.Bool.Decides.{nat_tests}
use Rattle.std.proofs.lemmas.List.{append-nil, append_assoc, length-append, length-map, length_push, length-set, ext_get_or}
use Rattle.std.proofs.lemmas.List.FromFn.{length-range_with_len, length-map-range_with_len, get_or-map-range_with_len}
use Rattle.std.specs.List.{filter, range_with_len}
use Rattle.events.specs.Limits.{max_events}
use Rattle.events.specs.Events.{kind_number, mode_number, is_load}
use Rattle.events.specs.Raw.{Legal, raw_of}
use Rattle.events.specs.Run.{at, no_event, Within, Load, MayRead, FullRun}
use Rattle.events.specs.declared.event.Event.{Event as EventOf}
use Rattle.events.proofs.Fields.{legal_checked}
use Rattle.recorder.specs.Edits.{Edited, unlinked, note_edit, link_edit, with_writer, seal_edit, complete}
use Rattle.recorder.proofs.Lowest.{none_lowest}
use Rattle.recorder.proofs.Refusals.{Decides-may_read, Decides-lacks_writer}
use Rattle.sessions.specs.Calls.{Step, call_at, after, answer_after, answers_to}
use Rattle.sessions.specs.Reference.{Reference, fresh, model_step, unless_short, event_answer}
use Rattle.sessions.specs.Recording.{note_of, numbers, loads, notes, links, questions, recording, recorded, Records}
use Rattle.sessions.specs.declared.calls.Call.{Call}
use Rattle.sessions.specs.declared.calls.Call.TheVariants.{Link, Seal, Count, Event}
use Rattle.sessions.specs.declared.calls.Answer.{Answer}
use Rattle.sessions.specs.declared.calls.Answer.TheVariants.{Noted, Done, Counted, Shown}
use Rattle.sessions.specs.declared.handed.Handed.TheVariants.{Own}
use Rattle.sessions.proofs.OpenRuns.{at_set_same, at_set_other, may_read_alike, Alike}

module _ {S : Type 0} (step : Step S) where
  -- calls carried out one by one
  pub data Carries : S → List Call → List Answer → S → Type 0 where
    end : {s : S} → Carries s [] [] s
    next : {s t : S} {cs : List Call} {told : List Answer} (c : Call) (a : Answer) (u : S) → step c s ≡ (a, u) → Carries u cs told t → Carries s (c ∷ cs) (a ∷ told) t

  pub carries_append : {s t u : S} {cs ds : List Call} {told more_told : List Answer} → Carries s cs told t → Carries t ds more_told u → Carries s (cs ++ ds) (told ++ more_told) u
  carries_append end more = more
  carries_append (next c a v is rest) more = next c a v is (carries_append rest more)

  -- the first call, and then the rest
  after_first : (s : S) (c : Call) (cs : List Call) (k : ℕ) → after step s (c ∷ cs) (suc k) ≡ after step (step c s).1 cs k
  after_first s c cs zero = refl
  after_first s c cs (suc k) = ap (λ t. (step (call_at cs k) t).1) (after_first s c cs k)

  answer_first : (s : S) (c : Call) (cs : List Call) (k : ℕ) → answer_after step s (c ∷ cs) (suc k) ≡ answer_after step (step c s).1 cs k
  answer_first s c cs k = ap (λ t. (step (call_at cs k) t).0) (after_first s c cs k)

  shifted : (f g : ℕ → Answer) → ((k : ℕ) → f (suc k) ≡ g k) → (a n : ℕ) → map f (range_with_len (a + 1) n) ≡ map g (range_with_len a n)
  shifted f g same a zero = refl
  shifted f g same a (suc n) = let one : a + 1 ≡ suc a = omega arith in rw (shifted f g same (a + 1) n, one, same a) refl

  pub carries_after : {s t : S} {cs : List Call} {told : List Answer} → Carries s cs told t → after step s cs (length cs) ≡ t
  carries_after end = refl
  carries_after {s} (next {cs = cs} c a u is rest) = after_first s c cs (length cs) ∙ rw is (carries_after rest)

  pub carries_answers : {s t : S} {cs : List Call} {told : List Answer} → Carries s cs told t → answers_to step s cs (length cs) ≡ told
  carries_answers end = refl
  carries_answers {s} (next {cs = cs} {told = told} c a u is rest) =
      let later = shifted (answer_after step s (c ∷ cs)) (answer_after step (step c s).1 cs) (answer_first s c cs) 0 (length cs) in
      let here : (step c s).0 ≡ a = ap (λ p. p.0) is in
      ap (λ more. (step c s).0 ∷ more) (later ∙ rw is (carries_answers rest)) ∙ ap (λ b. b ∷ told) here

-- an event without its writer
abbrev bare : EventOf → EventOf
bare e = record e { writer = 0 }

module _ (es : List EventOf) (run : FullRun es) (room others_room : ℕ) (long : max_events ≤ room) where
  abbrev step : Step Reference
  step = model_step room others_room

  abbrev open_with : List EventOf → Reference
  open_with us = record { run = us; is_sealed = false }

  abbrev sealed_with : Reference
  sealed_with = record { run = es; is_sealed = true }

  -- a call is handed enough
  enough : (r : Edited) → unless_short (min max_events room) r ≡ r
  enough r = grind (arith, nat_tests)

  -- the notes
  bare_legal : (i : ℕ) → Within es i → Legal (bare (at es i))
  bare_legal i within = let l = run.legal i within in record { thread = l.thread; mode = l.mode; location = l.location }

  note_made : (i : ℕ) (us : List EventOf) → Within es i → length us < i → note_edit (unlinked (at es i).thread (kind_number (at es i).kind) (mode_number (at es i).mode) (at es i).location) us ≡ Ok (us ++ bare (at es i) ∷ [])
  note_made i us within low =
      let fine = legal_checked (raw_of (bare (at es i))) (bare (at es i)) (bare_legal i within) refl in
      let few = run.few in
      rw fine (grind (arith, nat_tests))

  noted_from : (n i : ℕ) (us : List EventOf) → length us + 1 ≡ i → i + n ≡ length es + 1 → Carries step (open_with us) (map (λ i. note_of (at es i)) (range_with_len i n)) (map Noted (range_with_len i n)) (open_with (us ++ map (λ i. bare (at es i)) (range_with_len i n)))
  noted_from zero i us here end_at = rw (append-nil us) end
  noted_from (suc n) i us here end_at =
      let e = at es i in
      let made = enough _ ∙ note_made i us (omega arith, omega arith) (omega arith) in
      let rest = noted_from n (i + 1) (us ++ bare e ∷ []) (omega (arith, length_push us (bare e))) (omega arith) in
      next (note_of e) (Noted i) (open_with (us ++ bare e ∷ [])) (rw (made, here) refl) (rw (append_assoc us (bare e ∷ []) (map (λ i. bare (at es i)) (range_with_len (i + 1) n))) at rest)

  -- the links, where the loads before the next have their writers
  record Part (us : List EventOf) (i : ℕ) : Type 0 where
    size : length us ≡ length es
    given : (j : ℕ) → j < i → at us j ≡ at es j
    yet : (j : ℕ) → i ≤ j → j ≤ length es → at us j ≡ bare (at es j)

  alike_by : (us : List EventOf) (i : ℕ) → Part us i → (j : ℕ) → Within es j → (j < i) ⊎ (i ≤ j) → Alike es us j
  alike_by us i p j within (inl less) = let is = p.given j less in record { kind = ap (λ e. e.kind) (sym is); location = ap (λ e. e.location) (sym is) }
  alike_by us i p j within (inr more) = let is = p.yet j more within.1 in record { kind = ap (λ e. e.kind) (sym is); location = ap (λ e. e.location) (sym is) }

  alike : (us : List EventOf) (i : ℕ) → Part us i → (j : ℕ) → Within es j → Alike es us j
  alike us i p j within = alike_by us i p j within (cases_lt j i)

  reads_yet : (us : List EventOf) (i : ℕ) → Part us i → Load es i → MayRead us (at es i).writer i
  reads_yet us i p load =
      let fits = (run.linked i load.0).reads load.1 in
      let writer = fits.store.0 in
      may_read_alike es us (at es i).writer i (load, fits) (writer.0, omega (arith, p.size)) (load.0.0, omega (arith, p.size)) (alike us i p _ writer) (alike us i p i load.0)

  link_made : (us : List EventOf) (i : ℕ) → Part us i → Load es i → link_edit i (at es i).writer us ≡ Ok (with_writer us i (at es i).writer)
  link_made us i p load =
      let reads = reads_yet us i p load in
      let yes = (Decides-may_read us (at es i).writer i).1 reads in
      let within = reads.0.0 in
      let loads = reads.0.1 in
      grind (arith, nat_tests)

  part_linked : (us : List EventOf) (i : ℕ) → Part us i → Within es i → Part (with_writer us i (at es i).writer) (i + 1)
  part_linked us i p within =
      record {
        size = length-set us (i - 1) _ ∙ p.size;
        given = λ j below. which j below (cases_eq j i);
        yet = λ j above high. at_set_other us i j _ within.0 (λ is. absurd (omega arith)) ∙ p.yet j (omega arith) high;
      }
    where
      which : (j : ℕ) → j < i + 1 → (j ≡ i) ⊎ (j ≢ i) → at (with_writer us i (at es i).writer) j ≡ at es j
      which j below (inl is) = rw is (at_set_same us i _ (within.0, omega (arith, p.size)) ∙ ap {A = EventOf} (λ e. record e { writer = (at es i).writer }) (p.yet i (omega arith) within.1))
      which j below (inr other) = at_set_other us i j _ within.0 other ∙ p.given j (omega arith)

  part_left : (us : List EventOf) (i : ℕ) → Part us i → Within es i → is_load (at es i).kind ≡ false → Part us (i + 1)
  part_left us i p within other =
      record {
        size = p.size;
        given = λ j below. which j below (cases_eq j i);
        yet = λ j above high. p.yet j (omega arith) high;
      }
    where
      which : (j : ℕ) → j < i + 1 → (j ≡ i) ⊎ (j ≢ i) → at us j ≡ at es j
      which j below (inl is) = rw is (p.yet i (omega arith) within.1 ∙ ap (λ w. record (at es i) { writer = w }) (sym ((run.linked i within).others other)))
      which j below (inr differs) = p.given j (omega arith)

  abbrev loads_in : ℕ → ℕ → List ℕ
  loads_in i n = filter (λ i. is_load (at es i).kind) (range_with_len i n)

  abbrev Links : List EventOf → List ℕ → Type 0
  Links us ls = Carries step (open_with us) (map (λ i. Link (Own max_events) i (at es i).writer) ls) (map (λ i. Done) ls) (open_with es)

  linked_from : (n i : ℕ) (us : List EventOf) → Part us i → 1 ≤ i → i + n ≡ length es + 1 → Links us (loads_in i n)
  linked_from zero i us p low end_at = let same : us ≡ es = ext_get_or no_event us es p.size (λ j within. p.given (suc j) (omega (arith, p.size))) in rw same end
  linked_from (suc n) i us p low end_at =
      let within : Within es i = (low, omega arith) in
      cond_both (is_load (at es i).kind) (i ∷ loads_in (i + 1) n) (loads_in (i + 1) n) (Links us)
      (λ yes.
      let made = enough _ ∙ link_made us i p (within, yes) in
      next (Link (Own max_events) i (at es i).writer) Done (open_with (with_writer us i (at es i).writer)) (rw made refl) (linked_from n (i + 1) _ (part_linked us i p within) (omega arith) (omega arith)))
      (λ no. linked_from n (i + 1) us (part_left us i p within no) (omega arith) (omega arith))

  -- the seal
  seal_made : seal_edit es ≡ Ok es
  seal_made =
      ap (complete es) (none_lowest _ _ _ (λ i low high. Decides-lacks_writer es i) (λ i low high (load, none).
      let fits = (run.linked i load.0).reads load.1 in
      absurd (omega (arith, fits.store.0))))

  -- the questions
  shown_from : (n i : ℕ) → 1 ≤ i → i + n ≡ length es + 1 → Carries step sealed_with (map Event (range_with_len i n)) (map (λ i. Shown (at es i)) (range_with_len i n)) sealed_with
  shown_from zero i low end_at = end
  shown_from (suc n) i low end_at =
      let shows : event_answer es i ≡ Shown (at es i) = grind (arith, nat_tests) in
      next (Event i) (Shown (at es i)) sealed_with (ap (λ a. (a, sealed_with)) shows) (shown_from n (i + 1) (omega arith) (omega arith))

  abbrev begun : List EventOf
  begun = map (λ i. bare (at es i)) (range_with_len 1 (length es))

  part_begun : Part begun 1
  part_begun =
      record {
        size = length-map-range_with_len (λ i. bare (at es i)) 1 (length es);
        given = λ j below. let none : j ≡ 0 = omega arith in rw none refl;
        yet = λ j above high.
            let k = j - 1 in
            let one : suc k ≡ j = omega arith in
            rw (← one) (get_or-map-range_with_len (λ i. bare (at es i)) 1 (length es) k (suc k) no_event (omega arith) (omega arith));
      }

  whole : Carries step fresh (recording es) (recorded es) sealed_with
  whole =
      let few = run.few in
      let seals = enough (seal_edit es) ∙ seal_made in
      carries_append step (noted_from (length es) 1 [] refl (omega arith))
      (carries_append step (linked_from (length es) 1 begun part_begun (omega arith) (omega arith))
      (next (Seal (Own max_events)) Done sealed_with (rw seals refl)
      (next Count (Counted (length es)) sealed_with refl (shown_from (length es) 1 (omega arith) (omega arith)))))

fewer : {X : Type 0} (p : X → Bool) (xs : List X) → length (filter p xs) ≤ length xs
fewer p [] = omega arith
fewer p (x ∷ xs) = let rest = fewer p xs in cond_both (p x) (x ∷ filter p xs) (filter p xs) (λ ys. length ys ≤ suc (length xs)) (λ _. omega arith) (λ _. omega arith)

-- how many calls there are
pub recording_size : (es : List EventOf) → (length (recording es) ≡ length es + (length (loads es) + (2 + length es))) × (length (loads es) ≤ length es)
recording_size es =
    let each = length-append (notes es) (links es ++ questions es) in
    let rest = length-append (links es) (questions es) in
    let noted : length (notes es) ≡ length es = length-map-range_with_len (λ i. note_of (at es i)) 1 (length es) in
    let linked : length (links es) ≡ length (loads es) = length-map (loads es) (λ i. Link (Own max_events) i (at es i).writer) in
    let asked = length-map-range_with_len Event 1 (length es) in
    let few = fewer (λ i. is_load (at es i).kind) (numbers es) in
    (omega arith, omega (arith, length-range_with_len 1 (length es)))

pub records : (es : List EventOf) → FullRun es → Records es
records es run =
    record {
      few = let (size, loads) = recording_size es in omega (arith, run.few);
      answers = λ room others_room long. carries_answers _ (whole es run room others_room long);
      sealed = λ room others_room long. carries_after _ (whole es run room others_room long);
    }
