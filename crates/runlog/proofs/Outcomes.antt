-- Every log has one outcome: it is closed and linked, or it has a first fault; and the reading says which.
use Rattle.std.proofs.Common.{◌≡◌, ℕ, zero, suc, ◌+◌, ◌-◌, ◌<◌, ◌≤◌, true, false, ◌&&◌, eqb, List, length, is_ok, Ok, Err, Result, refl, ap, ◌∙◌, arith, below_more}
use Rattle.std.proofs.lemmas.Bool.{cond_both, false_from_ne_true}
use Rattle.std.proofs.lemmas.Bool.Decides.{nat_tests, not_from_Decides}
use Rattle.std.specs.Result.{result_map_both, result_unwrap_or}
use Rattle.events.specs.Limits.{max_events}
use Rattle.events.specs.Raw.{checked}
use Rattle.events.specs.Run.{at, Within, Linked}
use Rattle.events.specs.declared.event.Event.{Event}
use Rattle.events.proofs.Results.{ok_value}
use Rattle.runlog.specs.Layout.{word, is_event, is_end, start, after_end, raw_at}
use Rattle.runlog.specs.Reading.{ended, scanned, events_of, events_in, linked, linked_up, with_writers, reading}
use Rattle.runlog.specs.FirstFault.{Sound, Begins, Ends, Closed, FirstFault}
use Rattle.runlog.specs.FirstFault.FirstFault.{shape, trailing, too_many, field, writer}
use Rattle.runlog.specs.declared.fault.LogFault.{LogFault}
use Rattle.runlog.proofs.Steps.{length-events_of, Decides-legal, Decides-linked, scanned_on, scanned_step, linked_on, linked_step}
use Rattle.runlog.proofs.Recorded.{Records, records_of, event_in}

-- what the records of a log come to
abbrev Scanned : List ℕ → Result ℕ LogFault → Type 0
Scanned s (Ok n) = Closed s n
Scanned s (Err f) = FirstFault s f

-- what a log comes to
abbrev pub Outcome : List ℕ → Result (List Event) LogFault → Type 0
Outcome s (Ok es) = Records s es × ((k : ℕ) → k < length es → Linked es (k + 1))
Outcome s (Err f) = FirstFault s f

-- linked events are passed over
linked_past : (es : List Event) (i : ℕ) → i ≤ length es → ((j : ℕ) → j < i → Linked es (j + 1)) → linked_up (length es) es 0 ≡ linked_on es (length es - i) i
linked_past es zero within before = linked_step es (length es) 0 ∙ ap (λ k. linked_on es k 0) (omega arith)
linked_past es (suc i) within before =
    let good = (Decides-linked es (i + 1)).1 (before i (omega arith)) in
    let past = linked_past es i (omega arith) (λ j h. before j (omega arith)) in
    let next = linked_step es (length es - suc i) (suc i) in
    grind (arith, nat_tests)

module _ (s : List ℕ) where
  -- a log begins with no records, and with one more where the next is sound
  begins_none : Begins s 0
  begins_none = grind arith

  begins_more : (n : ℕ) → Begins s n → n < max_events → Sound s n → Begins s (n + 1)
  begins_more n b less here = record { few = omega arith; sound = below_more (Sound s) n b.sound here }

  -- where no event record is next there is an outcome
  ended_outcome : (n : ℕ) → Begins s n → is_event s (start n) ≡ false → Scanned s (ended s n)
  ended_outcome n b none =
      cond_both (is_end s (start n) && eqb (word s (start n + 4)) n) _ _ (Scanned s)
      (λ t.
      let e : Ends s n = grind (arith, nat_tests) in
      cond_both (eqb (after_end n) (length s)) _ _ (Scanned s)
      (λ w. record { begins = b; ends = e; whole = grind (arith, nat_tests) })
      (λ ne. trailing b e (grind (arith, nat_tests))))
      (λ f. shape b none (λ e. grind (arith, nat_tests)))

  -- the records in turn come to an outcome
  scanned_outcome : (k n : ℕ) → n + k ≡ max_events → Begins s n → Scanned s (scanned k s n)
  unfolding scanned
  scanned_outcome zero n all b =
      cond_both (is_event s (start n)) _ _ (Scanned s) (λ is. let last : n ≡ max_events = omega arith in rw last (too_many (rw last at b) (rw last at is))) (ended_outcome n b)
  scanned_outcome (suc k) n all b =
      cond_both (is_event s (start n)) _ _ (Scanned s)
      (λ is.
      cond_both (is_ok (checked (raw_at s (start n)))) _ _ (Scanned s)
      (λ good. scanned_outcome k (n + 1) (omega arith) (begins_more n b (omega arith) (record { event = is; legal = (Decides-legal s (start n)).0 good })))
      (λ bad. field b (omega arith) is (not_from_Decides _ (Decides-legal s (start n)) bad)))
      (ended_outcome n b)

  -- the writers in turn come to an outcome
  linked_outcome : (n k i : ℕ) → Closed s n → i + k ≡ length (events_of s n) → ((j : ℕ) → j < i → Linked (events_of s n) (j + 1)) → Outcome s (linked_up k (events_of s n) i)
  unfolding linked_up
  linked_outcome n zero i c all before = let last : i ≡ length (events_of s n) = omega arith in (records_of s n c, rw last at before)
  linked_outcome n (suc k) i c all before =
      let es = events_of s n in
      cond_both (linked es (i + 1)) _ _ (Outcome s)
      (λ good. linked_outcome n k (i + 1) c (omega arith) (below_more (λ j. Linked es (j + 1)) i before ((Decides-linked es (i + 1)).0 good)))
      (λ bad. writer {k = i} c (omega (arith, length-events_of s n)) before (not_from_Decides _ (Decides-linked es (i + 1)) bad))

  -- the bytes whose records come through the first pass
  pub records_in : (es : List Event) → is_ok (scanned max_events s 0) ≡ true → events_in s ≡ es → Records s es
  records_in es ok is =
      let n = result_unwrap_or (scanned max_events s 0) 0 in
      let good : scanned max_events s 0 ≡ Ok n = ok_value (scanned max_events s 0) 0 ok in
      rw (← (rw good at is)) (records_of s n (rw good at (scanned_outcome max_events 0 refl begins_none)))

  -- and where their events are
  pub event_of : (es : List Event) (i : ℕ) → is_ok (scanned max_events s 0) ≡ true → events_in s ≡ es → Within es i → (is_event s (start (i - 1)) ≡ true) × (checked (raw_at s (start (i - 1))) ≡ Ok (at es i))
  event_of es i ok is within = event_in s es i (records_in es ok is) within

  -- both passes come to an outcome
  with_writers_outcome : (r : Result ℕ LogFault) → Scanned s r → Outcome s (with_writers (result_map_both (events_of s) (λ f. f) r))
  with_writers_outcome (Ok n) c = linked_outcome n (length (events_of s n)) 0 c (omega arith) (λ j h. absurd (omega arith))
  with_writers_outcome (Err f) fault = fault

  pub outcome : Outcome s (reading s)
  unfolding reading
  outcome = with_writers_outcome (scanned max_events s 0) (scanned_outcome max_events 0 refl begins_none)

  -- sound records are passed over
  scanned_past : (n : ℕ) → Begins s n → scanned max_events s 0 ≡ scanned_on s (max_events - n) n
  scanned_past zero b = scanned_step s max_events 0
  scanned_past (suc n) b =
      let few = b.few in
      let here = b.sound n (omega arith) in
      let good = (Decides-legal s (start n)).1 here.legal in
      let past = scanned_past n (record { few = omega arith; sound = λ k h. b.sound k (omega arith) }) in
      let next = scanned_step s (max_events - suc n) (suc n) in
      grind (arith, nat_tests)

  -- a closed log comes through the first pass
  pub closed_scanned : (n : ℕ) → Closed s n → scanned max_events s 0 ≡ Ok n
  closed_scanned n c = let past = scanned_past n c.begins in grind (arith, nat_tests)

  -- the reading says the first fault, and the run of a log that is recorded and linked
  pub fault_is : {f : LogFault} → FirstFault s f → reading s ≡ Err f
  unfolding reading
  fault_is (shape {n} b none never) = let past = scanned_past n b in grind (arith, nat_tests)
  fault_is (trailing {n} b e ne) = let past = scanned_past n b in grind (arith, nat_tests)
  fault_is (too_many b is) = let past = scanned_past max_events b in grind (arith, nat_tests)
  fault_is (field {n} b less is never) =
      let past = scanned_past n b in
      let bad = false_from_ne_true _ (λ t. never ((Decides-legal s (start n)).0 t)) in
      grind (arith, nat_tests)
  fault_is (writer {n} {k} c within before never) =
      let es = events_of s n in
      let scans = closed_scanned n c in
      let size = length-events_of s n in
      let past = linked_past es k (omega arith) before in
      let bad = false_from_ne_true _ (λ t. never ((Decides-linked es (k + 1)).0 t)) in
      grind (arith, nat_tests)

  pub reading_is : (es : List Event) → Records s es → ((k : ℕ) → k < length es → Linked es (k + 1)) → reading s ≡ Ok es
  unfolding reading
  reading_is es r all =
      let scans = closed_scanned (length es) r.closed in
      let past = linked_past es (length es) (omega arith) all in
      grind (arith, nat_tests)
