-- What the reference model holds is what stands.
use Rattle.std.proofs.Common.{◌≡◌, ◌≢◌, ℕ, zero, suc, ◌+◌, ◌-◌, ◌<◌, ◌≤◌, List, [], ◌∷◌, ◌++◌, length, take, refl, sym, ◌∙◌, ◌⊎◌, inl, inr, arith}
use Rattle.std.proofs.lemmas.Bool.{cases_lt, cases_eq}
use Rattle.std.proofs.lemmas.List.{length_push, length-set, length-take}
use Rattle.events.specs.Events.{kind_number, mode_number}
use Rattle.events.specs.Run.{at, Within}
use Rattle.events.specs.declared.event.Event.{Event as EventOf}
use Rattle.events.specs.declared.event.Kind.{Kind}
use Rattle.events.specs.declared.event.Mode.{Mode}
use Rattle.recorder.specs.Edits.{with_writer}
use Rattle.sessions.specs.declared.handed.Handed.{Handed}
use Rattle.sessions.specs.Calls.{call_at, answer_at, after, answer_after}
use Rattle.sessions.specs.History.{Notes, Links, count_step, count_after, TakesBack, LastWriter, Stands, HoldsWhatStands}
use Rattle.sessions.specs.Reference.{fresh, model_step}
use Rattle.sessions.specs.History.LastWriter.{never, last}
use Rattle.sessions.proofs.Changes.{Change, change}
use Rattle.sessions.proofs.Changes.Change.{adds, gives, drops, leaves}
use Rattle.sessions.proofs.OpenRuns.{at_appended, at_last, at_set_same, at_set_other, at_take}
use Rattle.sessions.specs.declared.calls.Call.{Call}
use Rattle.sessions.specs.declared.calls.Call.TheVariants.{Note, Link, Retract}
use Rattle.sessions.specs.declared.calls.Answer.{Answer}
use Rattle.sessions.specs.declared.calls.Answer.TheVariants.{Noted, Done}

-- what holds of each number below n, and of n, holds below its successor
pub below_suc : (P : ℕ → Type 0) (n : ℕ) → ((k : ℕ) → k < n → P k) → P n → (k : ℕ) → k < suc n → P k
below_suc P n below here k low = by (cases_lt k n)
  where
    by : (k < n) ⊎ (n ≤ k) → P k
    by (inl less) = below k less
    by (inr more) = let same : n ≡ k = omega arith in rw same at here

-- a call counts no event out that it does not take back
counted_down : (c : Call) (a : Answer) (n i : ℕ) → i ≤ n → ((handed : Handed) → c ≡ Retract handed → a ≡ Done → n ≢ i) → i ≤ count_step c a n
counted_down c a n i low stays = grind arith

module _ (calls : List Call) (answers : List Answer) where
  abbrev call : ℕ → Call
  call k = call_at calls k

  abbrev answer : ℕ → Answer
  answer k = answer_at answers k

  -- one link only
  same_link : (k i v w : ℕ) → Links calls answers k i v → Links calls answers k i w → v ≡ w
  same_link k i v w (p, is, _) (q, is', _) = let both : Link p i v ≡ Link q i w = sym is ∙ is' in cc

  -- the last writer is one
  one_writer : (behind before i v w : ℕ) → LastWriter calls answers behind before i v → LastWriter calls answers behind before i w → v ≡ w
  one_writer behind before i _ _ (never none) (never none') = refl
  one_writer behind before i _ _ (never none) (last {k = k} {w = w} low high links rest) = absurd (none k w low high links)
  one_writer behind before i _ _ (last {k = k} {w = w} low high links rest) (never none) = absurd (none k w low high links)
  one_writer behind before i v w (last {k = k} low high links rest) (last {k = j} low' high' links' rest') = which (cases_lt k j) (cases_lt j k)
    where
      which : (k < j) ⊎ (j ≤ k) → (j < k) ⊎ (k ≤ j) → v ≡ w
      which (inl less) _ = absurd (rest j w less high' links')
      which (inr more) (inl less) = absurd (rest' k v less high links)
      which (inr more) (inr more') = let same : j ≡ k = omega arith in same_link k i v w links (rw same at links')

  -- an event that was noted and not taken back is counted
  stays_counted : (m noted i : ℕ) (e : EventOf) → Notes calls answers noted i e → count_after calls answers noted + 1 ≡ i → ((k : ℕ) → noted < k → k < suc noted + m → ¬ TakesBack calls answers k i) → i ≤ count_after calls answers (suc noted + m)
  stays_counted zero noted i e (handed, called, told) is stays =
      let here : count_step (call noted) (answer noted) (count_after calls answers noted) ≡ i = rw (called, told) is in
      let one : suc noted + 0 ≡ suc noted = omega arith in
      rw one (omega arith)
  stays_counted (suc m) noted i e notes is stays =
      let one : suc noted + suc m ≡ suc (suc noted + m) = omega arith in
      let past = stays_counted m noted i e notes is (λ k low high. stays k low (omega arith)) in
      rw one (counted_down (call (suc noted + m)) (answer (suc noted + m)) _ i past (λ handed called done last. stays (suc noted + m) (omega arith) (omega arith) (handed, called, done, last)))

  -- what stands still stands after a call that does nothing to it
  writer_on : (behind k i w : ℕ) → behind < k → LastWriter calls answers behind k i w → ((v : ℕ) → ¬ Links calls answers k i v) → LastWriter calls answers behind (suc k) i w
  writer_on behind k i _ low (never none) not = never (λ j w below high. below_suc (λ j. behind < j → ¬ Links calls answers j i w) k (λ j less low. none j w low less) (λ _. not w) j high below)
  writer_on behind k i _ low (last {k = j} low' high links rest) not = last low' (omega arith) links (λ m v below high'. below_suc (λ m. j < m → ¬ Links calls answers m i v) k (λ m less low. rest m v low less) (λ _. not v) m high' below)

  stands_on : (k i : ℕ) (e : EventOf) → Stands calls answers k i e → ¬ TakesBack calls answers k i → ((w : ℕ) → ¬ Links calls answers k i w) → Stands calls answers (suc k) i e
  stands_on k i e s back not =
      record {
        noted = s.noted;
        before = omega (arith, s.before);
        notes = s.notes;
        stays = λ j low high. below_suc (λ j. s.noted < j → ¬ TakesBack calls answers j i) k (λ j less low. s.stays j low less) (λ _. back) j high low;
        writer = writer_on s.noted k i e.writer s.before s.writer not;
      }

  stands_linked : (k i w : ℕ) (e : EventOf) → Stands calls answers k i e → ¬ TakesBack calls answers k i → Links calls answers k i w → Stands calls answers (suc k) i (record e { writer = w })
  stands_linked k i w e s back links =
      record {
        noted = s.noted;
        before = omega (arith, s.before);
        notes = s.notes;
        stays = λ j low high. below_suc (λ j. s.noted < j → ¬ TakesBack calls answers j i) k (λ j less low. s.stays j low less) (λ _. back) j high low;
        writer = last s.before (omega arith) links (λ j v low high. absurd (omega arith));
      }

  -- the events of a run are those that stand, as far as the run goes
  pub record Told (n : ℕ) (run : List EventOf) : Type 0 where
    pub count : count_after calls answers n ≡ length run
    pub each : (i : ℕ) → Within run i → Stands calls answers n i (at run i)

  told_none : Told 0 []
  told_none = record { count = refl; each = λ i within. absurd (omega arith) }

  module _ (k : ℕ) (run now : List EventOf) (t : Told k run) where
    added : (handed : Handed) (e : EventOf) → call k ≡ Note handed e.thread (kind_number e.kind) (mode_number e.mode) e.location → answer k ≡ Noted (length run + 1) → e.writer ≡ 0 → (i : ℕ) → Within (run ++ e ∷ []) i → (i < length run + 1) ⊎ (length run + 1 ≤ i) → Stands calls answers (suc k) i (at (run ++ e ∷ []) i)
    added handed e called told none i within (inl less) =
        let inside : Within run i = (within.0, omega arith) in
        rw (← (at_appended run e i inside)) (stands_on k i _ (t.each i inside) (λ (p, is, _, _). cc) (λ w (p, is, _). cc))
    added handed e called told none i within (inr more) =
        let here : i ≡ length run + 1 = omega (arith, length_push run e) in
        rw (here, at_last run e) (record {
          noted = k;
          before = omega arith;
          notes = (handed, called, told);
          stays = λ j low high. absurd (omega arith);
          writer = rw none (never (λ j w low high. absurd (omega arith)));
        })

    given_to : (handed : Handed) (i w : ℕ) → call k ≡ Link handed i w → answer k ≡ Done → Within run i → (j : ℕ) → Within run j → (j ≡ i) ⊎ (j ≢ i) → Stands calls answers (suc k) j (at (with_writer run i w) j)
    given_to handed i w called told within j inside (inl is) = rw (is, at_set_same run i (record (at run i) { writer = w }) within) (stands_linked k i w _ (t.each i within) (λ (p, back, _, _). cc) (handed, called, told))
    given_to handed i w called told within j inside (inr other) =
        rw (at_set_other run i j (record (at run i) { writer = w }) within.0 other)
        (stands_on k j _ (t.each j inside) (λ (p, back, _, _). cc) (λ v (p, is, _). other (let both : Link handed i w ≡ Link p j v = sym called ∙ is in cc)))

    told_adds : (handed : Handed) (e : EventOf) → call k ≡ Note handed e.thread (kind_number e.kind) (mode_number e.mode) e.location → answer k ≡ Noted (length run + 1) → e.writer ≡ 0 → Told (suc k) (run ++ e ∷ [])
    told_adds handed e called told none =
        record {
          count = rw (called, told) (omega (arith, t.count, length_push run e));
          each = λ i within. added handed e called told none i within (cases_lt i (length run + 1));
        }

    told_gives : (handed : Handed) (i w : ℕ) → call k ≡ Link handed i w → answer k ≡ Done → Within run i → Told (suc k) (with_writer run i w)
    told_gives handed i w called told within =
        record {
          count = rw called (t.count ∙ sym (length-set run (i - 1) (record (at run i) { writer = w })));
          each = λ j inside. given_to handed i w called told within j (inside.0, omega (arith, length-set run (i - 1) (record (at run i) { writer = w }))) (cases_eq j i);
        }

    told_drops : (handed : Handed) → call k ≡ Retract handed → answer k ≡ Done → 0 < length run → Told (suc k) (take (length run - 1) run)
    told_drops handed called told some =
        record {
          count = rw (called, told) (omega (arith, t.count, length-take (length run - 1) run));
          each = λ j inside.
              let low : j ≤ length run - 1 = omega (arith, length-take (length run - 1) run) in
              rw (at_take run (length run - 1) j low)
              (stands_on k j _ (t.each j (inside.0, omega arith)) (λ (p, _, _, counts). absurd (omega (arith, t.count))) (λ w (p, is, _). cc));
        }

    told_leaves : ((n : ℕ) → count_step (call k) (answer k) n ≡ n) → ((handed : Handed) (i w : ℕ) → call k ≡ Link handed i w → answer k ≢ Done) → Told (suc k) run
    told_leaves same no_link =
        record {
          count = same _ ∙ t.count;
          each = λ i within. stands_on k i _ (t.each i within) (λ (p, is, done, _). let gone = rw (is, done) at (same 1) in absurd (omega arith)) (λ w (p, is, done). no_link p i w is done);
        }

    told_next : Change (call k) (answer k) run now → Told (suc k) now
    told_next (adds handed e called told none is) = rw is (told_adds handed e called told none)
    told_next (gives handed i w called told within is) = rw is (told_gives handed i w called told within)
    told_next (drops handed called told some is) = rw is (told_drops handed called told some)
    told_next (leaves same no_link is) = rw is (told_leaves same no_link)

  -- whatever is said of an event by the calls and their answers is said of one event
  kind_back : (j k : Kind) → kind_number j ≡ kind_number k → j ≡ k
  kind_back j k is = grind arith

  mode_back : (j k : Mode) → mode_number j ≡ mode_number k → j ≡ k
  mode_back j k is = grind arith

  made_alike : (t t' : ℕ) (k k' : Kind) (m m' : Mode) (l l' w w' : ℕ) → t ≡ t' → k ≡ k' → m ≡ m' → l ≡ l' → w ≡ w' → let d : EventOf = record { thread = t; kind = k; mode = m; location = l; writer = w } in let e : EventOf = record { thread = t'; kind = k'; mode = m'; location = l'; writer = w' } in d ≡ e
  made_alike t t' k k' m m' l l' w w' a b c d e = rw (a, b, c, d, e) refl

  same_event : (d e : EventOf) → d.thread ≡ e.thread → kind_number d.kind ≡ kind_number e.kind → mode_number d.mode ≡ mode_number e.mode → d.location ≡ e.location → d.writer ≡ e.writer → d ≡ e
  same_event d e thread kind mode location writer = made_alike _ _ _ _ _ _ _ _ _ _ thread (kind_back d.kind e.kind kind) (mode_back d.mode e.mode mode) location writer

  -- where the answers are those of a run that is told so
  module _ (n : ℕ) (runs : ℕ → List EventOf) (told : (k : ℕ) → k ≤ n → Told k (runs k)) (numbers : (k i : ℕ) (e : EventOf) → k < n → Notes calls answers k i e → i ≡ length (runs k) + 1) where
    -- what was noted and stays is in the run
    stands_within : (k : ℕ) → k ≤ n → (i : ℕ) (e : EventOf) → (noted : ℕ) → noted < k → Notes calls answers noted i e → ((j : ℕ) → noted < j → j < k → ¬ TakesBack calls answers j i) → Within (runs k) i
    stands_within k low i e noted before notes stays =
        let split : suc noted + (k - suc noted) ≡ k = omega arith in
        let here = numbers noted i e (omega arith) notes in
        let count_step = stays_counted (k - suc noted) noted i e notes (omega (arith, (told noted (omega arith)).count)) (λ j above below. stays j above (omega arith)) in
        let up : i ≤ count_after calls answers k = rw split at count_step in
        (omega arith, omega (arith, (told k low).count))

    -- and was noted once
    one_noting : (k : ℕ) → k ≤ n → (i : ℕ) (d e : EventOf) (a b : ℕ) → a < b → b < k → Notes calls answers a i d → Notes calls answers b i e → ((j : ℕ) → a < j → j < k → ¬ TakesBack calls answers j i) → ⊥
    one_noting k low i d e a b less before first second stays =
        let within = stands_within b (omega arith) i d a less first (λ j above below. stays j above (omega arith)) in
        let here = numbers b i e (omega arith) second in
        absurd (omega arith)

    one_event : (k : ℕ) → k ≤ n → (i : ℕ) (d e : EventOf) → Stands calls answers k i d → Stands calls answers k i e → d ≡ e
    one_event k low i d e s t = which (cases_lt s.noted t.noted) (cases_lt t.noted s.noted)
      where
        which : (s.noted < t.noted) ⊎ (t.noted ≤ s.noted) → (t.noted < s.noted) ⊎ (s.noted ≤ t.noted) → d ≡ e
        which (inl less) _ = absurd (one_noting k low i d e s.noted t.noted less t.before s.notes t.notes s.stays)
        which (inr more) (inl less) = absurd (one_noting k low i e d t.noted s.noted less s.before t.notes s.notes t.stays)
        which (inr more) (inr more') =
            let same : t.noted ≡ s.noted = omega arith in
            let (p, first, _) = s.notes in
            let (q, second, _) = rw same at t.notes in
            let both : Note p d.thread (kind_number d.kind) (mode_number d.mode) d.location ≡ Note q e.thread (kind_number e.kind) (mode_number e.mode) e.location = sym first ∙ second in
            same_event d e (cc) (cc) (cc) (cc) (one_writer s.noted k i d.writer e.writer s.writer (rw same at t.writer))

    pub holds_what_stands : (k : ℕ) → k ≤ n → HoldsWhatStands calls answers k (runs k)
    holds_what_stands k low = (
      sym (told k low).count,
      λ i e. (
        λ (within, is). rw is at ((told k low).each i within),
        λ s.
            let within = stands_within k low i e s.noted s.before s.notes s.stays in
            (within, one_event k low i (at (runs k) i) e ((told k low).each i within) s),
      ),
    )

-- the reference model
module _ (room others_room : ℕ) (calls : List Call) (answers : List Answer) (n : ℕ) (told : (k : ℕ) → k < n → answer_at answers k ≡ answer_after (model_step room others_room) fresh calls k) where
  abbrev run_after : ℕ → List EventOf
  run_after k = (after (model_step room others_room) fresh calls k).run

  changed : (k : ℕ) → k < n → Change (call_at calls k) (answer_at answers k) (run_after k) (run_after (suc k))
  changed k low = rw (told k low) (change room others_room (call_at calls k) (after (model_step room others_room) fresh calls k))

  told_all : (k : ℕ) → k ≤ n → Told calls answers k (run_after k)
  told_all zero low = told_none calls answers
  told_all (suc k) low = told_next calls answers k (run_after k) _ (told_all k (omega arith)) (changed k (omega arith))

  numbered_by : (k i : ℕ) (e : EventOf) → Notes calls answers k i e → Change (call_at calls k) (answer_at answers k) (run_after k) (run_after (suc k)) → i ≡ length (run_after k) + 1
  numbered_by k i e (p, called, noted) (adds q f called' noted' none is) = let both : Noted i ≡ Noted (length (run_after k) + 1) = sym noted ∙ noted' in cc
  numbered_by k i e (p, called, noted) (gives q j w called' done within is) = cc
  numbered_by k i e (p, called, noted) (drops q called' done some is) = cc
  numbered_by k i e (p, called, noted) (leaves same no_link is) = let more = rw (called, noted) at (same 0) in absurd (omega arith)

  pub model_holds_what_stands : (k : ℕ) → k ≤ n → HoldsWhatStands calls answers k (run_after k)
  model_holds_what_stands = holds_what_stands calls answers n run_after told_all (λ k i e low notes. numbered_by k i e notes (changed k low))
