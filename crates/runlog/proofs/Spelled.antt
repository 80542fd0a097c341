-- A closed log is the spelling of its events, and the spelling of a full run is closed.
use Rattle.std.proofs.Common.{◌≡◌, ℕ, zero, suc, ◌+◌, ◌*◌, ◌<◌, ◌≤◌, true, List, [], ◌∷◌, ◌++◌, length, get_or, take, drop, map, sym, refl, ap, ◌∙◌, arith}
use Rattle.std.proofs.lemmas.Bool.Decides.{nat_tests}
use Rattle.std.proofs.lemmas.List.{length-append, length-drop, take_all, take-append-drop, drop-drop, drop_at}
use Rattle.std.proofs.lemmas.List.FromFn.{fill_by_all}
use Rattle.std.proofs.lemmas.Simd.{pick_l-range_with_len}
use Rattle.std.specs.List.{flat_map, range_with_len}
use Rattle.events.specs.Raw.{Legal, raw_of}
use Rattle.events.specs.Run.{no_event, FullRun}
use Rattle.events.specs.declared.event.Event.{Event}
use Rattle.events.proofs.Fields.{checked_legal, legal_checked}
use Rattle.events.proofs.Numbers.{at_next}
use Rattle.runlog.specs.Layout.{byte, word, is_event, is_end, start, after_end, raw_at}
use Rattle.runlog.specs.Spelling.{event_bytes, end_bytes, spelling}
use Rattle.runlog.specs.Reading.{event_at}
use Rattle.runlog.specs.FirstFault.{Closed}
use Rattle.runlog.proofs.Steps.{sound_checked}
use Rattle.runlog.proofs.Recorded.{Records}

-- ten bytes spell an event if they are its record, and six a number of events if they are an end record that counts them
module _ (s : List ℕ) (p : ℕ) where
  event_spelled : (e : Event) → byte s (p + 8) < 256 → is_event s p ≡ true → raw_of e ≡ raw_at s p → take 10 (drop p s) ≡ event_bytes e
  event_spelled e small is same = let bytes = pick_l-range_with_len 0 s p 10 (grind (arith, nat_tests)) in grind (arith, nat_tests)

  end_spelled : (n : ℕ) → byte s (p + 4) < 256 → length s ≡ p + 6 → is_end s p ≡ true → word s (p + 4) ≡ n → drop p s ≡ end_bytes n
  end_spelled n small long is counts =
      let bytes = pick_l-range_with_len 0 s p 6 (omega arith) in
      let all = take_all 6 (drop p s) (omega (arith, length-drop {A = ℕ})) in
      grind (arith, nat_tests)

  -- and only if
  spelled_event : (e : Event) → p + 10 ≤ length s → take 10 (drop p s) ≡ event_bytes e → (is_event s p ≡ true) × (raw_of e ≡ raw_at s p)
  spelled_event e room part = let bytes = pick_l-range_with_len 0 s p 10 room in grind (arith, nat_tests)

  spelled_end : (n : ℕ) → length s ≡ p + 6 → drop p s ≡ end_bytes n → (is_end s p ≡ true) × (word s (p + 4) ≡ n)
  spelled_end n long part =
      let bytes = pick_l-range_with_len 0 s p 6 (omega arith) in
      let all = ap (take 6) part in
      grind (arith, nat_tests)

module _ (s : List ℕ) (bytes : (p : ℕ) → byte s p < 256) (n : ℕ) (c : Closed s n) where
  -- what is left of a closed log spells the events that are left
  rest_spelled : (m k : ℕ) → k + m ≡ n → drop (start k) s ≡ flat_map event_bytes (map (event_at s) (range_with_len k m)) ++ end_bytes n
  rest_spelled zero k all = let last : k ≡ n = omega arith in rw last (end_spelled s (start n) n (bytes (start n + 4)) (sym c.whole) c.ends.is c.ends.counts)
  rest_spelled (suc m) k all =
      let here = c.begins.sound k (omega arith) in
      let raw = (checked_legal (raw_at s (start k)) (event_at s k) (sound_checked s k here)).1 in
      let first = event_spelled s (start k) (event_at s k) (bytes (start k + 8)) here.event raw in
      let next : start k + 10 ≡ start (k + 1) = omega arith in
      sym (take-append-drop 10 (drop (start k) s)) ∙ rw (first, drop-drop 10 (start k) s, next, rest_spelled m (k + 1) (omega arith))

-- a log is the spelling of the events that it records
pub recorded_spelled : (s : List ℕ) (es : List Event) → ((p : ℕ) → byte s p < 256) → Records s es → s ≡ spelling es
recorded_spelled s es bytes r = rw (← r.all) at (rest_spelled s bytes (length es) r.closed (length es) 0 (omega arith))

-- ten bytes for each event
length-body : (es : List Event) → length (flat_map event_bytes es) ≡ 10 * length es
length-body [] = refl
length-body (e ∷ es) = omega (arith, length-body es)

-- and those of event k + 1 after the ones of k others
part_of : (es : List Event) (rest : List ℕ) (k : ℕ) → k < length es → take 10 (drop (start k) (flat_map event_bytes es ++ rest)) ≡ event_bytes (get_or es k no_event)
part_of [] rest k within = absurd (omega arith)
part_of (e ∷ es) rest zero within = refl
part_of (e ∷ es) rest (suc k) within =
    let next : start (suc k) ≡ 10 + start k = omega arith in
    rw (next, ← (drop-drop (start k) 10 (flat_map event_bytes (e ∷ es) ++ rest))) (part_of es rest k (omega arith))

-- the bytes of a spelling, read back
module _ (es : List Event) (full : FullRun es) where
  abbrev s : List ℕ
  s = spelling es

  long : length s ≡ after_end (length es)
  long = omega (arith, length-append {A = ℕ}, length-body)

  event_back : (k : ℕ) → k < length es → (is_event s (start k) ≡ true) × (raw_of (get_or es k no_event) ≡ raw_at s (start k))
  event_back k within = spelled_event s (start k) (get_or es k no_event) (omega (arith, long)) (part_of es (end_bytes (length es)) k within)

  legal : (k : ℕ) → k < length es → Legal (get_or es k no_event)
  legal k within = rw (at_next es k) at (full.legal (k + 1) (omega arith))

  event_at-spelling : (k : ℕ) → k < length es → get_or es k no_event ≡ event_at s k
  event_at-spelling k within = rw (legal_checked (raw_at s (start k)) (get_or es k no_event) (legal k within) (event_back k within).1) refl

  pub spelled_records : Records s es
  spelled_records =
      let end = spelled_end s (start (length es)) (length es) long (drop_at (flat_map event_bytes es) (end_bytes (length es)) (start (length es)) (length-body es)) in
      record {
        closed =
            record {
              begins = record { few = full.few; sound = λ k within. let here = event_back k within in record { event = here.0; legal = (get_or es k no_event, legal k within, here.1) } };
              ends = record { is = end.0; counts = end.1 };
              whole = sym long;
            };
        all = fill_by_all (event_at s) es (length es) no_event refl event_at-spelling;
      }
