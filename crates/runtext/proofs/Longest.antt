-- No text of a run is longer than the longest.
use Rattle.std.proofs.Common.{◌≡◌, ℕ, suc, true, false, ◌*◌, ◌<◌, ◌≤◌, Bool, List, [], ◌∷◌, ◌++◌, codes, length, ⊎_elim, decimal, Some, None, Ok, Err, IsOk, Result, refl, length-append, arith}
use Rattle.std.specs.Prelude.{Option, ◌==◌, if◌then◌else◌}
use Rattle.std.specs.List.{All}
use Rattle.std.proofs.lemmas.Bool.{cases_Bool}
use Rattle.std.proofs.lemmas.Grind.{common_steps}
use Rattle.std.proofs.lemmas.Fmt.{length-decimal-le}
use Rattle.std.proofs.lemmas.List.Elements.{All-head, All-tail, All-from_get_or}
use Rattle.events.specs.Events.{is_access, is_load, writer_of}
use Rattle.events.specs.Limits.{max_events}
use Rattle.events.specs.Run.{at, no_event, Within, FullRun}
use Rattle.events.specs.Text.{kind_letter, mode_word, place_words, spaced}
use Rattle.events.specs.declared.event.Event.{Event}
use Rattle.events.specs.declared.event.Kind.{Kind}
use Rattle.events.specs.declared.event.Kind.TheVariants.{Read, Write, Update, Fence}
use Rattle.events.specs.declared.event.Mode.{Mode}
use Rattle.events.specs.declared.event.Mode.TheVariants.{Relaxed, Acquire, Release, AcquireRelease}
use Rattle.writing.specs.declared.put.Full.{Full}
use Rattle.writing.specs.Writes.{Writes}
use Rattle.runtext.specs.Longest.{longest_run}
use Rattle.runtext.specs.Text.{line_text, lines_text, run_text}

letter_short : (k : Kind) → length (kind_letter k) ≤ 1
letter_short Read = omega arith
letter_short Write = omega arith
letter_short Update = omega arith
letter_short Fence = omega arith

word_short : (m : Mode) → length (mode_word m) ≤ 6
word_short Relaxed = omega arith
word_short Acquire = omega arith
word_short Release = omega arith
word_short AcquireRelease = omega arith

-- the mode, and where the event stands
place_short : (m : Mode) (access : Bool) (l : ℕ) (w : Option ℕ) → length (decimal l) ≤ 2 → ((n : ℕ) → w ≡ Some n → length (decimal n) ≤ 3)
    → length (spaced (mode_word m ∷ place_words access l w)) ≤ 19
place_short m false l w near few = let word = word_short m in omega (arith, word)
place_short m true l None near few = let word = word_short m in simp length-append (omega (arith, word, near))
place_short m true l (Some n) near few = let word = word_short m in let from = few n refl in simp length-append (omega (arith, word, near, from))

abbrev Short : Event → Type 0
Short e = length (line_text e) ≤ 25

event_short : (e : Event) → length (decimal e.thread) ≤ 1 → length (decimal e.location) ≤ 2 → ((n : ℕ) → writer_of e ≡ Some n → length (decimal n) ≤ 3) → Short e
event_short e thread near few =
    let letter = letter_short e.kind in
    let place = place_short e.mode (is_access e.kind) e.location (writer_of e) near few in
    simp length-append (omega (arith, thread, letter, place))

lines_short : (es : List Event) → All Short es → length (lines_text es) ≤ 25 * length es
lines_short [] all = omega arith
lines_short (e ∷ es) all = longer (line_text e) (lines_text es) (length es) (All-head Short e es all) (lines_short es (All-tail Short e es all))
  where
    longer : (l ls : List ℕ) (n : ℕ) → length l ≤ 25 → length ls ≤ 25 * n → length (l ++ ls) ≤ 25 * suc n
    longer l ls n first rest = simp length-append (omega (arith, first, rest))

writer_is : (w n : ℕ) → (if w == 0 then None else Some w) ≡ Some n → w ≡ n
writer_is w n is = grind (arith, common_steps, is)

ends : (ls count : List ℕ) (n : ℕ) → n ≤ max_events → length ls ≤ 25 * n → length count ≤ 3 → length (ls ++ (count ++ codes " events\n")) ≤ longest_run
ends ls count n few lines digits = simp length-append (omega (arith, few, lines, digits))

module _ (es : List Event) (full : FullRun es) where
  is_short : (i : ℕ) → i < length es → Short (at es (suc i))
  is_short i lt =
      let within : Within es (suc i) = (omega arith, omega arith) in
      let legal = full.legal (suc i) within in
      let linked = full.linked (suc i) within in
      let e = at es (suc i) in
      let few = full.few in
      let thread = legal.thread in
      let location : e.location ≤ 64 =
      ⊎_elim (λ yes. let h = legal.location.0 yes in omega (arith, h)) (λ no. let h = legal.location.1 no in omega (arith, h)) (cases_Bool (is_access e.kind)) in
      let writer : e.writer ≤ max_events =
      ⊎_elim (λ yes. let h = ((linked.reads yes).store).0 in omega (arith, h, few)) (λ no. let h = linked.others no in omega (arith, h)) (cases_Bool (is_load e.kind)) in
      event_short e (length-decimal-le 1 (e.thread) (omega arith) (omega (arith, thread)) (omega (arith, thread)))
      (length-decimal-le 2 (e.location) (omega arith) (omega (arith, location)) (omega (arith, location)))
      (λ n is. let same = writer_is (e.writer) n is in length-decimal-le 3 n (omega arith) (omega (arith, writer, same)) (omega (arith, writer, same)))

  pub run_fits : length (run_text es) ≤ longest_run
  run_fits =
      let few = full.few in
      let count = length-decimal-le 3 (length es) (omega arith) (omega (arith, few)) (omega (arith, few)) in
      ends (lines_text es) (decimal (length es)) (length es) few (lines_short es (All-from_get_or Short es no_event is_short)) count

-- what finds room is written
pub finds_room : (t old new : List ℕ) (r : Result ℕ Full) → Writes t old new r → length t ≤ longest_run → longest_run ≤ length old → IsOk r
finds_room t old new (Ok n) written fits room = refl
finds_room t old new (Err full) (long, kept) fits room = absurd (omega (arith, long, fits, room))
