-- A log reads as a run exactly when it is the spelling of that run, and the run is full.
use Rattle.std.proofs.Common.{◌≡◌, ℕ, ◌+◌, ◌-◌, ◌<◌, true, List, [], length, is_ok, Ok, Err, Result, sym, refl, ap, arith}
use Rattle.std.specs.Borrow.{Bor}
use Rattle.std.specs.Prelude.{IfOk}
use Rattle.std.specs.Result.{result_map_both}
use Rattle.events.specs.Limits.{max_events}
use Rattle.events.specs.Run.{at, FullRun}
use Rattle.events.specs.declared.event.Event.{Event}
use Rattle.events.proofs.Fields.{checked_legal}
use Rattle.events.proofs.Results.{ok_value}
use Rattle.runlog.specs.Layout.{byte, start, raw_at}
use Rattle.runlog.specs.Spelling.{spelling}
use Rattle.runlog.specs.Reading.{scanned, events_in, reading, shown, answer}
use Rattle.runlog.specs.Opening.{run_of, Opens, Refuses, LogOf}
use Rattle.runlog.specs.declared.log.Log.{Log}
use Rattle.runlog.specs.declared.fault.LogFault.{LogFault}
use Rattle.runlog.proofs.Outcomes.{Outcome, outcome, fault_is, reading_is, closed_scanned}
use Rattle.runlog.proofs.Recorded.{event_in}
use Rattle.runlog.proofs.Spelled.{recorded_spelled, spelled_records}

-- the run that a log comes to is full
outcome_full : (s : List ℕ) (es : List Event) → Outcome s (Ok es) → FullRun es
outcome_full s es o =
    record {
      few = o.0.closed.begins.few;
      legal = λ i within. (checked_legal (raw_at s (start (i - 1))) (at es i) (event_in s es i o.0 within).1).0;
      linked = λ i within. let same : i - 1 + 1 ≡ i = omega arith in rw same at (o.1 (i - 1) (omega arith));
    }

-- a reading that is Ok is that of a full run's spelling, and every such spelling reads so
module _ (s : List ℕ) (x : List Event) where
  pub full_from_reading : reading s ≡ Ok x → FullRun x
  full_from_reading is = outcome_full s x (rw is at (outcome s))

  pub spelled_from_reading : ((p : ℕ) → byte s p < 256) → reading s ≡ Ok x → s ≡ spelling x
  spelled_from_reading bytes is = recorded_spelled s x bytes (rw is at (outcome s)).0

  pub reading_from_spelled : FullRun x → s ≡ spelling x → reading s ≡ Ok x
  reading_from_spelled full is = rw is (reading_is (spelling x) x (spelled_records x full) (λ k within. full.linked (k + 1) (omega arith)))

-- an opened log reads as the run that it shows, and that is full
pub reads_shown : (s : List ℕ) → is_ok (reading s) ≡ true → reading s ≡ Ok (shown s)
unfolding shown
reads_shown s h = ok_value (reading s) [] h

pub full_shown : (s : List ℕ) → is_ok (reading s) ≡ true → FullRun (shown s)
full_shown s h = full_from_reading s (shown s) (reads_shown s h)

-- the log that is opened, as records
pub shown_records : (s : List ℕ) → is_ok (reading s) ≡ true → (is_ok (scanned max_events s 0) ≡ true) × (events_in s ≡ shown s)
shown_records s ok =
    let r = (rw (reads_shown s ok) at (outcome s)).0 in
    rw (closed_scanned s (length (shown s)) r.closed) (refl, sym r.all)

-- what opening answers is the reading once more, but for the run
module _ (s : List ℕ) (r : Result (Unit {0}) LogFault) (told : r ≡ answer (reading s)) where
  pub refuses : Refuses s r
  refuses f = (λ e. let is : reading s ≡ Err f = grind arith in rw is at (outcome s), λ fault. let is = fault_is s fault in grind arith)

  pub opened : is_ok r ≡ true → is_ok (reading s) ≡ true
  opened ok = grind arith

  pub opens : ((p : ℕ) → byte s p < 256) → (shows : List Event) → (is_ok r ≡ true → shows ≡ shown s) → Opens s shows r
  unfolding shown
  opens bytes shows same x = (
    λ (ok, is). let reads : reading s ≡ Ok x = grind arith in (spelled_from_reading s x bytes reads, full_from_reading s x reads),
    λ (spelled, full). let reads = reading_from_spelled s x full spelled in grind arith,
  )

-- and so for a log as a value
pub log_of : (bytes : Bor (List ℕ)) (r : Result Log LogFault) → ((p : ℕ) → byte bytes.now p < 256) → result_map_both (λ _. tt) (λ f. f) r ≡ answer (reading bytes.now) → IfOk r (λ l. l.bytes ≡ bytes) → LogOf bytes r
log_of bytes (Ok l) small told same =
    let s = bytes.now in
    record {
      answers = told;
      holds = same;
      opens = λ x. let o = opens s (Ok tt) told small (run_of l) (λ _. ap (λ b. shown b.now) same) x in (λ is. o.0 (refl, is), λ h. (o.1 h).1);
      refuses = λ f. (λ e. grind arith, λ fault. let no = (refuses s (Ok tt) told f).1 fault in grind arith);
    }
log_of bytes (Err g) small told same =
    let s = bytes.now in
    record {
      answers = told;
      holds = same;
      opens = λ x. (λ is. absurd is, λ h. let no = ((opens s (Err g) told small [] (λ ok. grind arith) x).1 h).0 in grind arith);
      refuses = λ f. (λ e. let is : g ≡ f = cc in (refuses s (Err g) told f).0 (ap Err is), λ fault. let is = (refuses s (Err g) told f).1 fault in grind arith);
    }
