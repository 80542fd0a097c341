-- An open run with a writer for every load is full.
use Rattle.std.proofs.Common.{◌≡◌, ℕ, ◌≤◌, List, None, Ok, Err, Option, true, take, is_ok, arith}
use Rattle.events.specs.Limits.{max_events}
use Rattle.events.specs.Run.{FullRun}
use Rattle.events.specs.declared.event.Event.{Event}
use Rattle.events.specs.declared.raw.RawEvent.{RawEvent}
use Rattle.recorder.specs.Edits.{Edited, complete, seal_edit}
use Rattle.recorder.proofs.Runs.{OpenRun}
use Rattle.recorder.specs.Places.{events_of, events_in}
use Rattle.recorder.specs.Record.{and_then, on_record}
use Rattle.recorder.proofs.Lowest.{lowest_none}
use Rattle.recorder.proofs.Refusals.{Memory, Decides-lacks_writer, memory_is}
use Rattle.recorder.proofs.Undamaged.{whole_run}

complete_none : (es : List Event) (o : Option ℕ) → is_ok (complete es o) ≡ true → o ≡ None
complete_none es o ok = grind arith

pub sealed_full : (es : List Event) → OpenRun es → is_ok (seal_edit es) ≡ true → FullRun es
sealed_full es run ok =
    let none = lowest_none _ _ _ (λ i low high. Decides-lacks_writer es i) (complete_none es _ ok) in
    record {
      few = run.few;
      legal = run.legal;
      linked = λ i within. record {
        reads = λ load. (run.fitted i (λ no. none i within.0 within.1 ((within, load), no))).1;
        others = λ other. grind (arith, run.fitted i);
      };
    }

sealed_over_by : (n : ℕ) (memory : List RawEvent) (r : Edited) → n ≤ max_events → Memory n memory r → is_ok (and_then seal_edit r) ≡ true → FullRun (events_of (take n memory))
sealed_over_by n memory (Ok es) few (whole, shows) ok = sealed_full _ (whole_run n memory few whole) (rw shows at ok)
sealed_over_by n memory (Err f) few m ok = absurd (grind arith)

-- where sealing is not refused, the places of the record's events hold a full run
pub sealed_over : (n : ℕ) (memory : List RawEvent) → n ≤ max_events → is_ok (on_record n memory seal_edit) ≡ true → FullRun (events_of (take n memory))
sealed_over n memory few ok = sealed_over_by n memory (events_in n memory) few (memory_is n memory) ok
