-- What sealing means.
use Rattle.std.specs.Prelude.{◌≡◌, ℕ, List, take, Ok, Err, Result}
use Rattle.std.specs.Result.{result_map_both}
use Rattle.events.specs.declared.event.Event.{Event}
use Rattle.events.specs.declared.raw.RawEvent.{RawEvent}
use Rattle.recorder.specs.Edits.{Edited}
use Rattle.recorder.specs.Places.{events_of}
use Rattle.recorder.specs.declared.fault.RecordFault.{RecordFault}
use Rattle.recorder.specs.declared.sealing.NotSealed.{NotSealed}
use Rattle.recorder.specs.declared.sealed.SealedRecord.{SealedRecord}

-- the run that a sealed record shows
abbrev pub run_of : SealedRecord → List Event
run_of s = events_of s.places.now

-- what sealing answers, without the record that a refusal hands back
abbrev pub outcome_of : Result (Unit {0}) NotSealed → Result (Unit {0}) RecordFault
outcome_of r = result_map_both (λ u. u) (λ e. e.fault) r

-- the caller's place holds the places of the record's events, and shows them; refused, it is as it was
abbrev pub Fills : ℕ → List RawEvent → SealedRecord → SealedRecord → Edited → Type 0
Fills n memory old new (Ok es) = (new.places.now ≡ take n memory) × (run_of new ≡ es)
Fills n memory old new (Err f) = new ≡ old
