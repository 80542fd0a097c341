-- What the bytes are whose records came through the first pass.
use Rattle.std.proofs.Common.{◌≡◌, ℕ, ◌-◌, true, List, length, Ok, refl, sym, ap, ◌∙◌, arith}
use Rattle.events.specs.Raw.{checked}
use Rattle.events.specs.Run.{at, Within}
use Rattle.events.specs.declared.event.Event.{Event}
use Rattle.runlog.specs.Layout.{is_event, start, raw_at}
use Rattle.runlog.specs.Reading.{events_of}
use Rattle.runlog.specs.FirstFault.{Closed}
use Rattle.runlog.proofs.Steps.{length-events_of, at-events_of, sound_checked}

-- s holds the records of the events es, and nothing more
pub record Records (s : List ℕ) (es : List Event) : Type 0 where
  pub closed : Closed s (length es)
  pub all : es ≡ events_of s (length es)

-- a closed log holds the records of its events
pub records_of : (s : List ℕ) (n : ℕ) → Closed s n → Records s (events_of s n)
records_of s n c = record { closed = rw (length-events_of s n) c; all = rw (length-events_of s n) refl }

-- event i is in the record after i - 1 others
pub event_in : (s : List ℕ) (es : List Event) (i : ℕ) → Records s es → Within es i → (is_event s (start (i - 1)) ≡ true) × (checked (raw_at s (start (i - 1))) ≡ Ok (at es i))
event_in s es i r within =
    let here = r.closed.begins.sound (i - 1) (omega arith) in
    let event = ap (λ l. at l i) r.all ∙ at-events_of s (length es) i within.0 within.1 in
    (here.event, sound_checked s (i - 1) here ∙ ap Ok (sym event))
