-- What is wrong with a log that does not open, and that it is the first thing wrong.
use Rattle.std.specs.Prelude.{◌≡◌, ℕ, ◌+◌, ◌<◌, ◌≤◌, true, false, ◌≢◌, List, length}
use Rattle.events.specs.Limits.{max_events}
use Rattle.events.specs.Raw.{Legal, raw_of}
use Rattle.events.specs.Run.{Linked}
use Rattle.events.specs.declared.event.Event.{Event}
use Rattle.runlog.specs.Layout.{word, is_event, is_end, start, after_end, raw_at}
use Rattle.runlog.specs.Reading.{events_of}
use Rattle.runlog.specs.declared.fault.LogFault.{LogFault}
use Rattle.runlog.specs.declared.fault.LogFault.TheVariants.{Shape, BadEvent, TooMany}

-- the numbers of the record that begins at p are those of a legal event
abbrev pub LegalAt : List ℕ → ℕ → Type 0
LegalAt s p = (e : Event) × Legal e × (raw_of e ≡ raw_at s p)

-- the record after k others is that of an event, and a legal one
pub record Sound (s : List ℕ) (k : ℕ) : Type 0 where
  pub event : is_event s (start k) ≡ true
  pub legal : LegalAt s (start k)

-- the log begins with n sound event records
pub record Begins (s : List ℕ) (n : ℕ) : Type 0 where
  pub few : n ≤ max_events
  pub sound : (k : ℕ) → k < n → Sound s k

-- an end record that counts n events follows n event records
pub record Ends (s : List ℕ) (n : ℕ) : Type 0 where
  pub is : is_end s (start n) ≡ true
  pub counts : word s (start n + 4) ≡ n

-- n sound event records, an end record that counts them, and nothing more
pub record Closed (s : List ℕ) (n : ℕ) : Type 0 where
  pub begins : Begins s n
  pub ends : Ends s n
  pub whole : after_end n ≡ length s

pub data FirstFault (s : List ℕ) : LogFault → Type 0 where
  -- neither an event record nor an end record that counts right: cut short, of another length and kind, or miscounted
  shape : {n : ℕ} → Begins s n → is_event s (start n) ≡ false → ¬ Ends s n → FirstFault s (Shape (start n))
  -- bytes after the end
  trailing : {n : ℕ} → Begins s n → Ends s n → after_end n ≢ length s → FirstFault s (Shape (after_end n))
  -- an event record more than a run may have
  too_many : Begins s max_events → is_event s (start max_events) ≡ true → FirstFault s (TooMany (start max_events))
  -- an event record with a field out of its range
  field : {n : ℕ} → Begins s n → n < max_events → is_event s (start n) ≡ true → ¬ LegalAt s (start n) → FirstFault s (BadEvent (start n))
  -- a load without a writer that fits, or another event with one, in the record after k others
  writer : {n k : ℕ} → Closed s n → k < n → ((j : ℕ) → j < k → Linked (events_of s n) (j + 1)) → ¬ Linked (events_of s n) (k + 1) → FirstFault s (BadEvent (start k))
