-- Happens-before within one location, lifted from events to numbers that are kept for them.
use Rattle.std.specs.Prelude.{◌≡◌, ◌≢◌, ℕ, ◌≤◌, List, slice_index}
use Rattle.events.specs.Limits.{max_events}
use Rattle.events.specs.Run.{Within}
use Rattle.events.specs.declared.event.Event.{Event}
use Rattle.events.specs.Relations.{Rel}
use Rattle.models.specs.Models.{AtOneLocation}

-- the number a is kept for x
abbrev pub Kept : List ℕ → Rel
Kept numbers a x = (slice_index numbers x ≡ a) × (1 ≤ a)

-- the numbers that are kept are numbers of events, and are kept for events only
pub record KeptFor (es : List Event) (numbers : List ℕ) : Type 0 where
  pub high : (x : ℕ) → slice_index numbers x ≤ max_events
  pub inside : (x : ℕ) → 1 ≤ slice_index numbers x → Within es x

-- x before y leads from a to b
abbrev pub LiftsBy : List Event → Rel → List ℕ → List ℕ → ℕ → ℕ → Rel
LiftsBy es hb from to x y a b = AtOneLocation es hb x y × Kept from a x × Kept to b y × (a ≢ b)

-- x before some event does
abbrev pub LiftsFrom : List Event → Rel → List ℕ → List ℕ → ℕ → Rel
LiftsFrom es hb from to x a b = (y : ℕ) × LiftsBy es hb from to x y a b

-- some event before some other does
abbrev pub Lifts : List Event → Rel → List ℕ → List ℕ → Rel
Lifts es hb from to a b = (x : ℕ) × LiftsFrom es hb from to x a b
