-- The sample run, and its log.
use Rattle.std.specs.Prelude.{◌≡◌, ℕ, List, [], ◌∷◌, length, take, drop}
use Rattle.events.specs.Run.{FullRun}
use Rattle.events.specs.declared.event.Event.{Event}
use Rattle.events.specs.declared.event.Kind.TheVariants.{Read, Write}
use Rattle.events.specs.declared.event.Mode.TheVariants.{Acquire, Release}
use Rattle.runlog.specs.Spelling.{spelling}

abbrev writes : ℕ → ℕ → Event
writes t l = record { thread = t; kind = Write; mode = Release; location = l; writer = 0 }

abbrev reads : ℕ → ℕ → ℕ → Event
reads t l w = record { thread = t; kind = Read; mode = Acquire; location = l; writer = w }

abbrev pub sample : List Event
sample = writes 1 1 ∷ (writes 1 2 ∷ (reads 1 2 4 ∷ (writes 2 2 ∷ (writes 2 1 ∷ (reads 2 1 1 ∷ [])))))

-- the sample is a full run, and s are the bytes that spell it
pub record Spelled (s : List ℕ) : Type 0 where
  pub full : FullRun sample
  pub spells : s ≡ spelling sample
  pub size : length s ≡ 66
  pub begins : take 10 s ≡ 0x08 ∷ (0x00 ∷ (0x01 ∷ (0x00 ∷ (0x01 ∷ (0x02 ∷ (0x02 ∷ (0x01 ∷ (0x00 ∷ (0x00 ∷ [])))))))))
  pub ends : drop 60 s ≡ 0x04 ∷ (0x00 ∷ (0x02 ∷ (0x00 ∷ (0x06 ∷ (0x00 ∷ [])))))
