-- Kinds, modes, events and refusals as text.
use Rattle.std.specs.Prelude.{ℕ, Bool, true, false, List, [], ◌∷◌, ◌++◌, Some, None, codes, decimal, Option}
use Rattle.events.specs.Events.{is_access, writer_of}
use Rattle.events.specs.declared.event.Kind.{Kind}
use Rattle.events.specs.declared.event.Kind.TheVariants.{Read, Write, Update, Fence}
use Rattle.events.specs.declared.event.Mode.{Mode}
use Rattle.events.specs.declared.event.Mode.TheVariants.{Relaxed, Acquire, Release, AcquireRelease}
use Rattle.events.specs.declared.event.Event.{Event}

abbrev pub kind_letter : Kind → List ℕ
kind_letter Read = codes "R"
kind_letter Write = codes "W"
kind_letter Update = codes "U"
kind_letter Fence = codes "F"

abbrev pub mode_word : Mode → List ℕ
mode_word Relaxed = codes "rlx"
mode_word Acquire = codes "acq"
mode_word Release = codes "rel"
mode_word AcquireRelease = codes "acqrel"

-- words with one space between each and the next
abbrev pub spaced : List (List ℕ) → List ℕ
spaced [] = []
spaced (w ∷ []) = w
spaced (w ∷ (v ∷ ws)) = w ++ (codes " " ++ spaced (v ∷ ws))

-- a fence shows no location and no writer
abbrev pub place_words : Bool → ℕ → Option ℕ → List (List ℕ)
place_words false l o = []
place_words true l None = (codes "L" ++ decimal l) ∷ []
place_words true l (Some w) = (codes "L" ++ decimal l) ∷ (codes "from" ∷ (decimal w ∷ []))

abbrev pub event_text : Event → List ℕ
event_text e =
    spaced ((codes "T" ++ decimal e.thread) ∷ (kind_letter e.kind ∷ (mode_word e.mode ∷ place_words (is_access e.kind) e.location (writer_of e))))

-- a refusal, by its number and its place
abbrev pub refused_text : ℕ × ℕ → List ℕ
refused_text code = spaced (codes "refused" ∷ (decimal code.0 ∷ (decimal code.1 ∷ [])))
