-- The twins that are found of a run.
use Rattle.std.specs.Prelude.{List}
use Rattle.events.specs.declared.event.Event.{Event}
use Rattle.events.specs.Lowest.{IsLowestPair}
use Rattle.events.specs.Relations.{Rel, ◌⁻¹}
use Rattle.verdicts.specs.Violations.{AreTwins}

-- the twins of which the second is the lowest, and then the first
abbrev pub LowestTwins : List Event → Rel
LowestTwins es u v = IsLowestPair (AreTwins es ⁻¹) v u
