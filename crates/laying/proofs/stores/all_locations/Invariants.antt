-- The locations so far stand in their places.
use Rattle.std.proofs.Common.{◌≡◌, ◌+◌, ◌<◌, ℕ, length, get_or}
use Rattle.events.specs.Limits.{max_locations}
use Rattle.laying.proofs.stores.all_locations.Given as goal

abbrev pub invariant-loop-i : goal.invariant-loop-i
invariant-loop-i l = (length l.locations ≡ max_locations) × ((j : ℕ) → j < l.i → get_or l.locations j 0 ≡ j + 1)
