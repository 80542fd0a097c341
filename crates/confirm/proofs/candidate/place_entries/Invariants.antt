-- The entries so far stand in their places.
use Rattle.confirm.specs.Places.{PlacesOf}
use Rattle.confirm.proofs.candidate.place_entries.Given as goal

abbrev pub invariant-loop-i : goal.invariant-loop-i
invariant-loop-i g l = PlacesOf (g.E.Execution.events l.run) l.order l.i l.places
