-- The places so far are kept, and the others are as they were.
use Rattle.chains.specs.Numbers.{PlacesIn, OthersKept}
use Rattle.chains.proofs.fill.fill_places.Given as goal

abbrev pub invariant-loop-k : goal.invariant-loop-k
invariant-loop-k l = PlacesIn l.k l.order l.places × OthersKept l.k l.order l.initial.places l.places
