-- What is gathered stands in front, and the other places are as they were.
use Rattle.std.specs.Prelude.{slice_index}
use Rattle.laying.proofs.Steps.{Begun}
use Rattle.laying.proofs.gather.gather.Given as goal

abbrev pub invariant-loop-k : goal.invariant-loop-k
invariant-loop-k l = Begun (slice_index l.class_of) l.members l.classes l.fn.into l.k 0 l.into l.count

abbrev pub invariant-loop-j : goal.invariant-loop-j
invariant-loop-j l = Begun (slice_index l.class_of) l.members l.classes l.fn.into l.k l.j l.into l.count
