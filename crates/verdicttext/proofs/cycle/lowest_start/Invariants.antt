use Rattle.std.proofs.Common.{◌≤◌, length}
use Rattle.std.specs.List.{IsFirstBest}
use Rattle.verdicttext.specs.Turns.{starts_lower}
use Rattle.verdicttext.proofs.cycle.lowest_start.Given as goal

abbrev pub invariant-loop-i : goal.invariant-loop-i
invariant-loop-i l = IsFirstBest starts_lower l.steps l.i l.lowest × (l.lowest ≤ length l.steps)
