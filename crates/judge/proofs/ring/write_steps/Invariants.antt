-- The steps so far show their edges, and what is behind those of the cycle is as it was.
use Rattle.std.proofs.Common.{◌≡◌, ℕ, ◌<◌, length, drop}
use Rattle.judge.specs.Ring.{ShowsAt}
use Rattle.judge.proofs.ring.write_steps.Given as goal

abbrev pub invariant-loop-i : goal.invariant-loop-i
invariant-loop-i g l =
    (length l.steps ≡ length l.initial.steps)
    × (drop l.n l.steps ≡ drop l.n l.initial.steps)
    × ((j : ℕ) → j < l.i → ShowsAt (g.J.Joins.shows l.joins) l.cycle l.n l.steps j)
