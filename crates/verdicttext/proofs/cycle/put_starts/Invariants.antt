use Rattle.std.proofs.Common.{map, decimal}
use Rattle.std.specs.List.{flat_map}
use Rattle.verdicttext.specs.Text.{marked, space}
use Rattle.writing.specs.Writes.{Puts}
use Rattle.verdicttext.proofs.cycle.put_starts.Given as goal

abbrev pub invariant-loop-step : goal.invariant-loop-step
invariant-loop-step l = Puts (flat_map (marked space) (map (λ s. decimal s.now.from) l.yielded)) l.place l.initial.text l.text l.at
