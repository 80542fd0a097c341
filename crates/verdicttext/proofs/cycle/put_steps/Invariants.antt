use Rattle.std.proofs.Common.{◌≡◌, map}
use Rattle.std.specs.List.{join_with_byte}
use Rattle.verdicttext.specs.Text.{comma, step_text}
use Rattle.verdicttext.proofs.Words.{mark_after}
use Rattle.writing.specs.Writes.{Puts}
use Rattle.verdicttext.proofs.cycle.put_steps.Given as goal

abbrev pub invariant-loop-step : goal.invariant-loop-step
invariant-loop-step l =
    (l.mark ≡ mark_after comma l.yielded)
    × Puts (join_with_byte comma (map (λ s. step_text s.now) l.yielded)) l.place l.initial.text l.text l.at
