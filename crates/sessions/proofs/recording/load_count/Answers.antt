use Rattle.std.proofs.Common.{ℕ, ◌+◌, Bool, length, sym, ap, ◌∙◌, arith}
use Rattle.events.specs.Events.{is_load}
use Rattle.events.specs.Run.{at}
use Rattle.sessions.proofs.Written.{passing_same, one_more}
use Rattle.sessions.proofs.recording.load_count.Goals as goal
use Rattle.sessions.proofs.recording.load_count.Goals.{then-is_load, else-is_load}

pub loop-i-preserved : goal.loop-i-preserved
loop-i-preserved g c =
    let i = c.loop-i.i in
    let tests : ℕ → Bool = λ i. is_load (at (g.E.Execution.events c.args.run.now) i).kind in
    let asked = ap (λ e. is_load e.kind) (sym c.event_at.ensures) ∙ sym c.is_load.ensures in
    elim c.if-is_load.branch [
      | then-is_load w ↦ let more = one_more tests i c.loop-i.auto.i (asked ∙ w.if-is_load.true) in record { counted = w.count-is ∙ ap (λ n. n + 1) c.loop-i.invariant.counted ∙ sym more; few = omega (arith, w.count-is, c.loop-i.invariant.few) }
      | else-is_load w ↦ record { counted = w.count-is ∙ c.loop-i.invariant.counted ∙ ap length (sym (passing_same tests i c.loop-i.auto.i (asked ∙ w.if-is_load.false))); few = omega (arith, w.count-is, c.loop-i.invariant.few) }
    ]
