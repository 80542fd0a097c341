use Rattle.std.proofs.Common.{◌≡◌, ℕ, ◌+◌, Bool, length, sym, ap, ◌∙◌, arith}
use Rattle.events.specs.Events.{is_load}
use Rattle.events.specs.Limits.{max_events}
use Rattle.events.specs.Run.{at}
use Rattle.sessions.specs.declared.calls.Call.{Call}
use Rattle.sessions.specs.declared.calls.Call.TheVariants.{Link}
use Rattle.sessions.specs.declared.handed.Handed.TheVariants.{Own}
use Rattle.sessions.proofs.Written.{passing_same, one_more, heads_passing}
use Rattle.sessions.proofs.recording.write_links.Goals as goal
use Rattle.sessions.proofs.recording.write_links.Goals.{then-is_load, else-is_load}

pub loop-i-preserved : goal.loop-i-preserved
loop-i-preserved g c =
    let es = g.E.Execution.events c.args.run.now in
    let i = c.loop-i.i in
    let tests : ℕ → Bool = λ i. is_load (at es i).kind in
    let link : ℕ → Call = λ i. Link (Own max_events) i (at es i).writer in
    let asked = ap (λ e. is_load e.kind) (sym c.event_at-event.ensures) ∙ sym c.is_load.ensures in
    elim c.if-is_load.branch [
      | then-is_load w ↦
          let passes = asked ∙ w.if-is_load.true in
          let given : w.from.result ≡ (at es i).writer = w.from.ensures ∙ ap (λ e. e.writer) c.event_at-event.ensures in
          let written = rw given at w.calls-is in
          record {
            heads = rw written (heads_passing tests link _ _ i c.loop-i.next c.loop-i.auto.i passes c.loop-i.invariant.counted (omega (arith, c.loop-i.invariant.few)) c.loop-i.invariant.heads);
            counted = w.next-is ∙ ap (λ n. n + 1) c.loop-i.invariant.counted ∙ sym (one_more tests i c.loop-i.auto.i passes);
            few = omega (arith, w.next-is, c.loop-i.invariant.few);
          }
      | else-is_load w ↦
          let same = passing_same tests i c.loop-i.auto.i (asked ∙ w.if-is_load.false) in
          record {
            heads = rw (w.calls-is, same) c.loop-i.invariant.heads;
            counted = w.next-is ∙ c.loop-i.invariant.counted ∙ ap length (sym same);
            few = omega (arith, w.next-is, c.loop-i.invariant.few);
          }
    ]
