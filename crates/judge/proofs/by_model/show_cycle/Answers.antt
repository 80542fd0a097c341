use Rattle.std.proofs.Common.{arith}
use Rattle.judge.proofs.Rings.{all_joined, causal_ring}
use Rattle.judge.proofs.Verdicts.{step_strict}
use Rattle.judge.proofs.by_model.show_cycle.Goals as goal

pub write_steps-requires-clause-joined : goal.write_steps-requires-clause-joined
write_steps-requires-clause-joined g c =
    let few = c.requires.few in
    all_joined _ _ _ _ (omega arith) (c.requires.cycle)

pub returns-clause-shows : goal.returns-clause-shows
returns-clause-shows g c =
    let full = g.met.E.Execution.full (c.args.run.now) in
    let few = c.requires.few in
    let room = c.requires.room in
    causal_ring _ full _ _ (omega arith) _ (omega arith) (step_strict _ full) (c.requires.cycle) (c.write_steps.ensures.shows)
