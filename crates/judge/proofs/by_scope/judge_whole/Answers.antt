use Rattle.std.proofs.Common.{length, take, refl, subst, ◌∙◌, arith}
use Rattle.events.specs.Relations.{◌∪◌}
use Rattle.relation.specs.Pairs.{Pairs}
use Rattle.toposort.specs.Cycle.{IsCycle}
use Rattle.verdicts.specs.Steps.{ReadSteps}
use Rattle.judge.specs.Ring.{ShowsEach, EventStep}
use Rattle.judge.proofs.Rings.{all_joined}
use Rattle.judge.proofs.Shown.{whole_shown}
use Rattle.judge.proofs.by_scope.judge_whole.Goals as goal

pub write_steps-requires-clause-joined : goal.write_steps-requires-clause-joined
write_steps-requires-clause-joined g c =
    let few = (g.met.E.Execution.full (c.of-reads.result.run.now)).few in
    let short = c.in-Err.ensures.0 in
    all_joined _ _ _ _ (omega arith) (c.in-Err.ensures.1.0)

pub returns-in-Err : goal.returns-in-Err
returns-in-Err g c =
    let few = (g.met.E.Execution.full (c.of-reads.result.run.now)).few in
    let short = c.in-Err.ensures.0 in
    let hb = Pairs (c.args.hb.now) in
    let same = c.of-reads.ensures ∙ c.run.ensures.same in
    let cycle =
    subst (λ r. IsCycle (length (g.E.Execution.events r)) (hb ∪ ReadSteps (g.E.Execution.events r) hb) (take (c.in-Err.cycle.length) (c.in-Err.cycle.nodes))) same (c.in-Err.ensures.1.0) in
    let shown =
    subst (λ r. ShowsEach (EventStep (g.E.Execution.events r) hb) (c.in-Err.cycle.nodes) (c.in-Err.cycle.length) (c.write_steps.new.steps)) same (c.write_steps.ensures.shows) in (
      whole_shown _ (g.met.E.Execution.full _) _ (c.args.chains.now.ordered) (c.args.chains.now.single) hb _ _ (omega arith) _ _ (omega (arith, c.requires.steps)) (omega (arith, c.requires.steps))
          (c.write_steps.ensures.rest) (c.requires.causal) cycle shown,
      refl,
    )
