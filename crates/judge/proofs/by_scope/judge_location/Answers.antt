use Rattle.std.proofs.Common.{◌≡◌, refl, subst, arith}
use Rattle.events.specs.Run.{at}
use Rattle.judge.proofs.Rings.{all_joined}
use Rattle.judge.proofs.Shown.{back_shown, round_shown}
use Rattle.judge.proofs.by_scope.judge_location.Goals as goal

pub returns-in-Some : goal.returns-in-Some
returns-in-Some g c =
    (back_shown _ (g.met.E.Execution.full _) _ (c.args.chains.now.ordered) (c.args.chains.now.single) _ _ _ (omega (arith, c.requires.steps)) (c.in-Some.ensures.1), refl)

pub write_steps-requires-clause-joined : goal.write_steps-requires-clause-joined
write_steps-requires-clause-joined g c =
    let few = (g.met.E.Execution.full (c.args.chains.now.run.now)).few in
    let short = c.in-Err.ensures.0 in
    all_joined _ _ _ _ (omega arith) (c.in-Err.ensures.1.0)

pub returns-in-Err : goal.returns-in-Err
returns-in-Err g c =
    let full = g.met.E.Execution.full (c.args.chains.now.run.now) in
    let few = full.few in
    let short = c.in-Err.ensures.0 in
    let there =
    subst (λ r. c.location-l.result ≡ (at (g.E.Execution.events r) (c.from.result)).location) (c.run.ensures.same) (c.location-l.ensures) in (
      round_shown _ full _ (c.args.chains.now.ordered) (c.args.chains.now.single) _ _ _ (omega arith) _ _ (omega (arith, c.requires.steps)) (omega (arith, c.requires.steps))
          (c.write_steps.ensures.rest) (c.in_default.ensures) _
          (subst (λ x. c.location-l.result ≡ (at (g.E.Execution.events (c.args.chains.now.run.now)) x).location) (c.from.ensures) there) (c.in-Err.ensures.1.0) (c.write_steps.ensures.shows),
      refl,
    )
