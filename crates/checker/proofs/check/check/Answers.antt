use Rattle.std.proofs.Common.{refl}
use Rattle.models.specs.declared.name.ModelName.TheVariants.{Rc20, Ra, Relaxed}
use Rattle.checker.proofs.Promise.{same_verdicts}
use Rattle.checker.proofs.Verdicts.{related}
use Rattle.sessions.proofs.Recorded.{records}
use Rattle.checker.proofs.check.check.Goals as goal

pub returns : goal.returns
returns g c =
    let j = c.judge_under-verdict.ensures in
    let through = related _ (g.met.E.Execution.full c.args.run.now) in
    record {
      records = c.replay.ensures;
      verdict = record { judges = j.answers; decides = j.decides; one = j.one; rules_out = j.rules_out };
      confirmed = c.confirmed-confirmed.ensures;
      exact = c.confirm_under.ensures.answers;
      views =
          record {
            under_ra = c.under.ensures.judges;
            under_relaxed = c.under-2.ensures.judges;
            through_strengthened = c.under-3.ensures.judges;
            through_relaxed = c.under-4.ensures.judges;
            gives_ra = same_verdicts Rc20 Ra _ _ refl refl through.through_strengthened _ _ c.under-3.ensures.places c.under.ensures.places c.under-3.ensures.judges c.under.ensures.judges;
            gives_relaxed = same_verdicts Rc20 Relaxed _ _ refl refl through.through_relaxed _ _ c.under-4.ensures.places c.under-2.ensures.places c.under-4.ensures.judges c.under-2.ensures.judges;
          };
      models = related;
      recordable = records;
    }
