use Rattle.std.proofs.Common.{subst}
use Rattle.relation.specs.Pairs.{Pairs}
use Rattle.verdicts.specs.Steps.{Overwrites}
use Rattle.verdicts.proofs.Chains.{rf_once}
use Rattle.judge.proofs.weak.weak_violation.Goals as goal

pub returns-in-Some-overwriter : goal.returns-in-Some-overwriter
returns-in-Some-overwriter g c =
    let es = g.E.Execution.events c.args.run.now in
    let hb = Pairs c.args.hb.now in
    let reads = c.in-Some.ensures in
    let low = c.in-Some-overwriter.ensures in (
      record {
        first = record { is = (_, (_, reads, low.is)); first = λ r less (v, (w, f, o)). c.loop-r.invariant r less w f v o };
        second = record { is = (_, reads, low.is); first = λ v less (w, f, o). low.first v less (subst (λ z. Overwrites es hb z v c.loop-r.r) (rf_once es w c.in-Some.w c.loop-r.r f reads) o) };
      },
      reads,
      low.is,
    )
