use Rattle.std.proofs.Common.{refl, sym, ◌∙◌, arith}
use Rattle.std.proofs.lemmas.List.{get_or_default}
use Rattle.sessions.specs.Replayed.{carried}
use Rattle.sessions.proofs.Standing.{standing_none, standing_more, seals_further, sealed_on, sealed_to_end, Finished, finished_replayed, standing_finished}
use Rattle.sessions.proofs.replay.replay.Goals as goal

pub loop-next-init : goal.loop-next-init
loop-next-init c = record { standing = rw c.open-open_record.ensures (standing_none _ _ _ _); others = refl; within = omega arith }

pub loop-next-smaller-in-Ok : goal.loop-next-smaller-in-Ok
loop-next-smaller-in-Ok c = omega (arith, c.loop-next.invariant.standing.told.long)

pub loop-next-preserved-in-Ok : goal.loop-next-preserved-in-Ok
loop-next-preserved-in-Ok c =
    let k = c.loop-next.next in
    let long = c.loop-next.invariant.standing.told.long in
    let (made, same) = rw c.loop-next.invariant.others at c.in-Ok.ensures in
    record {
      standing = standing_more _ _ _ _ _ _ _ k c.loop-next.invariant.standing (omega arith) (omega arith) _ (λ d. get_or_default c.args.calls.now k d c.index-calls-next.result (omega arith) ∙ sym c.index-calls-next.is) _ _ _ made;
      others = same;
      within = omega arith;
    }

pub loop-next-smaller : goal.loop-next-smaller
loop-next-smaller c =
    let long = c.loop-next.invariant.standing.told.long in
    let further = seals_further _ c.args.calls.now _ _ c.loop-next.next _ _ _ (omega arith) c.in-Some.ensures in
    omega arith

pub loop-next-preserved : goal.loop-next-preserved
loop-next-preserved c =
    let k = c.loop-next.next in
    let long = c.loop-next.invariant.standing.told.long in
    let (seals, count, memory, others) = c.in-Err.ensures in
    let same = others ∙ c.loop-next.invariant.others in
    let from = rw (c.handed_to-part.ensures, count, memory, same) at c.in-Some.ensures in
    let further = seals_further _ c.args.calls.now _ _ k _ _ _ (omega arith) from in
    record {
      standing =
          rw memory (sealed_on _ _ _ _ _ _ _ _ k c.loop-next.invariant.standing (omega arith) (omega arith) c.in-Err.handed
          (λ d. get_or_default c.args.calls.now k d c.index-calls-next.result (omega arith) ∙ sym c.index-calls-next.is ∙ seals) (c.seal_from.auto.answers ∙ long) _ refl _ _ from);
      others = same;
      within = omega arith;
    }

-- where the calls end while the record is sealed
pub returns-in_default : goal.returns-in_default
returns-in_default c =
    let k = c.loop-next.next in
    let long = c.loop-next.invariant.standing.told.long in
    let (seals, count, memory, others) = c.in-Err.ensures in
    let same = others ∙ c.loop-next.invariant.others in
    let from = rw (c.handed_to-part.ensures, count, memory, same) at c.in_default.ensures in
    let end : Finished c.args.calls.now c.args.memory.now c.args.others.now c.args.answers.now c.loop-next.memory c.seal_from.new.answers (carried c.args.calls.now c.args.answers.now) =
    sealed_to_end _ _ _ _ _ _ _ _ k c.loop-next.invariant.standing (omega arith) (omega arith) c.in-Err.handed
    (λ d. get_or_default c.args.calls.now k d c.index-calls-next.result (omega arith) ∙ sym c.index-calls-next.is ∙ seals) (c.seal_from.auto.answers ∙ long) _ refl from in
    rw memory (finished_replayed _ _ _ _ _ _ _ same end)

-- and where it is open
pub returns : goal.returns
returns c =
    let long = c.loop-next.invariant.standing.told.long in
    finished_replayed _ _ _ _ _ _ _ c.loop-next.invariant.others (standing_finished _ _ _ _ _ _ _ c.loop-next.next _ c.loop-next.invariant.standing (omega arith))
