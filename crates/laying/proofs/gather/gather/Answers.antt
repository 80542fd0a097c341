use Rattle.std.proofs.Common.{◌≡◌, length, arith}
use Rattle.laying.proofs.Laws.{gathers_one}
use Rattle.laying.proofs.Steps.{begun_class, begun_skip, begun_room, begun_more, begun_all}
use Rattle.laying.proofs.gather.gather.Goals as goal
use Rattle.laying.proofs.gather.gather.Goals.{then-class_of-from, else-class_of-from}

pub bounds-into-count : goal.bounds-into-count
bounds-into-count c =
    let room = begun_room _ _ _ _ _ _ _ _ c.loop-j.invariant (omega arith) (omega arith) c.requires.once c.requires.classes (rw c.from.ensures at c.if-class_of-from.true) in
    omega arith

pub loop-j-preserved : goal.loop-j-preserved
loop-j-preserved c =
    let e = c.from.ensures in
    elim c.if-class_of-from.branch [
      | then-class_of-from w ↦
          rw (w.count-is, w.into-is)
          (begun_more _ _ _ _ _ _ _ _ c.loop-j.invariant (omega arith) (omega arith) c.requires.once c.requires.classes (rw e at w.if-class_of-from.true) (omega arith))
      | else-class_of-from w ↦
          rw (w.count-is, w.into-is) (begun_skip _ _ _ _ _ _ _ _ c.loop-j.invariant (omega arith) (omega arith) (rw e at w.if-class_of-from.false))
    ]

pub loop-k-preserved : goal.loop-k-preserved
loop-k-preserved c =
    let ended : c.loop-j.j ≡ length c.args.members.now = omega arith in
    begun_class _ _ _ _ _ _ _ (rw ended at c.loop-j.invariant)

pub returns-clause-gathers : goal.returns-clause-gathers
returns-clause-gathers c =
    let ended : c.loop-k.k ≡ length c.args.classes.now = omega arith in
    begun_all _ _ _ _ _ _ (omega arith) (rw ended at c.loop-k.invariant)

pub returns-clause-one : goal.returns-clause-one
returns-clause-one c = gathers_one _ _ _ c.requires.once c.requires.classes
