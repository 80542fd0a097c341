use Rattle.std.proofs.Common.{Some, refl, ap, ◌∙◌}
use Rattle.sessions.proofs.Carried.{own_carried, other_carried}
use Rattle.sessions.proofs.replay.handed_answer.Goals as goal

pub returns-in-Own : goal.returns-in-Own
returns-in-Own c = (own_carried _ _ _ _ _ _ c.in-Own.places _ c.min-end.ensures c.args.call (c.requires ∙ ap Some c.in-Own.is) c.part_answer.ensures, refl)

pub returns-in-Other : goal.returns-in-Other
returns-in-Other c = other_carried _ _ _ _ _ _ c.in-Other.part _ _ c.bounds-from.ensures.from c.bounds-from.ensures.to c.args.call (c.requires ∙ ap Some c.in-Other.is) c.part_answer-in-Other.ensures
