use Rattle.std.proofs.Common.{rules, arith}
use Rattle.std.proofs.lemmas.Grind.{common_steps}
use Rattle.recorder.proofs.Refusals.{note_told}
use Rattle.recorder.proofs.opened.OpenRecord.note.Goals as goal

pub returns-in_err-of-clause-refuses : goal.returns-in_err-of-clause-refuses
returns-in_err-of-clause-refuses c = note_told _ _ _ _ (search rules)

pub returns-in_err-check_note-clause-refuses : goal.returns-in_err-check_note-clause-refuses
returns-in_err-check_note-clause-refuses c = note_told _ _ _ _ (grind (arith, common_steps))

pub returns-clause-refuses : goal.returns-clause-refuses
returns-clause-refuses c = note_told _ _ _ _ (search rules)
