use Rattle.std.proofs.Common.{refl, subst, sym, ap, ◌∙◌}
use Rattle.runlog.specs.Reading.{shown}
use Rattle.runlog.proofs.Laws.{opened, reads_shown}
use Rattle.runtext.specs.Text.{refusal_text, run_text, log_text}
use Rattle.writing.specs.Writes.{Writes}
use Rattle.runtext.proofs.Longest.{finds_room}
use Rattle.runtext.proofs.RefusalRoom.{refusal_fits}
use Rattle.runtext.proofs.Texts.{tells}
use Rattle.runtext.proofs.run.write_log.Goals as goal

pub returns-in-Ok-clause-text : goal.returns-in-Ok-clause-text
returns-in-Ok-clause-text c =
    let s = c.args.bytes.now in
    let told = c.in-Ok.ensures in
    let reads = reads_shown s (opened s _ told.answers refl) in
    let run = ap (λ b. run_text (shown b.now)) told.holds in
    subst (λ t. Writes t c.args.text.now c.write_run.new.text c.write_run.result) (run ∙ sym (ap log_text reads)) c.write_run.ensures.text

pub returns-in-Ok-clause-tells : goal.returns-in-Ok-clause-tells
returns-in-Ok-clause-tells c = tells c.args.bytes.now _ refl

pub returns-in-Err-clause-tells : goal.returns-in-Err-clause-tells
returns-in-Err-clause-tells c = tells c.args.bytes.now _ refl

pub returns-in-Err-clause-suffices : goal.returns-in-Err-clause-suffices
returns-in-Err-clause-suffices c =
    finds_room (refusal_text c.in-Err.fault) c.args.text.now c.write_refusal.new.text c.write_refusal.result c.write_refusal.ensures (refusal_fits _ _ ((c.try_from.ensures.refuses c.in-Err.fault).0 c.in-Err.is))
