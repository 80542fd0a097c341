-- What is written of a log is what is printed of it.
use Rattle.std.proofs.Common.{◌≡◌, ℕ, ◌≤◌, List, [], ◌++◌, length, take, drop, Some, Ok, Err, IsOk, Result, refl, sym, ap, subst, ◌∙◌, arith}
use Rattle.std.proofs.Math.Seq.{take-append_seam}
use Rattle.events.specs.Run.{FullRun}
use Rattle.events.specs.declared.event.Event.{Event}
use Rattle.sessions.specs.Recording.{Writes as WritesCalls}
use Rattle.sessions.specs.declared.calls.Call.{Call}
use Rattle.runlog.specs.FirstFault.{FirstFault}
use Rattle.runlog.specs.Opening.{Opens}
use Rattle.runlog.specs.Spelling.{spelling}
use Rattle.runlog.specs.declared.fault.LogFault.{LogFault}
use Rattle.runtext.specs.Text.{refusal_text}
use Rattle.writing.specs.declared.put.Full.{Full}
use Rattle.report.specs.Longest.{longest_report}
use Rattle.report.specs.Report.{Begins, IsPrinted, refused}
use Rattle.report.proofs.Lines.{written}
use Rattle.runtext.proofs.RefusalRoom.{refusal_fits}

pub refusal_printed :
    (s : List ℕ) (f : LogFault) (old new : List ℕ) (r : Result (Unit {0}) Full) → FirstFault s f → old ≡ [] → Begins longest_report (refusal_text f) old new r
    → IsOk r × IsPrinted s new × (length new ≤ longest_report)
refusal_printed s f old new r first empty began =
    let fits = refusal_fits s f first in
    let (ok, all) = written longest_report (refusal_text f) old new r (omega (arith, ap length empty, fits)) began in
    let is : new ≡ refusal_text f = all ∙ ap (λ o. o ++ refusal_text f) empty in
    (ok, subst (IsPrinted s) (sym is) (refused first), omega (arith, ap length is, fits))

-- the run that a log shows which was not refused
pub opened : (s : List ℕ) (es : List Event) (r : Result (Unit {0}) LogFault) → Opens s es r → ((f : LogFault) → ¬ (r ≡ Err f)) → (s ≡ spelling es) × FullRun es
opened s es (Ok u) opens not = (opens es).0 (refl, refl)
opened s es (Err f) opens not = absurd (not f refl)

-- the calls that were written
pub written_calls : (cs old new : List Call) (n : ℕ) → WritesCalls cs old new (Some n) → take n new ≡ cs
written_calls cs old new n (room, size, heads) = rw (size, heads) (take-append_seam cs (drop (length cs) old))
