-- The text of a log is that of the run that it spells, or of its first fault.
use Rattle.std.proofs.Common.{◌≡◌, ℕ, List, ap, ◌∙◌}
use Rattle.runlog.specs.Reading.{reading}
use Rattle.runlog.proofs.Laws.{reading_from_spelled}
use Rattle.runlog.proofs.Outcomes.{fault_is}
use Rattle.runtext.specs.Text.{log_text, Tells}

pub tells : (s t : List ℕ) → t ≡ log_text (reading s) → Tells s t
tells s t is =
    record {
      reads = is;
      runs = λ x spelled full. is ∙ ap log_text (reading_from_spelled s x full spelled);
      refuses = λ f fault. is ∙ ap log_text (fault_is s fault);
    }
