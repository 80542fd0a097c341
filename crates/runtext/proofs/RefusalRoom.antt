-- The line of a refusal is short: a log is refused within the bytes that the longest log has.
use Rattle.std.proofs.Common.{ℕ, ◌<◌, ◌≤◌, List, length, length-append, arith}
use Rattle.std.proofs.lemmas.Fmt.{length-decimal-le}
use Rattle.runlog.specs.Faults.{fault_code}
use Rattle.runlog.specs.FirstFault.{FirstFault, shape, trailing, too_many, field, writer}
use Rattle.runlog.specs.declared.fault.LogFault.{LogFault}
use Rattle.runlog.specs.declared.fault.LogFault.TheVariants.{Shape, BadEvent, TooMany}
use Rattle.runtext.specs.Text.{refusal_text}
use Rattle.runtext.specs.Longest.{longest_run}

-- nothing after the end record of the longest log is looked at
place_low : (s : List ℕ) (f : LogFault) → FirstFault s f → (fault_code f).1 < 10000
place_low s f (shape begins none not) = omega (arith, begins.few)
place_low s f (trailing begins ends more) = omega (arith, begins.few)
place_low s f (too_many begins is) = omega arith
place_low s f (field begins less is not) = omega (arith, begins.few)
place_low s f (writer closed less before not) = omega (arith, less, closed.begins.few)

number_low : (f : LogFault) → (fault_code f).0 < 100
number_low (Shape p) = omega arith
number_low (BadEvent p) = omega arith
number_low (TooMany p) = omega arith

pub refusal_fits : (s : List ℕ) (f : LogFault) → FirstFault s f → length (refusal_text f) ≤ longest_run
refusal_fits s f first =
    let low = number_low f in
    let near = place_low s f first in
    let number = length-decimal-le 2 ((fault_code f).0) (omega arith) low (omega (arith, low)) in
    let place = length-decimal-le 4 ((fault_code f).1) (omega arith) near (omega (arith, near)) in
    simp length-append (omega (arith, number, place))
