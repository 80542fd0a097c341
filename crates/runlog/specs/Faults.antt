-- The refusals of the log layer, by number and place.
use Rattle.std.specs.Prelude.{ℕ}
use Rattle.runlog.specs.declared.fault.LogFault.{LogFault}
use Rattle.runlog.specs.declared.fault.LogFault.TheVariants.{Shape, BadEvent, TooMany}

-- the number and the place of each
abbrev pub fault_code : LogFault → ℕ × ℕ
fault_code (Shape p) = (10, p)
fault_code (BadEvent p) = (11, p)
fault_code (TooMany p) = (20, p)
