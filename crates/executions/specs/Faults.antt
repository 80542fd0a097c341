-- The refusals of the checker layer, by number and place.
use Rattle.std.specs.Prelude.{ℕ}
use Rattle.executions.specs.declared.fault.CheckerFault.{CheckerFault}
use Rattle.executions.specs.declared.fault.CheckerFault.TheVariants.{NoEvent, NoModel, ShortBuffer, NotAnOrder, HasUpdates}

-- the number and the place of each
abbrev pub fault_code : CheckerFault → ℕ × ℕ
fault_code (NoEvent i) = (5, i)
fault_code NoModel = (8, 0)
fault_code ShortBuffer = (9, 0)
fault_code NotAnOrder = (12, 0)
fault_code (HasUpdates i) = (24, i)
