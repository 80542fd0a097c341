-- The refusals of the record layer, by number and place.
use Rattle.std.specs.Prelude.{ℕ}
use Rattle.events.specs.Raw.{fault_number as field_number}
use Rattle.recorder.specs.declared.fault.RecordFault.{RecordFault}
use Rattle.recorder.specs.declared.fault.RecordFault.TheVariants.{Field, NoEvent, NotALoad, Unfit, ShortMemory, TooMany, NoEvents, StillRead, NoWriter, Damaged}

-- the number and the place of each
abbrev pub fault_code : RecordFault → ℕ × ℕ
fault_code (Field f) = (field_number f, 0)
fault_code (NoEvent i) = (5, i)
fault_code (NotALoad i) = (6, i)
fault_code (Unfit i) = (7, i)
fault_code ShortMemory = (9, 0)
fault_code TooMany = (20, 0)
fault_code NoEvents = (21, 0)
fault_code (StillRead i) = (22, i)
fault_code (NoWriter i) = (23, i)
fault_code (Damaged i) = (25, i)
