-- The number of each cause of a fault.
-- A reader must believe that these are the numbers that a fault line is asked for with.
use Rattle.std.specs.Prelude.{ℕ}
use Rattle.card.specs.declared.cell.Cause.{Cause}
use Rattle.card.specs.declared.cell.Cause.TheVariants.{Absent, Fixed}

abbrev pub cause_number : Cause → ℕ
cause_number Absent = 1
cause_number Fixed = 2
