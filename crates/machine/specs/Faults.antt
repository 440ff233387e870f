-- The number of each stage of a fault.
-- A reader must believe that these are the numbers that a fault line is asked for with.
use Rattle.std.specs.Prelude.{ℕ}
use Rattle.machine.specs.declared.fault.Stage.{Stage}
use Rattle.machine.specs.declared.fault.Stage.TheVariants.{Fetch, Displacement, Load, Store}

abbrev pub stage_number : Stage → ℕ
stage_number Fetch = 1
stage_number Displacement = 2
stage_number Load = 3
stage_number Store = 4
