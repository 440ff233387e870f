-- The numbers of the axes.
-- A reader must believe that these are the numbers that power-up takes and a fault line is asked for with.
use Rattle.std.specs.Prelude.{ℕ, Ok, Err, Result, ◌==◌, if◌then◌else◌}
use Rattle.refusal.specs.declared.Refusal.{Refusal}
use Rattle.refusal.specs.declared.Refusal.TheVariants as refused
use Rattle.machine.specs.declared.axis.Axis.{Axis}
use Rattle.machine.specs.declared.axis.Axis.TheVariants.{One, Two, Three}

abbrev pub axis_number : Axis → ℕ
axis_number One = 1
axis_number Two = 2
axis_number Three = 3

-- The axis of a number; a number of no axis is refused.
abbrev pub axis_of : ℕ → Result Axis Refusal
axis_of n = if n == 1 then Ok One else if n == 2 then Ok Two else if n == 3 then Ok Three else Err refused.Axis
