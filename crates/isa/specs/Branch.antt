-- When a branch is taken.
-- A reader must believe: a branch is taken exactly if ((V and v) or (N and n) or (Z and z)) equals i.
use Rattle.std.specs.Prelude.{Bool, ◌&&◌, ◌||◌}
use Rattle.std.specs.Bool.{beq}
use Rattle.isa.specs.declared.fields.Mask.{Mask}
use Rattle.isa.specs.declared.flags.Flags.{Flags}

abbrev pub taken_by : Mask → Flags → Bool
taken_by m f = beq ((f.v && m.v) || (f.n && m.n) || (f.z && m.z)) m.i
