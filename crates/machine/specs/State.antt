-- The architectural state of the DP32, the memory that its card shows, and the machine that holds it.
-- A reader must believe: this is all that an instruction can read or change.
use Rattle.std.specs.Prelude.{ℕ, ◌+◌, ◌%◌, ◌^◌, false, List, None, Option}
use Rattle.card.specs.Cells.{Map}
use Rattle.isa.specs.Alu.{Answer}
use Rattle.isa.specs.declared.flags.Flags.{Flags}
use Rattle.machine.specs.declared.axis.Axis.{Axis}
use Rattle.machine.specs.declared.fault.Fault.{Fault}
use Rattle.machine.specs.declared.machine.Machine.{Machine}
use Rattle.machine.specs.Registers.{cleared, put}

pub record State : Type 0 where
  pub axis : Axis
  pub registers : List ℕ
  pub pc : ℕ
  pub flags : Flags
  pub map : Map
  pub fault : Option Fault

-- The state of a machine with the map of its card.
abbrev pub state_of : Machine → Map → State
state_of m f =
    record {
      axis = m.axis;
      registers = m.registers.words;
      pc = m.pc;
      flags = m.flags;
      map = f;
      fault = m.fault;
    }

abbrev pub clear_flags : Flags
clear_flags = record { v = false; n = false; z = false }

-- The state after power-up on a card with this map.
abbrev pub powered_up : Axis → Map → State
powered_up axis f =
    record { axis = axis; registers = cleared; pc = 0; flags = clear_flags; map = f; fault = None }

-- The state after a reset.
abbrev pub restarted : State → State
restarted s = record s { pc = 0; fault = None }

-- The sum of two words as an address: modulo 2 ^ 32.
abbrev pub plus : ℕ → ℕ → ℕ
plus a b = (a + b) % 2 ^ 32

-- A machine that latched an arithmetic or logical answer. Used by private functions only.
abbrev pub latched : Machine → ℕ → Answer → Machine
latched m r a =
    record m {
      registers = record { words = put m.registers.words r a.0 };
      pc = plus m.pc 1;
      flags = record { v = a.1; n = a.2; z = a.3 };
    }
