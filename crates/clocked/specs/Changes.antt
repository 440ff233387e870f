-- The changes that a call makes to a processor. Each names the parts that change, and leaves all others.
-- A reader must believe: each of these is what its comment says.
use Rattle.std.specs.Prelude.{ℕ, Bool, Some, None}
use Rattle.card.specs.declared.cell.AccessFault.{AccessFault}
use Rattle.isa.specs.declared.flags.Flags.{Flags}
use Rattle.machine.specs.declared.fault.Stage.{Stage}
use Rattle.machine.specs.Registers.{put}
use Rattle.clocked.specs.declared.control.Control.{Control}
use Rattle.clocked.specs.declared.control.Control.TheVariants.{Fetch0}
use Rattle.clocked.specs.declared.processor.Processor.{Processor}
use Rattle.clocked.specs.Processor.{registers_of}

-- A pending result is stored.
abbrev pub written_back : Processor → Processor
written_back p = record p { registers = record { words = registers_of p }; pending = None }

-- To a control state; with PC at an address; with PC noted as the address of the instruction.
abbrev pub going : Control → Processor → Processor
going k p = record p { control = k }

abbrev pub going_at : Control → ℕ → Processor → Processor
going_at k pc p = record p { pc = pc; control = k }

abbrev pub noting : Control → Processor → Processor
noting k p = record p { start = p.pc; control = k }

-- A result is latched for the register r, with the flags, and the instruction is done.
abbrev pub latching : ℕ → ℕ → Flags → Processor → Processor
latching r w flags p =
    record p { pending = Some (record { register = r; word = w }); flags = flags; control = Fetch0 }

-- A fault halts the processor, with PC back at the instruction.
abbrev pub halting : Stage → ℕ → AccessFault → Processor → Processor
halting stage access why p =
    record p {
      pc = p.start;
      control = Fetch0;
      fault = Some
          (record {
            axis = p.axis;
            stage = stage;
            instruction = p.start;
            access = access;
            cause = why.cause;
            origin = why.origin;
          });
    }

-- PC is 0, a halt is over, and the processor is at the boundary.
abbrev pub restarting : Processor → Processor
restarting p = record p { pc = 0; control = Fetch0; fault = None }

-- The key is out, or in.
abbrev pub locking : Bool → Processor → Processor
locking b p = record p { locked = b }

-- A register is set.
abbrev pub setting : ℕ → ℕ → Processor → Processor
setting r w p = record p { registers = record { words = put p.registers.words r w } }
