-- A processor as it is at power-up, and what an axis shows.
-- A reader must believe: a pending result counts as stored, and `axis_state` is what an axis shows of itself and its memory.
use Rattle.std.specs.Prelude.{ℕ, false, List, Some, None, Option}
use Rattle.card.specs.Cells.{Map}
use Rattle.machine.specs.declared.axis.Axis.{Axis}
use Rattle.machine.specs.Registers.{cleared, put}
use Rattle.machine.specs.State.{State, clear_flags}
use Rattle.clocked.specs.declared.control.Control.TheVariants.{Fetch0}
use Rattle.clocked.specs.declared.pending.Pending.{Pending}
use Rattle.clocked.specs.declared.processor.Processor.{Processor}

-- The registers with a pending result stored.
abbrev pub storing : Option Pending → List ℕ → List ℕ
storing None words = words
storing (Some p) words = put words p.register p.word

abbrev pub registers_of : Processor → List ℕ
registers_of p = storing p.pending p.registers.words

-- What the axis shows, with the map of its card: its state, a pending result counted as stored.
abbrev pub axis_state : Processor → Map → State
axis_state p f =
    record {
      axis = p.axis;
      registers = registers_of p;
      pc = p.pc;
      flags = p.flags;
      map = f;
      fault = p.fault;
    }

-- A new processor of an axis.
abbrev pub fresh : Axis → Processor
fresh axis =
    record {
      axis = axis;
      registers = record { words = cleared };
      pending = None;
      flags = clear_flags;
      pc = 0;
      start = 0;
      control = Fetch0;
      fault = None;
      locked = false;
    }
