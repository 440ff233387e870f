-- The record of a fault as its line: the seven numbers of the record, and what writing its line answers and leaves.
-- A reader must believe that each number is that of the part of the record with its name, and that a fault is refused for
-- nothing but its buffer.
use Rattle.std.specs.Prelude.{◌≡◌, ℕ, ◌<◌, ◌≤◌, List, length, Result, Err}
use Rattle.refusal.specs.declared.Refusal.{Refusal}
use Rattle.refusal.specs.declared.Refusal.TheVariants.{Buffer}
use Rattle.card.specs.Causes.{cause_number}
use Rattle.fault_line.specs.declared.Fields.{Fields}
use Rattle.fault_line.specs.Answer.{Written}
use Rattle.machine.specs.declared.fault.Fault.{Fault}
use Rattle.machine.specs.Faults.{stage_number}
use Rattle.machine.specs.Axes.{axis_number}

abbrev pub fields_of : Fault → Fields
fields_of f =
    record {
      axis = axis_number f.axis;
      stage = stage_number f.stage;
      instruction = f.instruction;
      access = f.access;
      cause = cause_number f.cause;
      origin = f.origin.address;
      layer = f.origin.layer;
    }

-- A buffer that does not do for every line is refused and stays as it was; over any other the fault's line is written.
pub record Reported (f : Fault) (before : List ℕ) (r : Result ℕ Refusal) (after : List ℕ) : Type 0 where
  pub short : length before < 48 → (r ≡ Err Buffer) × (after ≡ before)
  pub written : 48 ≤ length before → Written (λ answer. answer) (fields_of f) before r after
