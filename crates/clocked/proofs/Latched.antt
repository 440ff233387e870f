-- What a control state has latched of the instruction under way. A is the comparison machine.
use Rattle.std.proofs.Common.{◌≡◌, ℕ, Some, Ok}
use Rattle.isa.specs.declared.fields.Instruction.{Instruction}
use Rattle.isa.specs.declared.opcodes.Class.{Class}
use Rattle.isa.specs.declared.opcodes.Class.TheVariants.{Load, Store, Branch, BranchIndexed, Unknown}
use Rattle.isa.specs.declared.opcodes.Form.{Form}
use Rattle.isa.specs.declared.opcodes.Form.TheVariants.{Long}
use Rattle.isa.specs.Opcodes.{class_of}
use Rattle.machine.specs.State.{State}
use Rattle.machine.specs.Laws.{PlusDisplacement}
use Rattle.machine.specs.Step.{register, displacement}
use Rattle.clocked.specs.declared.access.Access.{Access}
use Rattle.clocked.specs.declared.access.Access.TheVariants as access
use Rattle.clocked.specs.declared.control.Control.{Control}
use Rattle.clocked.specs.declared.control.Control.TheVariants.{Fetch0, Fetch1, Fetch2, Decode, DispFetch0, DispFetch1, DispFetch2, Execute0, Execute1, Execute2}
use Rattle.clocked.specs.ClockLaws.{under_way}

-- A class whose displacement is read.
abbrev pub IsLong : Class → Type 0
IsLong (Load Long) = Unit {0}
IsLong (Store Long) = Unit {0}
IsLong (Branch Long) = Unit {0}
IsLong (BranchIndexed Long) = Unit {0}
IsLong k = ⊥

-- Execute_0 has the displacement d of a store, and no unknown opcode.
abbrev pub Executes : Class → Instruction → ℕ → State → Type 0
Executes (Store f) i d A = displacement f i A ≡ Ok d
Executes Unknown i d A = ⊥
Executes k i d A = Unit {0}

pub record LoadOf (r : ℕ) (A : State) : Type 0 where
  pub instruction : Instruction
  pub form : Form
  pub under : under_way A ≡ Some instruction
  pub class : class_of instruction.opcode ≡ Load form
  pub register : r ≡ instruction.r3

pub record StoreOf (a w : ℕ) (A : State) : Type 0 where
  pub instruction : Instruction
  pub form : Form
  pub under : under_way A ≡ Some instruction
  pub class : class_of instruction.opcode ≡ Store form
  pub address : PlusDisplacement form instruction A (register A instruction.r1) a
  pub word : w ≡ register A instruction.r3

abbrev pub AccessOf : Access → State → Type 0
AccessOf (access.Load a r) A = LoadOf r A
AccessOf (access.Store a w) A = StoreOf a w A

abbrev pub Latched : Control → State → Type 0
Latched Fetch0 A = Unit {0}
Latched Fetch1 A = Unit {0}
Latched Fetch2 A = Unit {0}
Latched (Decode i) A = under_way A ≡ Some i
Latched (DispFetch0 i) A = (under_way A ≡ Some i) × IsLong (class_of i.opcode)
Latched (DispFetch1 i) A = (under_way A ≡ Some i) × IsLong (class_of i.opcode)
Latched (DispFetch2 i) A = (under_way A ≡ Some i) × IsLong (class_of i.opcode)
Latched (Execute0 i d) A = (under_way A ≡ Some i) × Executes (class_of i.opcode) i d A
Latched (Execute1 a) A = AccessOf a A
Latched (Execute2 a) A = AccessOf a A
