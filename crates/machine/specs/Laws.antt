-- Laws of one instruction, in the chapter's own terms, above the definition that goes step by step.
-- A reader must believe: nothing; these are shown of every state, and say what an instruction can change, and to what.
use Rattle.std.specs.Prelude.{◌≡◌, ℕ, Bool, true, false, Ok, Err}
use Rattle.card.specs.declared.cell.Cell.TheVariants.{Open}
use Rattle.card.specs.declared.transfer.Direction.TheVariants.{Read}
use Rattle.card.specs.Ends.{End, end_of, stored}
use Rattle.isa.specs.declared.fields.Instruction.{Instruction}
use Rattle.isa.specs.declared.opcodes.Class.{Class}
use Rattle.isa.specs.declared.opcodes.Class.TheVariants.{Arithmetic, ArithmeticQuick, Logical, Load, Store, Branch, BranchIndexed, Unknown}
use Rattle.isa.specs.declared.opcodes.Form.{Form}
use Rattle.isa.specs.Branch.{taken_by}
use Rattle.isa.specs.Fields.{instruction_of}
use Rattle.isa.specs.Opcodes.{class_of}
use Rattle.machine.specs.declared.fault.Fault.{Fault}
use Rattle.machine.specs.declared.machine.Outcome.{Outcome}
use Rattle.machine.specs.declared.machine.Outcome.TheVariants.{Done, Ignored, Halted}
use Rattle.machine.specs.Registers.{put}
use Rattle.machine.specs.State.{State, plus}
use Rattle.machine.specs.Step.{Step, register, past, displacement, running, failed}

-- An address is a base plus the displacement that the instruction has.
abbrev pub PlusDisplacement : Form → Instruction → State → ℕ → ℕ → Type 0
PlusDisplacement f i s base a = (d : ℕ) × (displacement f i s ≡ Ok d) × (a ≡ plus base d)

-- The register r gets the word w, and no other register and no cell changes.
abbrev pub ChangesRegister : ℕ → ℕ → State → State → Type 0
ChangesRegister r w s t = (t.registers ≡ put s.registers r w) × (t.map ≡ s.map)

-- The cell at the address a, which is open, gets the word w, and no other cell and no register changes.
abbrev pub ChangesCell : ℕ → ℕ → State → State → Type 0
ChangesCell a w s t = ((v : ℕ) × (s.map a ≡ Open v)) × (t.map ≡ stored s.map a w) × (t.registers ≡ s.registers)

abbrev pub ChangesNone : State → State → Type 0
ChangesNone s t = (t.registers ≡ s.registers) × (t.map ≡ s.map)

-- What a finished instruction changes. Arithmetic, logic and a load change r3, and a load gives it the word of the cell at r1
-- plus the displacement. A store changes that cell, and gives it r3's word. All others change neither register nor cell.
abbrev pub Changes : Class → Instruction → State → State → Type 0
Changes (Arithmetic op) i s t = (w : ℕ) × ChangesRegister i.r3 w s t
Changes (ArithmeticQuick op) i s t = (w : ℕ) × ChangesRegister i.r3 w s t
Changes (Logical op) i s t = (w : ℕ) × ChangesRegister i.r3 w s t
Changes (Load f) i s t =
    (a : ℕ) × PlusDisplacement f i s (register s i.r1) a
    × ((w : ℕ) × (end_of Read (s.map a) ≡ Ok w) × ChangesRegister i.r3 w s t)
Changes (Store f) i s t =
    (a : ℕ) × PlusDisplacement f i s (register s i.r1) a × ChangesCell a (register s i.r3) s t
Changes (Branch f) i s t = ChangesNone s t
Changes (BranchIndexed f) i s t = ChangesNone s t
Changes Unknown i s t = ChangesNone s t

-- Only arithmetic and logic move the flags.
abbrev pub FlagsMove : Class → State → State → Type 0
FlagsMove (Arithmetic op) s t = Unit {0}
FlagsMove (ArithmeticQuick op) s t = Unit {0}
FlagsMove (Logical op) s t = Unit {0}
FlagsMove (Load f) s t = t.flags ≡ s.flags
FlagsMove (Store f) s t = t.flags ≡ s.flags
FlagsMove (Branch f) s t = t.flags ≡ s.flags
FlagsMove (BranchIndexed f) s t = t.flags ≡ s.flags
FlagsMove Unknown s t = t.flags ≡ s.flags

-- A branch whose condition holds goes to its target, base plus displacement; any other goes past the whole of it.
abbrev pub Branches : Bool → Form → Instruction → State → ℕ → ℕ → Type 0
Branches true f i s base pc = PlusDisplacement f i s base pc
Branches false f i s base pc = pc ≡ past f s.pc

-- PC of an instruction that is finished: past the whole of it, or where its branch goes.
abbrev pub PcAfter : Class → Instruction → State → ℕ → Type 0
PcAfter (Arithmetic op) i s pc = pc ≡ plus s.pc 1
PcAfter (ArithmeticQuick op) i s pc = pc ≡ plus s.pc 1
PcAfter (Logical op) i s pc = pc ≡ plus s.pc 1
PcAfter (Load f) i s pc = pc ≡ past f s.pc
PcAfter (Store f) i s pc = pc ≡ past f s.pc
PcAfter (Branch f) i s pc = Branches (taken_by i.mask s.flags) f i s (past f s.pc) pc
PcAfter (BranchIndexed f) i s pc = Branches (taken_by i.mask s.flags) f i s (register s i.r1) pc
PcAfter Unknown i s pc = pc ≡ plus s.pc 1

pub record Finishes (k : Class) (i : Instruction) (s t : State) : Type 0 where
  pub changes : Changes k i s t
  pub flags : FlagsMove k s t
  pub pc : PcAfter k i s t.pc
  pub fault : t.fault ≡ s.fault

-- An instruction that halts changes nothing but the fault, which names the axis and the instruction.
abbrev pub Halts : State → State → Type 0
Halts s t = (f : Fault) × (t ≡ failed s f) × (f.axis ≡ s.axis) × (f.instruction ≡ s.pc)

abbrev pub LawfulAs : Outcome → Class → Instruction → State → State → Type 0
LawfulAs Done k i s t = Finishes k i s t
LawfulAs Ignored k i s t = Finishes k i s t
LawfulAs Halted k i s t = Halts s t

abbrev pub Lawful : Class → Instruction → State → Step → Type 0
Lawful k i s u = LawfulAs u.0 k i s u.1

-- By what was fetched: an instruction, or a fault.
abbrev pub LawfulFrom : End → State → Step → Type 0
LawfulFrom (Ok w) s u = Lawful (class_of (instruction_of w).opcode) (instruction_of w) s u
LawfulFrom (Err f) s u = (u.0 ≡ Halted) × Halts s u.1

-- The laws hold of an instruction in every state; `running` is what `step` does where there is no fault.
abbrev pub Laws : Type 0
Laws = (s : State) → LawfulFrom (end_of Read (s.map s.pc)) s (running s)
