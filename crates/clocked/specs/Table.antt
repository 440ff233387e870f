-- The clock table: what each control state does, and where it leads.
-- A reader must believe: `row_of` is the table, a row to a state.
use Rattle.std.specs.Prelude.{ℕ, Bool, true, false}
use Rattle.card.specs.declared.transfer.Request.{Request}
use Rattle.isa.specs.declared.fields.Instruction.{Instruction}
use Rattle.isa.specs.declared.opcodes.Class.{Class}
use Rattle.isa.specs.declared.opcodes.Class.TheVariants.{Arithmetic, ArithmeticQuick, Logical, Load, Store, Branch, BranchIndexed, Unknown}
use Rattle.isa.specs.declared.opcodes.Form.{Form}
use Rattle.isa.specs.declared.opcodes.Form.TheVariants.{Long, Quick}
use Rattle.isa.specs.Alu.{Answer as AluAnswer, alu_of, logic_of}
use Rattle.isa.specs.Branch.{taken_by}
use Rattle.isa.specs.Fields.{instruction_of, immediate_of}
use Rattle.isa.specs.Opcodes.{class_of}
use Rattle.machine.specs.declared.fault.Stage.{Stage}
use Rattle.machine.specs.declared.fault.Stage.TheVariants as stage
use Rattle.machine.specs.declared.machine.Outcome.TheVariants.{Done, Ignored}
use Rattle.machine.specs.Registers.{read}
use Rattle.machine.specs.State.{plus}
use Rattle.clocked.specs.declared.access.Access.{Access}
use Rattle.clocked.specs.declared.access.Access.TheVariants as access
use Rattle.clocked.specs.declared.control.Control.{Control}
use Rattle.clocked.specs.declared.control.Control.TheVariants.{Fetch0, Fetch1, Fetch2, Decode, DispFetch0, DispFetch1, DispFetch2, Execute0, Execute1, Execute2}
use Rattle.clocked.specs.declared.processor.Processor.{Processor}
use Rattle.clocked.specs.declared.tick.Answer.{Answer}
use Rattle.clocked.specs.declared.tick.Answer.TheVariants.{On, Ended}
use Rattle.clocked.specs.Control.{reads_at, request_of, stage_of}
use Rattle.clocked.specs.Changes.{written_back, going, going_at, noting, latching}

-- An answer, and the processor afterwards.
abbrev pub Move : Type 0
Move = Answer × Processor

-- A row of the table.
pub data Row : Type 0 where
  -- asks nothing of the card
  moves : Move → Row
  -- begins a transfer and goes on
  begins : Request → Processor → Row
  -- polls: what it does with the word, or the stage and the access of a fault
  polls : (ℕ → Move) → Stage → ℕ → Row

-- Whether a row asks something of the card.
abbrev pub asks : Row → Bool
asks (moves m) = false
asks (begins b q) = true
asks (polls take s a) = true

abbrev pub on_to : Control → Processor → Move
on_to k p = (On, going k p)

-- Decode, by the class of the instruction and, of a branch, whether it is taken.
abbrev pub decodes : Class → Bool → Instruction → Processor → Move
decodes (Arithmetic op) t i p = on_to (Execute0 i (immediate_of i)) p
decodes (ArithmeticQuick op) t i p = on_to (Execute0 i (immediate_of i)) p
decodes (Logical op) t i p = on_to (Execute0 i (immediate_of i)) p
decodes (Load Long) t i p = on_to (DispFetch0 i) p
decodes (Load Quick) t i p = on_to (Execute0 i (immediate_of i)) p
decodes (Store Long) t i p = on_to (DispFetch0 i) p
decodes (Store Quick) t i p = on_to (Execute0 i (immediate_of i)) p
decodes (Branch Long) true i p = on_to (DispFetch0 i) p
decodes (Branch Long) false i p = on_to (Execute0 i (immediate_of i)) p
decodes (Branch Quick) true i p = on_to (Execute0 i (immediate_of i)) p
decodes (Branch Quick) false i p = (Ended Done, going Fetch0 p)
decodes (BranchIndexed Long) true i p = on_to (DispFetch0 i) p
decodes (BranchIndexed Long) false i p = on_to (Execute0 i (immediate_of i)) p
decodes (BranchIndexed Quick) true i p = on_to (Execute0 i (immediate_of i)) p
decodes (BranchIndexed Quick) false i p = (Ended Done, going Fetch0 p)
decodes Unknown t i p = (Ended Ignored, going Fetch0 p)

abbrev pub register : Processor → ℕ → ℕ
register p r = read p.registers.words r

-- A result with its flags is latched for r3.
abbrev pub latches : AluAnswer → Instruction → Processor → Move
latches a i p = (Ended Done, latching i.r3 a.0 (record { v = a.1; n = a.2; z = a.3 }) p)

-- PC past the displacement that a branch not taken has not read.
abbrev pub skipping : Form → ℕ → ℕ
skipping Long pc = plus pc 1
skipping Quick pc = pc

abbrev pub branches : Bool → Form → ℕ → Processor → Move
branches true f target p = (Ended Done, going_at Fetch0 target p)
branches false f target p = (Ended Done, going_at Fetch0 (skipping f p.pc) p)

-- Execute_0 with the displacement d, by the class of the instruction and whether a branch is taken. An unknown opcode has ended
-- in decode.
abbrev pub executes : Class → Bool → Instruction → ℕ → Processor → Move
executes (Arithmetic op) t i d p = latches (alu_of op (register p i.r1) (register p i.r2)) i p
executes (ArithmeticQuick op) t i d p = latches (alu_of op (register p i.r1) d) i p
executes (Logical op) t i d p = latches (logic_of op (register p i.r1) (register p i.r2) p.flags) i p
executes (Load f) t i d p = on_to (Execute1 (access.Load (plus (register p i.r1) d) i.r3)) p
executes (Store f) t i d p = on_to (Execute1 (access.Store (plus (register p i.r1) d) (register p i.r3))) p
executes (Branch f) t i d p = branches t f (plus p.pc d) p
executes (BranchIndexed f) t i d p = branches t f (plus (register p i.r1) d) p
executes Unknown t i d p = (Ended Ignored, going Fetch0 p)

-- The end of a load or store: a loaded word becomes pending.
abbrev pub completes : Access → Processor → ℕ → Move
completes (access.Load a r) p w = (Ended Done, latching r w p.flags p)
completes (access.Store a v) p w = (Ended Done, going Fetch0 p)

abbrev pub row_of : Control → Processor → Row
row_of Fetch0 p = moves (On, noting Fetch1 (written_back p))
row_of Fetch1 p = begins (reads_at p.pc) (going_at Fetch2 (plus p.pc 1) p)
row_of Fetch2 p = polls (λ w. on_to (Decode (instruction_of w)) p) stage.Fetch p.start
row_of (Decode i) p = moves (decodes (class_of i.opcode) (taken_by i.mask p.flags) i p)
row_of (DispFetch0 i) p = moves (on_to (DispFetch1 i) p)
row_of (DispFetch1 i) p = begins (reads_at p.pc) (going_at (DispFetch2 i) (plus p.pc 1) p)
row_of (DispFetch2 i) p = polls (λ d. on_to (Execute0 i d) p) stage.Displacement (plus p.start 1)
row_of (Execute0 i d) p = moves (executes (class_of i.opcode) (taken_by i.mask p.flags) i d p)
row_of (Execute1 a) p = begins (request_of a) (going (Execute2 a) p)
row_of (Execute2 a) p = polls (completes a p) (stage_of a) (request_of a).address
