-- One instruction, as a step from one state to the next.
-- A reader must believe: this is what the chapter defines an instruction to do, with the choices that docs/ lists. It goes
-- by the words that the instruction reads: the instruction at PC, a displacement in the next word, the word at an address.
use Rattle.std.specs.Prelude.{ℕ, Bool, true, false, Some, None, Ok, Err, Option}
use Rattle.card.specs.declared.cell.AccessFault.{AccessFault}
use Rattle.card.specs.declared.transfer.Direction.TheVariants.{Read, Write}
use Rattle.card.specs.declared.transfer.Request.{Request}
use Rattle.card.specs.Ends.{End, end_of, leaves}
use Rattle.isa.specs.declared.fields.Instruction.{Instruction}
use Rattle.isa.specs.declared.opcodes.Class.{Class}
use Rattle.isa.specs.declared.opcodes.Class.TheVariants.{Arithmetic, ArithmeticQuick, Logical, Load, Store, Branch, BranchIndexed, Unknown}
use Rattle.isa.specs.declared.opcodes.Form.{Form}
use Rattle.isa.specs.declared.opcodes.Form.TheVariants.{Long, Quick}
use Rattle.isa.specs.Alu.{Answer, alu_of, logic_of}
use Rattle.isa.specs.Branch.{taken_by}
use Rattle.isa.specs.Fields.{instruction_of, immediate_of}
use Rattle.isa.specs.Opcodes.{class_of}
use Rattle.machine.specs.declared.fault.Fault.{Fault}
use Rattle.machine.specs.declared.fault.Stage.{Stage}
use Rattle.machine.specs.declared.fault.Stage.TheVariants as stage
use Rattle.machine.specs.declared.machine.Outcome.{Outcome}
use Rattle.machine.specs.declared.machine.Outcome.TheVariants.{Done, Ignored, Halted}
use Rattle.machine.specs.Registers.{read, put}
use Rattle.machine.specs.State.{State, plus}

-- What an instruction answers, and the state that it leaves.
abbrev pub Step : Type 0
Step = Outcome × State

-- The state with PC at this address and all else as it was.
abbrev pub jump : State → ℕ → State
jump s a = record s { pc = a }

-- A fault changes nothing but the fault itself: PC stays at the instruction.
abbrev pub failed : State → Fault → State
failed s f = record s { fault = Some f }

abbrev pub halt : State → Stage → ℕ → AccessFault → Step
halt s stage access f = (
  Halted,
  failed s
      (record {
        axis = s.axis;
        stage = stage;
        instruction = s.pc;
        access = access;
        cause = f.cause;
        origin = f.origin;
      }),
)

abbrev pub register : State → ℕ → ℕ
register s r = read s.registers r

-- The address of the word after the whole instruction.
abbrev pub past : Form → ℕ → ℕ
past Quick pc = plus pc 1
past Long pc = plus pc 2

-- An arithmetic or logical result goes to r3, and its flags to the flags.
abbrev pub latch : Answer → Instruction → State → Step
latch a i s = (
  Done,
  record s {
    registers = put s.registers i.r3 a.0;
    pc = past Quick s.pc;
    flags = record { v = a.1; n = a.2; z = a.3 };
  },
)

-- Where the displacement comes from: i8 of the instruction itself, or the next word.
abbrev pub displacement : Form → Instruction → State → End
displacement Quick i s = Ok (immediate_of i)
displacement Long i s = end_of Read (s.map (plus s.pc 1))

-- An instruction goes on with its displacement d, or halts where that cannot be read.
abbrev pub displaced : End → State → (ℕ → Step) → Step
displaced (Ok d) s go = go d
displaced (Err f) s go = halt s stage.Displacement (plus s.pc 1) f

-- A load ends with the word at its address in r3.
abbrev pub loaded : End → ℕ → Form → Instruction → State → Step
loaded (Ok w) a f i s = (Done, record s { registers = put s.registers i.r3 w; pc = past f s.pc })
loaded (Err e) a f i s = halt s stage.Load a e

-- What a store asks of the card: r3 at r1 plus the displacement.
abbrev pub store_of : Instruction → State → ℕ → Request
store_of i s d = record { direction = Write (register s i.r3); address = plus (register s i.r1) d }

abbrev pub stored : End → Request → Form → State → Step
stored (Ok w) q f s = (Done, record s { pc = past f s.pc; map = leaves q s.map })
stored (Err e) q f s = halt s stage.Store q.address e

-- A branch that is not taken reads no displacement.
abbrev pub branched : Bool → Form → Instruction → State → (ℕ → ℕ) → Step
branched false f i s target = (Done, jump s (past f s.pc))
branched true f i s target = displaced (displacement f i s) s (λ d. (Done, jump s (target d)))

-- An instruction by its class.
abbrev pub executed : Class → Instruction → State → Step
executed (Arithmetic op) i s = latch (alu_of op (register s i.r1) (register s i.r2)) i s
executed (ArithmeticQuick op) i s = latch (alu_of op (register s i.r1) (immediate_of i)) i s
executed (Logical op) i s = latch (logic_of op (register s i.r1) (register s i.r2) s.flags) i s
executed (Load f) i s =
    displaced (displacement f i s) s
    (λ d. loaded (end_of Read (s.map (plus (register s i.r1) d))) (plus (register s i.r1) d) f i s)
executed (Store f) i s =
    displaced (displacement f i s) s
    (λ d. stored (end_of (store_of i s d).direction (s.map (store_of i s d).address)) (store_of i s d) f s)
executed (Branch f) i s = branched (taken_by i.mask s.flags) f i s (λ d. plus (past f s.pc) d)
executed (BranchIndexed f) i s = branched (taken_by i.mask s.flags) f i s (λ d. plus (register s i.r1) d)
executed Unknown i s = (Ignored, jump s (past Quick s.pc))

-- An instruction whose word was fetched, or not.
abbrev pub fetched : End → State → Step
fetched (Ok w) s = executed (class_of (instruction_of w).opcode) (instruction_of w) s
fetched (Err f) s = halt s stage.Fetch s.pc f

abbrev pub running : State → Step
running s = fetched (end_of Read (s.map s.pc)) s

abbrev pub answered : Step → Option Outcome × State
answered u = (Some u.0, u.1)

-- One instruction: an answer, or none where there is a fault, and the state afterwards.
abbrev pub step_from : Option Fault → State → Option Outcome × State
step_from None s = answered (running s)
step_from (Some f) s = (None, s)

abbrev pub step : State → Option Outcome × State
step s = step_from s.fault s
