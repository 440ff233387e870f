-- What holds of an axis in each control state, between its calls. A is the comparison machine at the last boundary, n the
-- clocks since then, and w the waits of the transfers begun since then. In the middle of an instruction A can be read off
-- the axis (`origin`), and what is left of A's instruction is an equation that each clock makes shorter.
use Rattle.std.proofs.Common.{◌≡◌, ℕ, ◌+◌, ◌*◌, ◌≤◌, Bool, true, false, Ok, Err, Some, None, Option}
use Rattle.card.specs.declared.transfer.Direction.TheVariants.{Read}
use Rattle.card.specs.declared.transfer.Request.{Request}
use Rattle.card.specs.declared.transfer.Transfer.{Transfer}
use Rattle.card.specs.Cells.{Map}
use Rattle.card.specs.Ends.{End, end_of, leaves}
use Rattle.card.specs.Meaning.{Meaning}
use Rattle.isa.specs.declared.fields.Instruction.{Instruction}
use Rattle.isa.specs.declared.opcodes.Class.{Class}
use Rattle.isa.specs.declared.opcodes.Class.TheVariants.{Arithmetic, ArithmeticQuick, Logical, Load, Store, Branch, BranchIndexed, Unknown}
use Rattle.isa.specs.declared.opcodes.Form.{Form}
use Rattle.isa.specs.Alu.{alu_of, logic_of}
use Rattle.isa.specs.Branch.{taken_by}
use Rattle.isa.specs.Opcodes.{class_of}
use Rattle.machine.specs.declared.machine.Outcome.TheVariants.{Done, Ignored}
use Rattle.machine.specs.declared.fault.Stage.TheVariants as stage
use Rattle.machine.specs.Registers.{put}
use Rattle.machine.specs.State.{State, plus}
use Rattle.machine.specs.Step.{Step, register, past, latch, loaded, stored, store_of, jump, halt, displaced, branched, executed, running}
use Rattle.clocked.specs.declared.access.Access.{Access}
use Rattle.clocked.specs.declared.access.Access.TheVariants as access
use Rattle.clocked.specs.declared.control.Control.{Control}
use Rattle.clocked.specs.declared.control.Control.TheVariants.{Fetch0, Fetch1, Fetch2, Decode, DispFetch0, DispFetch1, DispFetch2, Execute0, Execute1, Execute2}
use Rattle.clocked.specs.declared.processor.Processor.{Processor}
use Rattle.clocked.specs.Calls.{waits_left}
use Rattle.clocked.specs.Comparison.{clocks_due, clocks_for}
use Rattle.clocked.specs.Control.{reads_at, request_of}
use Rattle.clocked.specs.Processor.{axis_state}

-- The state at the last boundary, read off an axis in the middle of an instruction.
abbrev pub origin : Processor → Map → State
origin p f =
    record {
      axis = p.axis;
      registers = p.registers.words;
      pc = p.start;
      flags = p.flags;
      map = f;
      fault = p.fault;
    }

abbrev pub class_in : Instruction → Class
class_in i = class_of i.opcode

abbrev pub taken_in : Instruction → Processor → Bool
taken_in i p = taken_by i.mask p.flags

-- What is left of an instruction from execute_0 on, with the displacement d.
abbrev pub branched_to : Bool → Form → State → ℕ → Step
branched_to true f s target = (Done, jump s target)
branched_to false f s target = (Done, jump s (past f s.pc))

abbrev pub resumed : Class → Bool → Instruction → State → ℕ → Step
resumed (Arithmetic op) t i s d = latch (alu_of op (register s i.r1) (register s i.r2)) i s
resumed (ArithmeticQuick op) t i s d = latch (alu_of op (register s i.r1) d) i s
resumed (Logical op) t i s d = latch (logic_of op (register s i.r1) (register s i.r2) s.flags) i s
resumed (Load f) t i s d = loaded (end_of Read (s.map (plus (register s i.r1) d))) (plus (register s i.r1) d) f i s
resumed (Store f) t i s d =
    stored (end_of (store_of i s d).direction (s.map (store_of i s d).address)) (store_of i s d) f s
resumed (Branch f) t i s d = branched_to t f s (plus (past f s.pc) d)
resumed (BranchIndexed f) t i s d = branched_to t f s (plus (register s i.r1) d)
resumed Unknown t i s d = (Ignored, jump s (plus s.pc 1))

-- PC as execute_0 finds it.
abbrev pub branch_pc : Bool → Form → ℕ → ℕ
branch_pc true f pc = past f pc
branch_pc false f pc = plus pc 1

abbrev pub ready_pc : Class → Bool → ℕ → ℕ
ready_pc (Arithmetic op) t pc = plus pc 1
ready_pc (ArithmeticQuick op) t pc = plus pc 1
ready_pc (Logical op) t pc = plus pc 1
ready_pc (Load f) t pc = past f pc
ready_pc (Store f) t pc = past f pc
ready_pc (Branch f) t pc = branch_pc t f pc
ready_pc (BranchIndexed f) t pc = branch_pc t f pc
ready_pc Unknown t pc = plus pc 1

-- The clocks from execute_0 on, without waits.
abbrev pub last : Class → ℕ
last (Arithmetic op) = 1
last (ArithmeticQuick op) = 1
last (Logical op) = 1
last (Load f) = 3
last (Store f) = 3
last (Branch f) = 1
last (BranchIndexed f) = 1
last Unknown = 1

-- What is left of an instruction from execute_1 on, with PC past it and the end of its load or store.
abbrev pub accessed : Access → ℕ → End → State → Step
accessed (access.Load a r) pc (Ok w) s = (
  Done,
  record {
    axis = s.axis;
    registers = put s.registers r w;
    pc = pc;
    flags = s.flags;
    map = s.map;
    fault = s.fault;
  },
)
accessed (access.Load a r) pc (Err why) s = halt s stage.Load a why
accessed (access.Store a v) pc (Ok w) s = (
  Done,
  record {
    axis = s.axis;
    registers = s.registers;
    pc = pc;
    flags = s.flags;
    map = leaves (request_of (access.Store a v)) s.map;
    fault = s.fault;
  },
)
accessed (access.Store a v) pc (Err why) s = halt s stage.Store a why

abbrev pub end_in : Request → Map → End
end_in b f = end_of b.direction (f b.address)

-- The card has this request in being.
abbrev pub Requests : Option Transfer → Request → Type 0
Requests None b = ⊥
Requests (Some x) b = x.request ≡ b

-- At the boundary, or halted.
pub record Rest (A : State) (n w : ℕ) (p : Processor) (m : Meaning) : Type 0 where
  pub agrees : A ≡ axis_state p m.map
  pub idle : m.transfer ≡ None
  pub clocks : n ≡ 0
  pub waits : w ≡ 0
  -- the draw stored a pending result
  pub stored : p.locked ≡ true → p.pending ≡ None

-- In the middle of an instruction: neither halted nor locked, and no result is pending.
abbrev pub Mid : State → Processor → Meaning → Type 0
Mid A p m = (A ≡ origin p m.map) × (p.fault ≡ None) × (p.pending ≡ None) × (p.locked ≡ false)

-- In a state that asks nothing or begins: z clocks and all waits so far are n and the r to come.
pub record Idle (A : State) (n w : ℕ) (p : Processor) (m : Meaning) (r z : ℕ) : Type 0 where
  pub mid : Mid A p m
  pub idle : m.transfer ≡ None
  pub count : n + r ≡ z + w

-- In a state that polls for the request b.
pub record Busy (A : State) (n w : ℕ) (p : Processor) (m : Meaning) (b : Request) (r z : ℕ) : Type 0 where
  pub mid : Mid A p m
  pub busy : Requests m.transfer b
  pub few : waits_left m.transfer ≤ m.patience
  pub count : n + waits_left m.transfer + r ≡ z + w

-- An instruction by its class, its branch taken or not.
abbrev pub executed_by : Class → Bool → Instruction → State → Step
executed_by (Arithmetic op) t i s = executed (Arithmetic op) i s
executed_by (ArithmeticQuick op) t i s = executed (ArithmeticQuick op) i s
executed_by (Logical op) t i s = executed (Logical op) i s
executed_by (Load f) t i s = executed (Load f) i s
executed_by (Store f) t i s = executed (Store f) i s
executed_by (Branch f) t i s = branched t f i s (λ d. plus (past f s.pc) d)
executed_by (BranchIndexed f) t i s = branched t f i s (λ d. plus (register s i.r1) d)
executed_by Unknown t i s = executed Unknown i s

-- The instruction i of the state s, of the class k, is fetched.
pub record Fetched (k : Class) (t : Bool) (i : Instruction) (s : State) : Type 0 where
  pub left : running s ≡ executed_by k t i s
  pub total : clocks_due s ≡ clocks_for k t

-- It reads a displacement.
pub record Displaces (k : Class) (t : Bool) (i : Instruction) (s : State) : Type 0 where
  pub left : running s ≡ displaced (end_of Read (s.map (plus s.pc 1))) s (λ d. resumed k t i s d)
  pub ready : ready_pc k t s.pc ≡ plus s.pc 2
  pub total : clocks_due s ≡ 7 + last k

-- It has the displacement d, if any, and PC is at pc.
pub record Ready (k : Class) (t : Bool) (i : Instruction) (d : ℕ) (s : State) (pc : ℕ) : Type 0 where
  pub left : running s ≡ resumed k t i s d
  pub ready : pc ≡ ready_pc k t s.pc

abbrev pub At : Control → State → ℕ → ℕ → Processor → Meaning → Type 0
At Fetch0 A n w p m = Rest A n w p m
At Fetch1 A n w p m = Idle A n w p m 0 1 × (p.pc ≡ p.start)
At Fetch2 A n w p m = Busy A n w p m (reads_at p.start) 0 2 × (p.pc ≡ plus p.start 1)
At (Decode i) A n w p m =
    Idle A n w p m 0 3 × (p.pc ≡ plus p.start 1) × Fetched (class_in i) (taken_in i p) i (origin p m.map)
At (DispFetch0 i) A n w p m =
    Idle A n w p m 0 4 × (p.pc ≡ plus p.start 1) × Displaces (class_in i) (taken_in i p) i (origin p m.map)
At (DispFetch1 i) A n w p m =
    Idle A n w p m 0 5 × (p.pc ≡ plus p.start 1) × Displaces (class_in i) (taken_in i p) i (origin p m.map)
At (DispFetch2 i) A n w p m =
    Busy A n w p m (reads_at (plus p.start 1)) 0 6 × (p.pc ≡ plus p.start 2)
    × Displaces (class_in i) (taken_in i p) i (origin p m.map)
At (Execute0 i d) A n w p m =
    Idle A n w p m (last (class_in i)) (clocks_due (origin p m.map))
    × Ready (class_in i) (taken_in i p) i d (origin p m.map) p.pc
At (Execute1 a) A n w p m =
    Idle A n w p m 2 (clocks_due (origin p m.map))
    × (running (origin p m.map) ≡ accessed a p.pc (end_in (request_of a) m.map) (origin p m.map))
At (Execute2 a) A n w p m =
    Busy A n w p m (request_of a) 1 (clocks_due (origin p m.map))
    × (running (origin p m.map) ≡ accessed a p.pc (end_in (request_of a) m.map) (origin p m.map))

abbrev pub Inv : State → ℕ → ℕ → Processor → Meaning → Type 0
Inv A n w p m = At p.control A n w p m

-- The most clocks that the instruction still takes: all states, and all the waits that the card may have.
abbrev pub clocks_left : Control → ℕ → ℕ → ℕ
clocks_left Fetch0 wait patience = 10 + 3 * patience
clocks_left Fetch1 wait patience = 9 + 3 * patience
clocks_left Fetch2 wait patience = 8 + 2 * patience + wait
clocks_left (Decode i) wait patience = 7 + 2 * patience
clocks_left (DispFetch0 i) wait patience = 6 + 2 * patience
clocks_left (DispFetch1 i) wait patience = 5 + 2 * patience
clocks_left (DispFetch2 i) wait patience = 4 + patience + wait
clocks_left (Execute0 i d) wait patience = 3 + patience
clocks_left (Execute1 a) wait patience = 2 + patience
clocks_left (Execute2 a) wait patience = 1 + wait

abbrev pub μ : Processor → Meaning → ℕ
μ p m = clocks_left p.control (waits_left m.transfer) m.patience
