-- Laws of an accepted clock, in terms of what an axis shows: what it can change in which control state.
-- A reader must believe: nothing; these are shown of every accepted clock of every run, above the clock table. The instruction
-- under way is the one that the comparison machine does next: s is the comparison machine's state at the clock. Each law takes
-- what is shown before the clock, then what is shown after it, and its last line is for all that the others do not name.
use Rattle.std.specs.Prelude.{◌≡◌, ℕ, List, [], ◌∷◌, Contains, Some, None, Ok, Err, Option, IsSome, IsSomeAnd}
use Rattle.std.specs.Option.{option_map}
use Rattle.card.specs.declared.transfer.Direction.TheVariants.{Read}
use Rattle.card.specs.declared.transfer.Transfer.{Transfer}
use Rattle.card.specs.Cells.{Map}
use Rattle.card.specs.Ends.{End, end_of, stored}
use Rattle.card.specs.Ports.{after_wait}
use Rattle.isa.specs.declared.fields.Instruction.{Instruction}
use Rattle.isa.specs.declared.flags.Flags.{Flags}
use Rattle.isa.specs.declared.opcodes.Class.{Class}
use Rattle.isa.specs.declared.opcodes.Class.TheVariants.{Arithmetic, ArithmeticQuick, Logical, Load, Store, Branch, BranchIndexed}
use Rattle.isa.specs.declared.opcodes.Form.{Form}
use Rattle.isa.specs.Fields.{instruction_of}
use Rattle.isa.specs.Opcodes.{class_of}
use Rattle.machine.specs.declared.machine.Outcome.TheVariants.{Done, Ignored, Halted}
use Rattle.machine.specs.Registers.{put}
use Rattle.machine.specs.State.{State, plus}
use Rattle.machine.specs.Laws.{PlusDisplacement}
use Rattle.machine.specs.Step.{register}
use Rattle.clocked.specs.declared.control.ControlState.{ControlState}
use Rattle.clocked.specs.declared.control.ControlState.TheVariants.{Fetch0, Fetch1, Fetch2, Decode, DispFetch0, DispFetch1, DispFetch2, Execute0, Execute1, Execute2}
use Rattle.clocked.specs.declared.tick.Answer.{Answer}
use Rattle.clocked.specs.declared.tick.Answer.TheVariants.{On, Waiting, Ended}
use Rattle.clocked.specs.declared.tick.Tick.{Tick}
use Rattle.clocked.specs.Control.{named}
use Rattle.clocked.specs.Processor.{axis_state}
use Rattle.clocked.specs.Runs.{Config}

-- The instruction that is fetched where such a read ends, if it ends with a word.
abbrev pub fetched_as : End → Option Instruction
fetched_as (Ok w) = Some (instruction_of w)
fetched_as (Err why) = None

-- The instruction under way, and its class.
abbrev pub under_way : State → Option Instruction
under_way s = fetched_as (end_of Read (s.map s.pc))

abbrev pub class_under_way : State → Option Class
class_under_way s = option_map (λ i. class_of i.opcode) (under_way s)

-- A word is put into r3 of the instruction, and into no other register.
abbrev pub PutInR3 : State → List ℕ → List ℕ → Type 0
PutInR3 s x y = IsSomeAnd (under_way s) (λ i. (w : ℕ) × (y ≡ put x i.r3 w))

-- Registers, a pending result counted as stored, change only in execute_0 of arithmetic and logic and at the end of
-- execute_2 of a load, and at r3 alone.
abbrev pub RegistersChange : ControlState → Answer → Option Class → State → List ℕ → List ℕ → Type 0
RegistersChange Execute0 (Ended Done) (Some (Arithmetic op)) s x y = PutInR3 s x y
RegistersChange Execute0 (Ended Done) (Some (ArithmeticQuick op)) s x y = PutInR3 s x y
RegistersChange Execute0 (Ended Done) (Some (Logical op)) s x y = PutInR3 s x y
RegistersChange Execute2 (Ended Done) (Some (Load f)) s x y = PutInR3 s x y
RegistersChange k t c s x y = y ≡ x

-- The word in r3 is in the cell at r1 plus the displacement, and every other cell is as it was.
abbrev pub StoredFromR3 : Form → State → Map → Map → Type 0
StoredFromR3 f s x y =
    IsSomeAnd (under_way s)
    (λ i. (a : ℕ) × PlusDisplacement f i s (register s i.r1) a × (y ≡ stored x a (register s i.r3)))

-- Cells change only at the end of execute_2 of a store.
abbrev pub CellsChange : ControlState → Answer → Option Class → State → Map → Map → Type 0
CellsChange Execute2 (Ended Done) (Some (Store f)) s x y = StoredFromR3 f s x y
CellsChange k t c s x y = y ≡ x

-- Flags change only in execute_0 of arithmetic and logic.
abbrev pub FlagsChange : ControlState → Option Class → Flags → Flags → Type 0
FlagsChange Execute0 (Some (Arithmetic op)) x y = Unit {0}
FlagsChange Execute0 (Some (ArithmeticQuick op)) x y = Unit {0}
FlagsChange Execute0 (Some (Logical op)) x y = Unit {0}
FlagsChange k c x y = y ≡ x

-- PC goes back to the instruction at a halt, grows by 1 in fetch_1 and disp_fetch_1, and else changes only in execute_0 of
-- a branch.
abbrev pub PcChanges : Answer → ControlState → Option Class → State → ℕ → ℕ → Type 0
PcChanges (Ended Halted) k c s x y = y ≡ s.pc
PcChanges t Fetch1 c s x y = y ≡ plus x 1
PcChanges t DispFetch1 c s x y = y ≡ plus x 1
PcChanges t Execute0 (Some (Branch f)) s x y = Unit {0}
PcChanges t Execute0 (Some (BranchIndexed f)) s x y = Unit {0}
PcChanges t k c s x y = y ≡ x

-- A transfer begins exactly in fetch_1, disp_fetch_1 and execute_1; in the states that poll it has a wait less, or is over.
abbrev pub BeginsTransfer : Option Transfer → Option Transfer → Type 0
BeginsTransfer x y = (x ≡ None) × IsSome y

abbrev pub PollsTransfer : Option Transfer → Option Transfer → Type 0
PollsTransfer x y = IsSomeAnd x (λ t. y ≡ after_wait t)

abbrev pub TransferChanges : ControlState → Option Transfer → Option Transfer → Type 0
TransferChanges Fetch1 x y = BeginsTransfer x y
TransferChanges DispFetch1 x y = BeginsTransfer x y
TransferChanges Execute1 x y = BeginsTransfer x y
TransferChanges Fetch2 x y = PollsTransfer x y
TransferChanges DispFetch2 x y = PollsTransfer x y
TransferChanges Execute2 x y = PollsTransfer x y
TransferChanges k x y = y ≡ x

-- What can follow a control state: the answers that a clock in it can give, each with the state after it.
abbrev pub following : ControlState → List (Answer × ControlState)
following Fetch0 = (On, Fetch1) ∷ []
following Fetch1 = (On, Fetch2) ∷ []
following Fetch2 = (On, Decode) ∷ ((Waiting, Fetch2) ∷ ((Ended Halted, Fetch0) ∷ []))
following Decode = (On, DispFetch0) ∷ ((On, Execute0) ∷ ((Ended Done, Fetch0) ∷ ((Ended Ignored, Fetch0) ∷ [])))
following DispFetch0 = (On, DispFetch1) ∷ []
following DispFetch1 = (On, DispFetch2) ∷ []
following DispFetch2 = (On, Execute0) ∷ ((Waiting, DispFetch2) ∷ ((Ended Halted, Fetch0) ∷ []))
following Execute0 = (On, Execute1) ∷ ((Ended Done, Fetch0) ∷ [])
following Execute1 = (On, Execute2) ∷ []
following Execute2 = (Waiting, Execute2) ∷ ((Ended Done, Fetch0) ∷ ((Ended Halted, Fetch0) ∷ []))

-- An accepted clock in the state k that answers t, from b to a.
pub record ClockLaws (s : State) (k : ControlState) (t : Answer) (b a : Config) : Type 0 where
  pub registers : RegistersChange k t (class_under_way s) s (axis_state b.processor b.card.map).registers (axis_state a.processor a.card.map).registers
  pub cells : CellsChange k t (class_under_way s) s b.card.map a.card.map
  pub flags : FlagsChange k (class_under_way s) b.processor.flags a.processor.flags
  pub pc : PcChanges t k (class_under_way s) s b.processor.pc a.processor.pc
  pub transfer : TransferChanges k b.card.transfer a.card.transfer
  pub follows : Contains (following k) (t, named a.processor.control)

abbrev pub KeepsClockLaws : Option Tick → State → Config → Config → Type 0
KeepsClockLaws None s b a = Unit {0}
KeepsClockLaws (Some t) s b a = ClockLaws s t.state t.answer b a
