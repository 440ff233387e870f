-- The comparison machine, and what else is told of a run by its calls: the clocks and waits of the instruction under way,
-- whether the key is out, and whether the axis is at rest.
-- A reader must believe: the comparison machine is fed calls with their arguments and answers, and nothing else. It does
-- one instruction at each clock that ends one, sets PC to 0 and ends its fault at an accepted reset, and stores a word at
-- an accepted set.
use Rattle.std.specs.Prelude.{ℕ, ◌+◌, Bool, true, false, List, [], ◌∷◌, Some, None, Ok, Err, Option, is_some}
use Rattle.card.specs.declared.transfer.Direction.TheVariants.{Read}
use Rattle.card.specs.declared.transfer.Transfer.{Transfer}
use Rattle.card.specs.Ends.{End, end_of}
use Rattle.isa.specs.declared.opcodes.Class.{Class}
use Rattle.isa.specs.declared.opcodes.Class.TheVariants.{Arithmetic, ArithmeticQuick, Logical, Load, Store, Branch, BranchIndexed, Unknown}
use Rattle.isa.specs.declared.opcodes.Form.{Form}
use Rattle.isa.specs.declared.opcodes.Form.TheVariants.{Long, Quick}
use Rattle.isa.specs.Branch.{taken_by}
use Rattle.isa.specs.Fields.{instruction_of}
use Rattle.isa.specs.Opcodes.{class_of, clocks_of}
use Rattle.machine.specs.Registers.{put}
use Rattle.machine.specs.State.{State, restarted}
use Rattle.machine.specs.Step.{step}
use Rattle.clocked.specs.declared.tick.Answer.{Answer}
use Rattle.clocked.specs.declared.tick.Answer.TheVariants.{On, Waiting, Ended}
use Rattle.clocked.specs.Runs.{outcome_by, Event, clocked, reset, drawn, set, given, Entry}

-- The state with a word in a register.
abbrev pub with_register : ℕ → ℕ → State → State
with_register r w s = record s { registers = put s.registers r w }

abbrev pub compared_by : Answer → State → State
compared_by On s = s
compared_by Waiting s = s
compared_by (Ended o) s = (step s).1

abbrev pub compared_after : Event → State → State
compared_after (clocked (Ok t)) s = compared_by t.answer s
compared_after (clocked (Err e)) s = s
compared_after (reset (Ok u)) s = restarted s
compared_after (reset (Err e)) s = s
compared_after (drawn r) s = s
compared_after (set k n w (Ok u)) s = with_register n w s
compared_after (set k n w (Err e)) s = s
compared_after (given k r) s = s

-- The comparison machine after these events, the newest first.
abbrev pub compared : State → List Event → State
compared s [] = s
compared s (e ∷ es) = compared_after e (compared s es)

-- How many clocks a taken branch has more than one that is not taken.
abbrev pub more_taken : Form → Bool → ℕ
more_taken f false = 0
more_taken Long true = 3
more_taken Quick true = 1

-- The clocks of an instruction without waits, its branch taken or not.
abbrev pub clocks_for : Class → Bool → ℕ
clocks_for (Arithmetic op) t = clocks_of (Arithmetic op)
clocks_for (ArithmeticQuick op) t = clocks_of (ArithmeticQuick op)
clocks_for (Logical op) t = clocks_of (Logical op)
clocks_for (Load f) t = clocks_of (Load f)
clocks_for (Store f) t = clocks_of (Store f)
clocks_for (Branch f) t = clocks_of (Branch f) + more_taken f t
clocks_for (BranchIndexed f) t = clocks_of (BranchIndexed f) + more_taken f t
clocks_for Unknown t = clocks_of Unknown

-- The clocks of the instruction that the comparison machine does next, by what it fetches.
abbrev pub count_fetched : End → State → ℕ
count_fetched (Ok w) s = clocks_for (class_of (instruction_of w).opcode) (taken_by (instruction_of w).mask s.flags)
count_fetched (Err why) s = 0

abbrev pub clocks_due : State → ℕ
clocks_due s = count_fetched (end_of Read (s.map s.pc)) s

-- A sum over the calls since the boundary, to which a call adds n: an end of an instruction and an accepted reset lead to one.
abbrev pub since_by : Answer → ℕ → ℕ → ℕ
since_by On n sum = sum + n
since_by Waiting n sum = sum + n
since_by (Ended o) n sum = 0

abbrev pub since_after : Event → ℕ → ℕ → ℕ
since_after (clocked (Ok t)) n sum = since_by t.answer n sum
since_after (clocked (Err e)) n sum = sum
since_after (reset (Ok u)) n sum = 0
since_after (reset (Err e)) n sum = sum
since_after (drawn r) n sum = sum
since_after (set k m w r) n sum = sum
since_after (given k r) n sum = sum

-- The accepted clocks since the boundary.
abbrev pub clocks_since : List Event → ℕ
clocks_since [] = 0
clocks_since (e ∷ es) = since_after e 1 (clocks_since es)

-- The waits that a transfer had when it was begun, by the transfer before and after.
abbrev pub begun : Option Transfer → Option Transfer → ℕ
begun None None = 0
begun None (Some t) = t.waits
begun (Some s) t = 0

abbrev pub begun_in : Entry → ℕ
begun_in e = begun e.before.card.transfer e.after.card.transfer

-- The waits of the transfers begun since the boundary.
abbrev pub waits_since : List Entry → ℕ
waits_since [] = 0
waits_since (e ∷ es) = since_after e.event (begun_in e) (waits_since es)

-- The key is out from an accepted draw to the next accepted give back.
abbrev pub out_after : Event → Bool → Bool
out_after (clocked r) out = out
out_after (reset r) out = out
out_after (drawn (Ok k)) out = true
out_after (drawn (Err e)) out = out
out_after (set k n w r) out = out
out_after (given k (Ok u)) out = false
out_after (given k (Err e)) out = out

abbrev pub key_out : List Event → Bool
key_out [] = false
key_out (e ∷ es) = out_after e (key_out es)

-- Whether the axis is at rest, at the boundary or halted: it is at the start, a clock leaves it so that ended an instruction, and
-- so does an accepted reset. No other call, and no refused one, changes it.
abbrev pub rest_after : Event → Bool → Bool
rest_after (clocked (Ok t)) rest = is_some (outcome_by t.answer)
rest_after (clocked (Err e)) rest = rest
rest_after (reset (Ok u)) rest = true
rest_after (reset (Err e)) rest = rest
rest_after (drawn r) rest = rest
rest_after (set k n w r) rest = rest
rest_after (given k r) rest = rest

abbrev pub at_rest : List Event → Bool
at_rest [] = true
at_rest (e ∷ es) = rest_after e (at_rest es)
