-- The opcodes: the class of each and the clocks that it takes, without waits, where a branch is not taken.
-- A reader must believe: the list `opcodes` names every opcode that is known, and the clocks are those of its class.
use Rattle.std.specs.Prelude.{ℕ, List, [], ◌∷◌, ◌==◌, if◌then◌else◌}
use Rattle.isa.specs.declared.alu.Arithmetic.TheVariants.{Add, Sub, Mul, Div}
use Rattle.isa.specs.declared.alu.Logical.TheVariants.{And, Or, Xor, Mask}
use Rattle.isa.specs.declared.opcodes.Class.{Class}
use Rattle.isa.specs.declared.opcodes.Class.TheVariants.{Arithmetic, ArithmeticQuick, Logical, Load, Store}
use Rattle.isa.specs.declared.opcodes.Class.TheVariants.{Branch, BranchIndexed, Unknown}
use Rattle.isa.specs.declared.opcodes.Entry.{Entry}
use Rattle.isa.specs.declared.opcodes.Form.TheVariants.{Long, Quick}

abbrev pub opcodes : List (ℕ × Class)
opcodes =
    (0x00, Arithmetic Add)
    ∷ (0x01, Arithmetic Sub)
    ∷ (0x02, Arithmetic Mul)
    ∷ (0x03, Arithmetic Div)
    ∷ (0x04, Logical And)
    ∷ (0x05, Logical Or)
    ∷ (0x06, Logical Xor)
    ∷ (0x07, Logical Mask)
    ∷ (0x10, ArithmeticQuick Add)
    ∷ (0x11, ArithmeticQuick Sub)
    ∷ (0x12, ArithmeticQuick Mul)
    ∷ (0x13, ArithmeticQuick Div)
    ∷ (0x20, Load Long)
    ∷ (0x21, Store Long)
    ∷ (0x30, Load Quick)
    ∷ (0x31, Store Quick)
    ∷ (0x40, Branch Long)
    ∷ (0x41, BranchIndexed Long)
    ∷ (0x50, Branch Quick)
    ∷ (0x51, BranchIndexed Quick)
    ∷ []

-- The class that a list gives an opcode, unknown if it gives none.
abbrev pub class_in : List (ℕ × Class) → ℕ → Class
class_in [] n = Unknown
class_in (p ∷ ps) n = if n == p.0 then p.1 else class_in ps n

-- Not unfolded by the search for proofs: at an unknown opcode it is twenty tests.
unfoldable pub class_of : ℕ → Class
class_of n = class_in opcodes n

abbrev pub clocks_of : Class → ℕ
clocks_of (Arithmetic op) = 5
clocks_of (ArithmeticQuick op) = 5
clocks_of (Logical op) = 5
clocks_of (Load Long) = 10
clocks_of (Load Quick) = 7
clocks_of (Store Long) = 10
clocks_of (Store Quick) = 7
clocks_of (Branch Long) = 5
clocks_of (Branch Quick) = 4
clocks_of (BranchIndexed Long) = 5
clocks_of (BranchIndexed Quick) = 4
clocks_of Unknown = 4

abbrev pub entry_of : ℕ → Entry
entry_of n = record { class = class_of n; clocks = clocks_of (class_of n) }
