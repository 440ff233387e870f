-- The command that the words after a command's first word make, command by command.
-- They are read from left to right, and the first that is wrong decides; words too many come last.
-- A reader must believe the operands of each command and their limits.
use Rattle.std.specs.Prelude.{ℕ, ◌+◌, ◌^◌, List, [], ◌∷◌, Ok, Err, Result, nat_le, if◌then◌else◌}
use Rattle.command.specs.declared.Command.{Command}
use Rattle.command.specs.declared.Command.TheVariants.{Card, Words, Layer, Load, Power, Clock, Instruction, Set}
use Rattle.command.specs.declared.Command.TheVariants.{Look, Memory, Place}
use Rattle.layer.specs.declared.kind.Kind.TheVariants.{Offset, Guard, Slow}
use Rattle.command.specs.declared.Wrong.{Wrong}
use Rattle.command.specs.declared.Wrong.TheVariants.{MissingOperand, ExtraOperand, UnknownLayer}
use Rattle.command.specs.declared.Wrong.TheVariants.{CardTooLarge, SlowTooLarge, RegisterTooLarge, PastLastAddress}
use Rattle.command.specs.Numbers.{numbers_of}
use Rattle.command.specs.Operands.{operand_of, count_of, bottom_of, machine_of}
use Rattle.command.specs.Words.{spells}

-- the command k, where no word may follow
abbrev pub only : List (List ℕ) → Command → Result Command Wrong
only [] k = Ok k
only (w ∷ ws) k = Err ExtraOperand

-- r, where the words ws are left after it
abbrev pub parsed : Result Command Wrong → List (List ℕ) → Result Command Wrong
parsed (Ok k) ws = only ws k
parsed (Err e) ws = Err e

-- goes on with an operand and the words after it
abbrev pub taking : {X : Type 0} → Result (X × List (List ℕ)) Wrong → (X → List (List ℕ) → Result Command Wrong)
    → Result Command Wrong
taking (Ok p) next = next p.0 p.1
taking (Err e) next = Err e

abbrev pub number : List (List ℕ) → (ℕ → List (List ℕ) → Result Command Wrong) → Result Command Wrong
number ws next = taking (operand_of ws) next

abbrev pub card_of : List (List ℕ) → Result Command Wrong
card_of ws =
    taking (bottom_of ws)
    (λ kind ws. number ws (λ n ws. if nat_le n 65536 then only ws (Card kind n) else Err CardTooLarge))

-- at least one word to store
abbrev pub stored : ℕ → Result (List ℕ) Wrong → Result Command Wrong
stored a (Ok []) = Err MissingOperand
stored a (Ok (n ∷ ns)) = Ok (Words a (n ∷ ns))
stored a (Err e) = Err e

abbrev pub store_of : List (List ℕ) → Result Command Wrong
store_of ws = number ws (λ a ws. stored a (numbers_of ws))

abbrev pub offset_of : List (List ℕ) → Result Command Wrong
offset_of ws = number ws (λ base ws. only ws (Layer (Offset base)))

abbrev pub guard_of : List (List ℕ) → Result Command Wrong
guard_of ws = number ws (λ first ws. number ws (λ last ws. only ws (Layer (Guard first last))))

abbrev pub slow_of : List (List ℕ) → Result Command Wrong
slow_of ws = number ws (λ n ws. if nat_le n 255 then only ws (Layer (Slow n)) else Err SlowTooLarge)

abbrev pub layer_of : List (List ℕ) → Result Command Wrong
layer_of [] = Err MissingOperand
layer_of (w ∷ ws) =
    if spells w "offset" then offset_of ws
    else if spells w "guard" then guard_of ws
    else if spells w "slow" then slow_of ws
    else Err UnknownLayer

-- a file's name is any word
abbrev pub load_of : List (List ℕ) → Result Command Wrong
load_of [] = Err MissingOperand
load_of (w ∷ ws) = only ws (Load w)

abbrev pub power_of : List (List ℕ) → Result Command Wrong
power_of ws = taking (machine_of ws) (λ kind ws. number ws (λ axis ws. only ws (Power kind axis)))

abbrev pub clock_of : List (List ℕ) → Result Command Wrong
clock_of ws = taking (count_of ws) (λ n ws. only ws (Clock n))

abbrev pub instruction_of : List (List ℕ) → Result Command Wrong
instruction_of ws = taking (count_of ws) (λ n ws. only ws (Instruction n))

abbrev pub set_of : List (List ℕ) → Result Command Wrong
set_of ws =
    number ws
    (λ n ws. if nat_le n 255 then number ws (λ w ws. only ws (Set n w)) else Err RegisterTooLarge)

abbrev pub look_of : List (List ℕ) → Result Command Wrong
look_of ws = number ws (λ a ws. only ws (Look a))

abbrev pub memory_of : List (List ℕ) → Result Command Wrong
memory_of ws =
    number ws
    (λ a ws. number ws (λ n ws. if nat_le (a + n) (2 ^ 32) then only ws (Memory a n) else Err PastLastAddress))

abbrev pub place_of : List (List ℕ) → Result Command Wrong
place_of ws = number ws (λ a ws. number ws (λ w ws. only ws (Place a w)))
