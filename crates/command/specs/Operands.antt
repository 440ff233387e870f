-- The operands of a command, taken one after the other from the words that follow its first word.
-- A reader must believe that a missing operand, and one that is wrong, is reported as that.
use Rattle.std.specs.Prelude.{◌≡◌, ℕ, List, [], ◌∷◌, Ok, Err, Result, MatchResult, if◌then◌else◌}
use Rattle.std.specs.Borrow.{Bor}
use Rattle.command.specs.declared.Wrong.{Wrong}
use Rattle.command.specs.declared.Wrong.TheVariants.{MissingOperand, UnknownCard, UnknownMachine}
use Rattle.command.specs.declared.Bottom.{Bottom}
use Rattle.command.specs.declared.Bottom.TheVariants.{Word, Boot}
use Rattle.command.specs.declared.MachineKind.{MachineKind}
use Rattle.command.specs.declared.MachineKind.TheVariants.{ByClock, ByInstruction}
use Rattle.command.specs.Numbers.{number_of}
use Rattle.command.specs.Words.{spells}

abbrev pub with : {X : Type 0} → Result X Wrong → List (List ℕ) → Result (X × List (List ℕ)) Wrong
with (Ok x) ws = Ok (x, ws)
with (Err e) ws = Err e

-- the number that the words begin with, and the other words
abbrev pub operand_of : List (List ℕ) → Result (ℕ × List (List ℕ)) Wrong
operand_of [] = Err MissingOperand
operand_of (w ∷ ws) = with (number_of w) ws

-- the same, or 1 where there is no word
abbrev pub count_of : List (List ℕ) → Result (ℕ × List (List ℕ)) Wrong
count_of [] = Ok (1, [])
count_of (w ∷ ws) = operand_of (w ∷ ws)

-- r is the operand that s gives, and ws are the words after it
abbrev pub Takes : {X : Type 0} → Result X Wrong → List (List ℕ) → Result (X × List (List ℕ)) Wrong → Type 0
Takes r ws s = MatchResult r (λ x. s ≡ Ok (x, ws)) (λ e. s ≡ Err e)

-- r is the first of the words us, and ws are the others
abbrev pub TakesWord : Result (Bor (List ℕ)) Wrong → List (List ℕ) → List (List ℕ) → Type 0
TakesWord r ws us = MatchResult r (λ w. us ≡ w.now ∷ ws) (λ e. (us ≡ []) × (e ≡ MissingOperand))

abbrev pub bottom_named : List ℕ → Result Bottom Wrong
bottom_named w = if spells w "word" then Ok Word else if spells w "boot" then Ok Boot else Err UnknownCard

-- the bottom card that the words begin with, and the other words
abbrev pub bottom_of : List (List ℕ) → Result (Bottom × List (List ℕ)) Wrong
bottom_of [] = Err MissingOperand
bottom_of (w ∷ ws) = with (bottom_named w) ws

abbrev pub machine_named : List ℕ → Result MachineKind Wrong
machine_named w = if spells w "clock" then Ok ByClock else if spells w "instruction" then Ok ByInstruction else Err UnknownMachine

-- the machine that the words begin with, and the other words
abbrev pub machine_of : List (List ℕ) → Result (MachineKind × List (List ℕ)) Wrong
machine_of [] = Err MissingOperand
machine_of (w ∷ ws) = with (machine_named w) ws
