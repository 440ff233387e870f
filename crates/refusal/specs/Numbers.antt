-- The number of each refusal: what a crew, a panel or a log is told, and how it is printed.
-- A reader must believe that these are the published numbers.
use Rattle.std.specs.Prelude.{ℕ, List}
use Rattle.std.specs.Fmt.{decimal}
use Rattle.refusal.specs.declared.Refusal.{Refusal}
use Rattle.refusal.specs.declared.Refusal.TheVariants.{Axis, Halted, Transfer, NoBoundary, Misfit, KeyOut, Length, Count, Pair, NotOpen, Buffer, Field}

abbrev pub number_of : Refusal → ℕ
number_of Axis = 30
number_of Halted = 31
number_of Transfer = 32
number_of NoBoundary = 34
number_of Misfit = 35
number_of KeyOut = 36
number_of Length = 41
number_of Count = 42
number_of Pair = 43
number_of NotOpen = 44
number_of Buffer = 45
number_of Field = 46

-- A refusal is printed as its number, in decimal digits.
abbrev pub text_of : Refusal → List ℕ
text_of refusal = decimal (number_of refusal)
