-- The number that a word stands for: decimal digits, or hexadecimal ones after `0x`, up to 4294967295.
-- A reader must believe that `digit_value` is the value of a digit or letter, capital or small, and 36 of any other
-- byte, and that `digits_value` is the number that digits write, the first one highest. Of words that are not all numbers,
-- the first that is none decides.
use Rattle.std.specs.Prelude.{ℕ, Bool, List, [], ◌∷◌, take, drop, Ok, Err, Result, nat_le, nat_lt, if◌then◌else◌}
use Rattle.std.specs.List.{list_all}
use Rattle.std.specs.Str.Parse.{digits_value}
use Rattle.std.specs.Char.{digit_value}
use Rattle.command.specs.declared.Wrong.{Wrong}
use Rattle.command.specs.declared.Wrong.TheVariants.{NotANumber, NumberTooLarge}
use Rattle.command.specs.Words.{spells}

abbrev pub all_digits : ℕ → List ℕ → Bool
all_digits radix bs = list_all (λ b. nat_lt (digit_value b) radix) bs

abbrev pub within : ℕ → Result ℕ Wrong
within n = if nat_le n 4294967295 then Ok n else Err NumberTooLarge

-- one digit of the base or more, and nothing else
abbrev pub number_in_base : ℕ → List ℕ → Result ℕ Wrong
number_in_base radix [] = Err NotANumber
number_in_base radix (b ∷ bs) = if all_digits radix (b ∷ bs) then within (digits_value radix (b ∷ bs)) else Err NotANumber

abbrev pub number_of : List ℕ → Result ℕ Wrong
number_of w = if spells (take 2 w) "0x" then number_in_base 16 (drop 2 w) else number_in_base 10 w

-- a number before those of the words after it
abbrev pub listed : Result ℕ Wrong → Result (List ℕ) Wrong → Result (List ℕ) Wrong
listed (Ok n) (Ok ns) = Ok (n ∷ ns)
listed (Ok n) (Err e) = Err e
listed (Err e) r = Err e

-- the numbers of all the words
abbrev pub numbers_of : List (List ℕ) → Result (List ℕ) Wrong
numbers_of [] = Ok []
numbers_of (w ∷ ws) = listed (number_of w) (numbers_of ws)
