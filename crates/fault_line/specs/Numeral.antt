-- Numbers as the fault line writes them: a fixed number of digits, the highest first, in small letters.
-- A reader must believe that `digits 16 8 n` is how one writes a word, and `digits 10 3 n` a number below 1000.
use Rattle.std.specs.Prelude.{ℕ, zero, suc, ◌/◌, ◌%◌, List, [], ◌∷◌, ◌++◌, codes, slice_index}
use Rattle.fault_line.specs.declared.numeral.Base.{Base}
use Rattle.fault_line.specs.declared.numeral.Base.TheVariants.{Decimal, Hexadecimal}

-- how many digits a base has
abbrev pub radix : Base → ℕ
radix Decimal = 10
radix Hexadecimal = 16

-- the character of a digit below 16
abbrev pub digit : ℕ → ℕ
digit d = slice_index (codes "0123456789abcdef") d

-- the last k digits of n in base b
unfoldable pub digits : ℕ → ℕ → ℕ → List ℕ
digits b zero n = []
digits b (suc k) n = digits b k (n / b) ++ (digit (n % b) ∷ [])
