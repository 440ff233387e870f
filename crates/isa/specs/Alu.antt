-- Arithmetic and logic on words. An operation answers a word and the three flags V, N, Z.
-- A reader must believe: operands are signed words and results are exact integers before they are narrowed to a word.
use Rattle.std.specs.Prelude.{ℕ, ◌-◌, Bool, true, false, not, ℤ, ◌+ℤ◌, ◌-ℤ◌, ◌*ℤ◌, ◌==◌, bit_and, bit_or, bit_xor, int_div, nat_le, if◌then◌else◌}
use Rattle.std.specs.Int.Signed.{non_neg}
use Rattle.isa.specs.declared.alu.Arithmetic.{Arithmetic}
use Rattle.isa.specs.declared.alu.Arithmetic.TheVariants.{Add, Sub, Mul, Div}
use Rattle.isa.specs.declared.alu.Logical.{Logical}
use Rattle.isa.specs.declared.alu.Logical.TheVariants.{And, Or, Xor, Mask}
use Rattle.isa.specs.declared.flags.Flags.{Flags}
use Rattle.isa.specs.Words.{signed, word_of, is_zero, in_range, clamped}

-- The word, V, N, Z.
abbrev pub Answer : Type 0
Answer = ℕ × Bool × Bool × Bool

-- N is the word's top bit, and Z is set exactly if the word is 0.
abbrev pub answer : ℕ → Bool → Answer
answer word v = (word, v, nat_le 0x8000_0000 word, (word == 0))

-- The low 32 bits of an exact result; V is set exactly if it lies outside the range.
abbrev pub wrapping : ℤ → Answer
wrapping exact = answer (word_of exact) (not (in_range exact))

-- An exact result, or the nearer end of the range with V set.
abbrev pub clamping : ℤ → Answer
clamping exact = answer (word_of (clamped exact)) (not (in_range exact))

-- Dividing: rounded toward zero with V clear. By zero it is the greatest number if the dividend is 0 or more, else the
-- least one, with V set.
abbrev pub dividing : ℤ → ℤ → Answer
dividing a b =
    if is_zero b then answer (if non_neg a then 0x7fff_ffff else 0x8000_0000) true else answer (word_of (int_div a b)) false

abbrev pub alu_of : Arithmetic → ℕ → ℕ → Answer
alu_of Add a b = wrapping (signed a +ℤ signed b)
alu_of Sub a b = wrapping (signed a -ℤ signed b)
alu_of Mul a b = clamping (signed a *ℤ signed b)
alu_of Div a b = dividing (signed a) (signed b)

-- After a logical instruction V and N are as before, and Z is set exactly if the word is 0.
abbrev pub keeping : Flags → ℕ → Answer
keeping flags word = (word, flags.v, flags.n, (word == 0))

-- Mask is a and not b; the complement of a word is what it lacks to 0xffff_ffff.
abbrev pub bits_of : Logical → ℕ → ℕ → ℕ
bits_of And a b = bit_and a b
bits_of Or a b = bit_or a b
bits_of Xor a b = bit_xor a b
bits_of Mask a b = bit_and a (0xffff_ffff - b)

abbrev pub logic_of : Logical → ℕ → ℕ → Flags → Answer
logic_of op a b flags = keeping flags (bits_of op a b)
