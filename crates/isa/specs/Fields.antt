-- The fields of an instruction word: bits 31–24 are the opcode, 23–16 name r3, 15–8 name r1, and 7–0 name r2 or are
-- i8, a signed number; bits 19–16 are the branch mask i, v, n, z.
-- A reader must believe: the byte above the low n bits is what is left by division by 2 ^ n and then remainder by 256.
use Rattle.std.specs.Prelude.{ℕ, ◌/◌, ◌%◌, ◌^◌, Bool, ◌==◌}
use Rattle.std.specs.Int.{w8}
use Rattle.std.proofs.Common.{to_z}
use Rattle.isa.specs.declared.fields.Instruction.{Instruction}
use Rattle.isa.specs.declared.fields.Mask.{Mask}
use Rattle.isa.specs.Words.{word_of}

-- The byte, and the one bit, above the low n bits of a word.
abbrev pub byte_at : ℕ → ℕ → ℕ
byte_at n word = word / 2 ^ n % 256

abbrev pub bit_at : ℕ → ℕ → Bool
bit_at n word = word / 2 ^ n % 2 == 1

abbrev pub mask_of : ℕ → Mask
mask_of word = record { i = bit_at 19 word; v = bit_at 18 word; n = bit_at 17 word; z = bit_at 16 word }

abbrev pub instruction_of : ℕ → Instruction
instruction_of word =
    record {
      opcode = byte_at 24 word;
      r3 = byte_at 16 word;
      r1 = byte_at 8 word;
      r2 = byte_at 0 word;
      mask = mask_of word;
    }

-- i8 as a word: the low byte read in two's complement, modulo 2 ^ 32.
abbrev pub immediate_of : Instruction → ℕ
immediate_of i = word_of (to_z w8 i.r2)
