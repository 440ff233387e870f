-- Eight marked words: instructions with the state before and the state after, as whole states.
-- A reader must believe: each row is one that the chapter's rules, with the choices that docs/ lists, ask for.
use Rattle.std.specs.Prelude.{◌≡◌, ℕ, Bool, true, false, List, [], ◌∷◌, map, Some, None, ◌==◌, if◌then◌else◌}
use Rattle.card.specs.declared.cell.Cell.TheVariants.{Absent, Open}
use Rattle.card.specs.Cells.{Map}
use Rattle.isa.specs.declared.flags.Flags.{Flags}
use Rattle.machine.specs.declared.axis.Axis.TheVariants.{One}
use Rattle.machine.specs.declared.machine.Outcome.TheVariants.{Done}
use Rattle.machine.specs.Registers.{cleared, put}
use Rattle.machine.specs.State.{State, clear_flags}
use Rattle.machine.specs.Step.{step}

-- Open cells with these words at these addresses, and absent ones elsewhere.
abbrev pub memory : List (ℕ × ℕ) → Map
memory [] a = Absent (record { address = a; layer = 0 })
memory (c ∷ cs) a = if a == c.0 then Open c.1 else memory cs a

-- Registers that hold these words, and zero elsewhere.
abbrev pub holding : List (ℕ × ℕ) → List ℕ
holding [] = cleared
holding (r ∷ rs) = put (holding rs) r.0 r.1

abbrev pub flags_of : Bool → Bool → Bool → Flags
flags_of v n z = record { v = v; n = n; z = z }

pub record Row : Type 0 where
  pub word : ℕ
  pub before : State
  pub after : State

-- A row at an address, over its words, with registers and flags before and after, and PC after.
abbrev pub row : ℕ → ℕ → List (ℕ × ℕ) → List (ℕ × ℕ) → ℕ → List (ℕ × ℕ) → Flags → Row
row pc word more registers pc_after registers_after flags_after =
    record {
      word = word;
      before =
          record {
            axis = One;
            registers = holding registers;
            pc = pc;
            flags = clear_flags;
            map = memory ((pc, word) ∷ more);
            fault = None;
          };
      after =
          record {
            axis = One;
            registers = holding registers_after;
            pc = pc_after;
            flags = flags_after;
            map = memory ((pc, word) ∷ more);
            fault = None;
          };
    }

-- An arithmetic row at address 0: one word.
abbrev pub computes : ℕ → List (ℕ × ℕ) → ℕ × ℕ → Flags → Row
computes word registers result flags = row 0 word [] registers 1 (result ∷ registers) flags

-- A branch row: PC before, the words, PC after; registers and flags stay.
abbrev pub branches : ℕ → ℕ → List (ℕ × ℕ) → ℕ → Row
branches pc word more pc_after = row pc word more [] pc_after [] clear_flags

abbrev pub rows : List Row
rows =
    computes 0x100503ff ((3, 0) ∷ []) (5, 0xffffffff) (flags_of false true false)
    ∷ computes 0x01010203 ((2, 0x80000000) ∷ (3, 1) ∷ []) (1, 0x7fffffff) (flags_of true false false)
    ∷ computes 0x02010203 ((2, 0xffff0000) ∷ (3, 0x8000) ∷ []) (1, 0x80000000) (flags_of false true false)
    ∷ computes 0x03010203 ((2, 0xfffffffb) ∷ (3, 0) ∷ []) (1, 0x80000000) (flags_of true true false)
    ∷ branches 5 0x500000fe [] 4
    ∷ branches 5 0x50080005 [] 6
    ∷ branches 2 0x40000000 ((3, 0xffffffff) ∷ []) 3
    ∷ branches 2 0x40080000 [] 4
    ∷ []

-- Each instruction is done and leaves the state after.
abbrev pub Marked : Type 0
Marked = map (λ r. step r.before) rows ≡ map (λ r. (Some Done, r.after)) rows
