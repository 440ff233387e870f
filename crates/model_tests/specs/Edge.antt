-- The meaning of the tests' own card, which has a cell at every address.
-- A reader must believe: nothing; no promise of the library rests on it.
use Rattle.std.specs.Prelude.{ℕ, ◌+◌, ◌-◌, ◌%◌, ◌^◌, ◌≤◌, min, ◌&&◌, List, Option, nat_le, nat_lt, slice_index, if◌then◌else◌}
use Rattle.std.proofs.Common.{arith}
use Rattle.card.specs.declared.cell.Cell.TheVariants.{Fixed, Open}
use Rattle.card.specs.declared.transfer.Transfer.{Transfer}
use Rattle.card.specs.Cells.{Map}
use Rattle.card.specs.Meaning.{Meaning}

abbrev pub edge_cells : List ℕ → List ℕ → ℕ → Map
edge_cells first last layers a =
    if nat_lt a 8 then Open (slice_index first a)
    else if nat_le 0xffff_fff8 a && nat_lt a (2 ^ 32) then Open (slice_index last (a - 0xffff_fff8))
    else Fixed 0 (record { address = a; layer = layers })

abbrev pub edge_meaning : List ℕ → List ℕ → ℕ → ℕ → Option Transfer → Meaning
edge_meaning first last layers more t =
    record { map = edge_cells first last layers; transfer = t; patience = min more 4093 + 3 }

pub patient : (more : ℕ) → min more 4093 + 3 ≤ 4096
patient more = omega arith

abbrev pub edge_choice : ℕ → ℕ → ℕ
edge_choice more a = min more 4093 + a % 4
