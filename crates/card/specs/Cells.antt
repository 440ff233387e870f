-- Cells by their addresses, and what a cell is to whoever wants to store a word there.
-- A reader must believe: a map gives every address a cell, and a word can be stored in an open cell alone.
use Rattle.std.specs.Prelude.{ℕ, Bool, true, false}
use Rattle.card.specs.declared.cell.Cell.{Cell}
use Rattle.card.specs.declared.cell.Cell.TheVariants.{Absent, Fixed, Open}
use Rattle.card.specs.declared.cell.Origin.{Origin}

-- The cell at each address.
abbrev pub Map : Type 0
Map = ℕ → Cell

-- The origin of a refusal by the card or layer itself, at its own address a.
abbrev pub here : ℕ → Origin
here a = record { address = a; layer = 0 }

abbrev pub cell_is_open : Cell → Bool
cell_is_open (Absent o) = false
cell_is_open (Fixed w o) = false
cell_is_open (Open w) = true
