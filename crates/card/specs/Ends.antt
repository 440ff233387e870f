-- How a transfer ends, and what it leaves in the map of a card's cells.
-- A reader must believe: a read ends with the word of a fixed or an open cell, a write stores its word in an open
-- cell and answers it, and every other end is a fault that names the cell's origin.
use Rattle.std.specs.Prelude.{ℕ, Ok, Err, Result, ◌==◌, if◌then◌else◌}
use Rattle.card.specs.Cells.{Map}
use Rattle.card.specs.declared.cell.AccessFault.{AccessFault}
use Rattle.card.specs.declared.cell.Cell.{Cell}
use Rattle.card.specs.declared.cell.Cell.TheVariants.{Absent, Fixed, Open}
use Rattle.card.specs.declared.cell.Cause.TheVariants as cause
use Rattle.card.specs.declared.transfer.Direction.{Direction}
use Rattle.card.specs.declared.transfer.Direction.TheVariants.{Read, Write}
use Rattle.card.specs.declared.transfer.Request.{Request}
use Rattle.card.specs.declared.cell.Cause.{Cause}
use Rattle.card.specs.declared.cell.Origin.{Origin}

-- The map with the word w in an open cell at a, and all other cells as they are.
abbrev pub stored : Map → ℕ → ℕ → Map
stored m a w x = if x == a then Open w else m x

-- The word, or why there is none.
abbrev pub End : Type 0
End = Result ℕ AccessFault

abbrev pub fault : Cause → Origin → End
fault cause origin = Err (record { cause = cause; origin = origin })

abbrev pub end_of : Direction → Cell → End
end_of Read (Absent o) = fault cause.Absent o
end_of Read (Fixed w o) = Ok w
end_of Read (Open w) = Ok w
end_of (Write v) (Absent o) = fault cause.Absent o
end_of (Write v) (Fixed w o) = fault cause.Fixed o
end_of (Write v) (Open w) = Ok v

-- What a transfer that ends at the cell c leaves of the map.
abbrev pub leaves_at : Direction → Cell → Map → ℕ → Map
leaves_at Read c m a = m
leaves_at (Write v) (Absent o) m a = m
leaves_at (Write v) (Fixed w o) m a = m
leaves_at (Write v) (Open w) m a = stored m a v

abbrev pub leaves : Request → Map → Map
leaves q m = leaves_at q.direction (m q.address) m q.address
