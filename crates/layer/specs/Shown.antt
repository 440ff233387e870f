-- The cells that a layer shows, from the cells below, and its meaning from the meaning below.
-- A reader must believe: a cell that the layer itself refuses has the layer as origin, with its own address and number 0; an
-- origin from below has its number raised by one, up to 255; all else is as below.
use Rattle.std.specs.Prelude.{ℕ, ◌+◌, min, Bool, true, false, Some, None, Option}
use Rattle.card.specs.declared.cell.Cell.{Cell}
use Rattle.card.specs.declared.cell.Cell.TheVariants.{Absent, Fixed, Open}
use Rattle.card.specs.declared.cell.Origin.{Origin}
use Rattle.card.specs.declared.transfer.Transfer.{Transfer}
use Rattle.card.specs.Cells.{Map, here}
use Rattle.card.specs.Meaning.{Meaning}
use Rattle.layer.specs.declared.kind.Kind.{Kind}
use Rattle.layer.specs.Kinds.{address_under, guards, added}

abbrev pub raised : Origin → Origin
raised o = record o { layer = min (o.layer + 1) 255 }

-- A cell from below, guarded or not, at the layer's own address a.
abbrev pub lifted : Bool → ℕ → Cell → Cell
lifted g a (Absent o) = Absent (raised o)
lifted g a (Fixed w o) = Fixed w (raised o)
lifted false a (Open w) = Open w
lifted true a (Open w) = Fixed w (here a)

abbrev pub shown_at : Option ℕ → Bool → ℕ → Map → Cell
shown_at None g a f = Absent (here a)
shown_at (Some b) g a f = lifted g a (f b)

-- The map of a layer over the map f.
abbrev pub shown : Kind → Map → Map
shown k f a = shown_at (address_under k a) (guards k a) a f

-- A layer over a card of this meaning, with a transfer of its own or none.
abbrev pub layered : Kind → Meaning → Option Transfer → Meaning
layered k below t =
    record { map = shown k below.map; transfer = t; patience = below.patience + added k below.patience }
