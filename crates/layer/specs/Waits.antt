-- The waits of a layer's transfers.
-- A reader must believe: a transfer that the layer itself refuses asks nothing of the card below and has no waits; any other has the
-- waits that the card below chooses for it, and what the layer adds on top.
use Rattle.std.specs.Prelude.{ℕ, ◌+◌, Bool, true, false, not, Some, None, Option, if◌then◌else◌}
use Rattle.card.specs.declared.cell.Cell.{Cell}
use Rattle.card.specs.declared.cell.Cell.TheVariants.{Absent, Fixed, Open}
use Rattle.card.specs.declared.transfer.Direction.{Direction}
use Rattle.card.specs.declared.transfer.Direction.TheVariants.{Read, Write}
use Rattle.card.specs.declared.transfer.Request.{Request}
use Rattle.card.specs.declared.transfer.Transfer.{Transfer}
use Rattle.card.specs.Cells.{Map}
use Rattle.card.specs.Meaning.{Meaning}
use Rattle.layer.specs.declared.kind.Kind.{Kind}
use Rattle.layer.specs.Kinds.{address_under, guards, added}

-- A guarded write to a cell that is open below.
abbrev pub guarded_write : Direction → Bool → Cell → Bool
guarded_write Read g c = false
guarded_write (Write w) g (Absent o) = false
guarded_write (Write w) g (Fixed v o) = false
guarded_write (Write w) g (Open v) = g

abbrev pub refuses_at : Option ℕ → Direction → Bool → Map → Bool
refuses_at None d g f = true
refuses_at (Some b) d g f = guarded_write d g (f b)

-- Whether a layer over the map f refuses the request itself.
abbrev pub refuses : Kind → Map → Request → Bool
refuses k f q = refuses_at (address_under k q.address) q.direction (guards k q.address) f

-- Whether a begin asks the card below: it has no transfer of its own in being, and does not refuse the request itself.
abbrev pub asks_below : Option Transfer → Kind → Map → Request → Bool
asks_below None k f q = not (refuses k f q)
asks_below (Some t) k f q = false

-- The waits of a transfer: none where the layer refuses it, else what the card below chooses for the address below, and what the
-- layer adds.
abbrev pub waits_at : Option ℕ → Bool → Meaning → ℕ → (Request → ℕ) → Request → ℕ
waits_at None g below more choice q = 0
waits_at (Some b) g below more choice q =
    if guarded_write q.direction g (below.map b) then 0 else (choice (record q { address = b }) + more)

abbrev pub waits_of : Kind → Meaning → (Request → ℕ) → Request → ℕ
waits_of k below choice q =
    waits_at (address_under k q.address) (guards k q.address) below (added k below.patience) choice q
