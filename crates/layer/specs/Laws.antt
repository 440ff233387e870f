-- Laws of layers, above their definition, for every map below; cells are equal here up to their origins.
-- A reader must believe: nothing; these are shown of the definition.
use Rattle.std.specs.Prelude.{◌≡◌, ℕ, zero, suc, ◌+◌, Bool, ◌||◌}
use Rattle.card.specs.declared.cell.Cell.{Cell}
use Rattle.card.specs.declared.cell.Cell.TheVariants.{Absent, Fixed, Open}
use Rattle.card.specs.declared.cell.Origin.{Origin}
use Rattle.card.specs.Cells.{Map, here}
use Rattle.layer.specs.declared.kind.Kind.TheVariants.{Offset, Guard, Slow}
use Rattle.layer.specs.Kinds.{guards, added}
use Rattle.layer.specs.Shown.{shown, lifted, raised}

-- A cell with its origin forgotten.
abbrev pub bare : Cell → Cell
bare (Absent o) = Absent (here 0)
bare (Fixed w o) = Fixed w (here 0)
bare (Open w) = Open w

abbrev pub SameCells : Map → Map → Type 0
SameCells f g = (a : ℕ) → bare (f a) ≡ bare (g a)

-- The map with the open cells that either test names fixed.
abbrev pub fixing : (ℕ → Bool) → (ℕ → Bool) → Map → Map
fixing p q f a = lifted (p a || q a) a (f a)

-- A raise, and the patience over one more slow layer of 255, so many times.
abbrev pub raises : ℕ → Origin → Origin
raises zero o = o
raises (suc n) o = raised (raises n o)

abbrev pub slowed : ℕ → ℕ → ℕ
slowed zero p = p
slowed (suc n) p = slowed n p + added (Slow 255) (slowed n p)

pub record Laws : Type 0 where
  -- two offsets in a row show the cells of one with the summed base
  pub offsets : (b c : ℕ) (f : Map) → SameCells (shown (Offset b) (shown (Offset c) f)) (shown (Offset (b + c)) f)
  -- two guards, in either order, fix the cells of both ranges
  pub ranges : (p q r s : ℕ) (f : Map) →
      SameCells (shown (Guard p q) (shown (Guard r s) f)) (fixing (guards (Guard p q)) (guards (Guard r s)) f)
  pub order : (p q r s : ℕ) (f : Map) →
      SameCells (shown (Guard p q) (shown (Guard r s) f)) (shown (Guard r s) (shown (Guard p q) f))
  -- a slow layer shows the cells below
  pub slow : (w : ℕ) (f : Map) → SameCells (shown (Slow w) f) f
  -- three hundred layers above an origin count as 255, and seventeen slow layers of 255 have a patience of 4,096
  pub highest : raises 300 (here 7) ≡ record { address = 7; layer = 255 }
  pub slowest : slowed 17 0 ≡ 4096
