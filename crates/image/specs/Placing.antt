-- What placing an image does to a card.
-- A reader must believe: it is refused if some address of a segment is not open, names the lowest one and changes
-- nothing then; otherwise it puts every word at its place and leaves all other cells, the transfer and the patience.
use Rattle.std.specs.Prelude.{◌≡◌, ℕ, ◌+◌, ◌<◌, ◌≤◌, true, false, List, Some, None, Ok, Err, Option, Result}
use Rattle.card.specs.declared.cell.Cell.TheVariants.{Open}
use Rattle.card.specs.Cells.{Map, cell_is_open}
use Rattle.card.specs.Meaning.{Meaning, mapped}
use Rattle.image.specs.declared.placing.NotPlaced.{NotPlaced}
use Rattle.image.specs.Directory.{pair_count, offset_of, length_of, end_of, part_of}
use Rattle.image.specs.Words.{word_in}

-- One of the first count segments has the address a.
abbrev pub Holds : List ℕ → ℕ → ℕ → Type 0
Holds bs count a = (n : ℕ) × (n < count) × (offset_of bs n ≤ a) × (a < end_of bs n)

abbrev pub AllOpen : List ℕ → ℕ → Map → Type 0
AllOpen bs count f = (a : ℕ) → Holds bs count a → cell_is_open (f a) ≡ true

-- The address a is the lowest one of the image that is not open.
pub record FirstClosed (bs : List ℕ) (f : Map) (a : ℕ) : Type 0 where
  pub held : Holds bs (pair_count bs) a
  pub closed : cell_is_open (f a) ≡ false
  pub first : (b : ℕ) → b < a → Holds bs (pair_count bs) b → cell_is_open (f b) ≡ true

abbrev pub Looked : List ℕ → Map → Option ℕ → Type 0
Looked bs f None = AllOpen bs (pair_count bs) f
Looked bs f (Some a) = FirstClosed bs f a

-- Every word of the first count segments stands at its place, and every other address has the cell that it had.
pub record Lays (bs : List ℕ) (count : ℕ) (before after : Map) : Type 0 where
  pub words : (n k : ℕ) → n < count → k < length_of bs n → after (offset_of bs n + k) ≡ Open (word_in (part_of bs n) k)
  pub rest : (a : ℕ) → (Holds bs count a → ⊥) → after a ≡ before a

-- The segments are laid, and nothing but the map of the card's meaning changes.
abbrev pub Laid : List ℕ → ℕ → Meaning → Meaning → Type 0
Laid bs count m n = Lays bs count m.map n.map × (n ≡ mapped n.map m)

abbrev pub PlacedImage : List ℕ → Meaning → Result (Unit {0}) NotPlaced → Meaning → Type 0
PlacedImage bs m (Ok u) n = AllOpen bs (pair_count bs) m.map × Laid bs (pair_count bs) m n
PlacedImage bs m (Err e) n = FirstClosed bs m.map e.address × (n ≡ m)
