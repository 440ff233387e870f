-- What the check of an image answers.
-- A reader must believe: the tests come in this order, and the first that fails tells the refusal.
use Rattle.std.specs.Prelude.{◌≡◌, ℕ, ◌<◌, ◌≤◌, List, length, Ok, Err, Result, ◌≢◌}
use Rattle.refusal.specs.declared.Refusal.{Refusal}
use Rattle.refusal.specs.declared.Refusal.TheVariants as refused
use Rattle.image.specs.declared.image.Directory.{Directory}
use Rattle.image.specs.declared.image.Image.{Image}
use Rattle.image.specs.Directory.{pair_count, end_of_directory, start_of, Listed, RightPairs, Right}

-- The numbers of the three refusals: Length is 41, Count 42, Pair 43.
pub data NoImage (bs : List ℕ) : Refusal → Type 0 where
  no_count : length bs < 4 → NoImage bs refused.Length
  too_many : 4 ≤ length bs → 64 < pair_count bs → NoImage bs refused.Count
  cut_short : 4 ≤ length bs → pair_count bs ≤ 64 → length bs < end_of_directory (pair_count bs) → NoImage bs refused.Length
  wrong_pair : Listed bs → (RightPairs bs (pair_count bs) → ⊥) → NoImage bs refused.Pair
  wrong_total : Listed bs → RightPairs bs (pair_count bs) → (length bs ≢ start_of bs (pair_count bs))
      → NoImage bs refused.Length

-- The bytes of an image.
abbrev pub bytes_of : Image → List ℕ
bytes_of image = image.directory.bytes.now

-- The reading of the directory of the bytes bs alone: it is that of these bytes, or they are refused.
abbrev pub Read : List ℕ → Result Directory Refusal → Type 0
Read bs (Ok directory) = directory.bytes.now ≡ bs
Read bs (Err e) = NoImage bs e

-- The check of the bytes bs: they are right and the image is theirs, or they are refused.
abbrev pub Checked : List ℕ → Result Image Refusal → Type 0
Checked bs (Ok image) = Right bs × (bytes_of image ≡ bs)
Checked bs (Err e) = NoImage bs e
