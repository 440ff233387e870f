-- The directory of an image, and when an image is right.
-- A reader must believe: an image is a count of pairs, the pairs of offset (an address) and length (in words), and then
-- the words of all segments in that order; every number has four bytes, highest first. Pairs are counted from 0.
use Rattle.std.specs.Prelude.{◌≡◌, ℕ, zero, suc, ◌+◌, ◌*◌, ◌^◌, ◌<◌, ◌≤◌, List, length, take, drop, slice_index}
use Rattle.std.specs.Simd.{first_chunks}

-- The number in the four bytes from the position p on.
unfoldable pub number : List ℕ → ℕ → ℕ
number bs p = slice_index bs p * 16777216 + slice_index bs (p + 1) * 65536 + slice_index bs (p + 2) * 256 + slice_index bs (p + 3)

abbrev pub pair_count : List ℕ → ℕ
pair_count bs = number bs 0

abbrev pub offset_of : List ℕ → ℕ → ℕ
offset_of bs n = number bs (4 + 8 * n)

abbrev pub length_of : List ℕ → ℕ → ℕ
length_of bs n = number bs (8 + 8 * n)

-- The address after the last one of segment n.
abbrev pub end_of : List ℕ → ℕ → ℕ
end_of bs n = offset_of bs n + length_of bs n

-- How many words the segments before n have together.
abbrev pub words_before : List ℕ → ℕ → ℕ
words_before bs zero = 0
words_before bs (suc n) = words_before bs n + length_of bs n

-- The position after the directory of so many pairs.
abbrev pub end_of_directory : ℕ → ℕ
end_of_directory count = 4 + 8 * count

-- The bytes have a count of at most 64 pairs, and the pairs.
abbrev pub Listed : List ℕ → Type 0
Listed bs = (pair_count bs ≤ 64) × (end_of_directory (pair_count bs) ≤ length bs)

-- The bytes of the pairs, eight for each.
abbrev pub pairs_of : List ℕ → List (List ℕ)
pairs_of bs = first_chunks 8 (pair_count bs) (drop 4 bs)

-- The position of the first byte of segment n.
abbrev pub start_of : List ℕ → ℕ → ℕ
start_of bs n = end_of_directory (pair_count bs) + 4 * words_before bs n

-- The bytes of segment n.
abbrev pub part_of : List ℕ → ℕ → List ℕ
part_of bs n = take (4 * length_of bs n) (drop (start_of bs n) bs)

-- The address after the last one of the segment before n: no address of segment n lies below it.
abbrev pub floor_of : List ℕ → ℕ → ℕ
floor_of bs zero = 0
floor_of bs (suc n) = end_of bs n

-- Segment n has a word, begins at or after the end of the one before it, and does not pass the last address.
abbrev pub RightPair : List ℕ → ℕ → Type 0
RightPair bs n = (0 < length_of bs n) × (floor_of bs n ≤ offset_of bs n) × (end_of bs n ≤ 2 ^ 32)

abbrev pub RightPairs : List ℕ → ℕ → Type 0
RightPairs bs count = (n : ℕ) → n < count → RightPair bs n

-- A right image: few and right pairs, and its last segment ends where the bytes do.
abbrev pub Right : List ℕ → Type 0
Right bs = (pair_count bs ≤ 64) × RightPairs bs (pair_count bs) × (length bs ≡ start_of bs (pair_count bs))
