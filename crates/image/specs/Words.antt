-- The words of one segment, and their places on a card.
-- A reader must believe: word k of a segment is the number of its bytes 4k to 4k + 3, at the address offset + k.
use Rattle.std.specs.Prelude.{◌≡◌, ℕ, ◌+◌, ◌-◌, ◌*◌, ◌/◌, ◌<◌, ◌≤◌, Bool, true, false, ◌&&◌, List, length, map, find, not, Option, nat_le, nat_lt, if◌then◌else◌}
use Rattle.std.specs.List.{range_with_len}
use Rattle.card.specs.declared.cell.Cell.TheVariants.{Open}
use Rattle.card.specs.Cells.{Map, cell_is_open}
use Rattle.image.specs.Directory.{number}

abbrev pub words_in : List ℕ → ℕ
words_in part = length part / 4

abbrev pub word_in : List ℕ → ℕ → ℕ
word_in part k = number part (4 * k)

-- Every address from the first one on, up to and without the last, is open.
abbrev pub OpenFrom : Map → ℕ → ℕ → Type 0
OpenFrom f first last = (a : ℕ) → first ≤ a → a < last → cell_is_open (f a) ≡ true

-- The addresses of a segment at the offset, in order.
abbrev pub addresses : ℕ → List ℕ → List ℕ
addresses offset part = map (λ k. offset + k) (range_with_len 0 (words_in part))

-- The first address of a segment at the offset that is not open, if any. This serves a private function alone; the public call
-- says `FirstClosed` of Placing.antt.
abbrev pub closed_in : Map → ℕ → List ℕ → Option ℕ
closed_in f offset part = find (λ a. not (cell_is_open (f a))) (addresses offset part)

-- The map with the first k words of a segment at their places.
abbrev pub laid : ℕ → List ℕ → ℕ → Map → Map
laid offset part k f a = if nat_le offset a && nat_lt a (offset + k) then Open (word_in part (a - offset)) else f a
