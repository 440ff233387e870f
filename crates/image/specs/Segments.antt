-- What an image shows as its segment n.
-- A reader must believe: it is the offset of pair n and the very bytes of its words, and there is none past the last.
use Rattle.std.specs.Prelude.{◌≡◌, ℕ, ◌<◌, ◌≤◌, List, Some, None, Option}
use Rattle.image.specs.declared.segment.Segment.{Segment}
use Rattle.image.specs.Directory.{pair_count, offset_of, part_of}

abbrev pub Shown : List ℕ → ℕ → Option Segment → Type 0
Shown bs n None = pair_count bs ≤ n
Shown bs n (Some s) = (n < pair_count bs) × (s.offset ≡ offset_of bs n) × (s.words.now ≡ part_of bs n)
