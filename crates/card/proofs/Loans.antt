-- A store leaves the words that have no address.
use Rattle.std.proofs.Common.{◌≡◌, ℕ, ◌<◌, List, slice_set}
use Rattle.std.proofs.lemmas.List.{drop-set-lt}
use Rattle.card.specs.Bottom.{beyond}

pub beyond_kept : (words : List ℕ) (a w : ℕ) → a < 65536 → beyond (slice_set words a w) ≡ beyond words
unfolding beyond
beyond_kept words a w low = drop-set-lt 65536 words a w low
