-- A buffer whose front is written over.
-- A reader must believe that `Begins text before after` says: `text` stands over the front of what the buffer held before,
-- and the rest of the buffer is as it was.
use Rattle.std.specs.Prelude.{◌≡◌, ℕ, List, ◌++◌, length, drop}
use Rattle.std.specs.Borrow.{Bor}
use Rattle.std.specs.List.{flat_map}

abbrev pub Begins : List ℕ → List ℕ → List ℕ → Type 0
Begins text before after = after ≡ text ++ drop (length text) before

-- lent texts, one after the other
abbrev pub joined : List (Bor (List ℕ)) → List ℕ
joined parts = flat_map (λ part. part.now) parts
