-- The meaning of the two bottom cards, which lie over lent words.
-- A reader must believe: address n has a cell if word n is there and n is below 65,536, and is absent otherwise, with
-- the card itself as origin. The word card's cells are open, the boot card's fixed. No transfer has a wait, which is an invariant of
-- the card's type.
use Rattle.std.specs.Prelude.{◌≡◌, ℕ, Bool, ◌&&◌, List, length, drop, Some, None, Option, nat_lt, slice_index, slice_set, if◌then◌else◌}
use Rattle.std.specs.Borrow.{GName, MutBor}
use Rattle.card.specs.declared.cell.Cell.TheVariants.{Absent, Fixed, Open}
use Rattle.card.specs.declared.transfer.Direction.{Direction}
use Rattle.card.specs.declared.transfer.Direction.TheVariants.{Read, Write}
use Rattle.card.specs.declared.transfer.Transfer.{Transfer}
use Rattle.card.specs.Cells.{here, Map}
use Rattle.card.specs.Meaning.{Meaning}

-- Whether so many words have one for the address a.
abbrev pub addressed : ℕ → ℕ → Bool
addressed count a = nat_lt a count && nat_lt a 65536

abbrev pub has : List ℕ → ℕ → Bool
has ws a = addressed (length ws) a

-- The word that so many words have at the address a.
abbrev pub word_at : List ℕ → ℕ → Option ℕ
word_at ws a = if has ws a then Some (slice_index ws a) else None

abbrev pub open_cells : List ℕ → Map
open_cells ws a = if has ws a then Open (slice_index ws a) else Absent (here a)

abbrev pub fixed_cells : List ℕ → Map
fixed_cells ws a = if has ws a then Fixed (slice_index ws a) (here a) else Absent (here a)

-- A card over these cells, with a transfer in being or none.
abbrev pub bottom : Map → Option Transfer → Meaning
bottom f t = record { map = f; transfer = t; patience = 0 }

-- How many waits the transfer in being, if any, has left.
abbrev pub waits_left : Option Transfer → ℕ
waits_left None = 0
waits_left (Some t) = t.waits

-- The words after w was stored at the address a, where they have one for it.
abbrev pub written : List ℕ → ℕ → ℕ → List ℕ
written ws a w = if has ws a then slice_set ws a w else ws

-- A loan that is the same afterwards, and leaves these words.
pub record Keeps (before after : MutBor (List ℕ)) (words : List ℕ) : Type 0 where
  pub lender : after.ghost_name ≡ before.ghost_name
  pub holds : after.now ≡ words

-- Words that are lent for writing, after w was stored at the address a.
abbrev pub Written : MutBor (List ℕ) → ℕ → ℕ → MutBor (List ℕ) → Type 0
Written before a w after = Keeps before after (written before.now a w)

-- A memory after a request was carried out, by what storing a word leaves of it.
abbrev pub AfterRequest : {X : Type 0} → (X → ℕ → ℕ → X → Type 0) → Direction → ℕ → X → X → Type 0
AfterRequest Rewritten Read a before after = after ≡ before
AfterRequest Rewritten (Write w) a before after = Rewritten before a w after

-- A memory after a poll, which ends the transfer in being, if any.
abbrev pub After : {X : Type 0} → (X → ℕ → ℕ → X → Type 0) → Option Transfer → X → X → Type 0
After Rewritten None before after = after ≡ before
After Rewritten (Some t) before after = AfterRequest Rewritten t.request.direction t.request.address before after

-- The words that have no address, whatever their number. Not unfolded by the search for proofs, which would count to 65,536.
unfoldable pub beyond : List ℕ → List ℕ
beyond ws = drop 65536 ws

-- What no call of a card changes of words that are lent for writing: the loan, and the words that have no address.
pub record Loan : Type 0 where
  pub lender : GName
  pub rest : List ℕ

abbrev pub loan_of : MutBor (List ℕ) → Loan
loan_of m = record { lender = m.ghost_name; rest = beyond m.now }
