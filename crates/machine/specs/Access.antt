-- One whole transfer, from its begin to its end, with all of its waits. Used by private functions only.
-- A reader must believe: nothing; it follows from the calls of a card.
use Rattle.std.specs.Prelude.{◌≡◌, ℕ, Some, None, Ok, Option, Result}
use Rattle.refusal.specs.declared.Refusal.{Refusal}
use Rattle.refusal.specs.declared.Refusal.TheVariants as refused
use Rattle.card.specs.declared.transfer.Direction.TheVariants.{Read}
use Rattle.card.specs.declared.transfer.Request.{Request}
use Rattle.card.specs.declared.transfer.Transfer.{Transfer}
use Rattle.card.specs.Ends.{End, end_of}
use Rattle.std.specs.Borrow.{MutBor}
use Rattle.card.specs.Meaning.{Meaning, Refuses, finished}

abbrev pub CompletedFrom : Option Transfer → Meaning → Request → Result End Refusal → Meaning → Type 0
CompletedFrom None m q r n = (r ≡ Ok (end_of q.direction (m.map q.address))) × (n ≡ finished q m)
CompletedFrom (Some t) m q r n = Refuses refused.Transfer r m n

abbrev pub Completed : Meaning → Request → Result End Refusal → Meaning → Type 0
Completed m q r n = CompletedFrom m.transfer m q r n

-- The same by a card that is lent without a transfer: it ends, and the loan is the same afterwards.
pub record Accesses {X : Type 0} (meaning : X → Meaning) (q : Request) (c : MutBor X) (r : End) (d : MutBor X) : Type 0 where
  pub end : r ≡ end_of q.direction ((meaning c.now).map q.address)
  pub after : meaning d.now ≡ finished q (meaning c.now)
  pub lender : d.ghost_name ≡ c.ghost_name

-- Reading changes nothing.
pub record Reads {X : Type 0} (meaning : X → Meaning) (a : ℕ) (c : MutBor X) (r : End) (d : MutBor X) : Type 0 where
  pub end : r ≡ end_of Read ((meaning c.now).map a)
  pub same : meaning d.now ≡ meaning c.now
  pub lender : d.ghost_name ≡ c.ghost_name
