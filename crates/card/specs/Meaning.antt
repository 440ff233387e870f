-- The meaning of a card, in three parts, and what each call of a card does to it.
-- A reader must believe: these relations are what a card promises, and nothing else changes a card's meaning.
-- Each relation takes the meaning before, the arguments, the answer, and the meaning after.
use Rattle.std.specs.Prelude.{◌≡◌, ℕ, zero, suc, ◌≤◌, Some, None, Ok, Err, Option, Result}
use Rattle.refusal.specs.declared.Refusal.{Refusal}
use Rattle.refusal.specs.declared.Refusal.TheVariants as refused
use Rattle.card.specs.declared.cell.Cell.{Cell}
use Rattle.card.specs.declared.cell.Cell.TheVariants.{Absent, Fixed, Open}
use Rattle.card.specs.declared.transfer.Request.{Request}
use Rattle.card.specs.declared.transfer.Transfer.{Transfer}
use Rattle.card.specs.Cells.{Map}
use Rattle.card.specs.Ends.{End, end_of, leaves, stored}

pub record Meaning : Type 0 where
  pub map : Map
  pub transfer : Option Transfer
  pub patience : ℕ

-- The same card without a transfer.
abbrev pub idle : Meaning → Meaning
idle m = record m { transfer = None }

-- The same card with another map.
abbrev pub mapped : Map → Meaning → Meaning
mapped f m = record m { map = f }

-- The same card with the request q in being and w waits left.
abbrev pub waiting : Request → ℕ → Meaning → Meaning
waiting q w m = record m { transfer = Some (record { request = q; waits = w }) }

-- The card after a request was carried out: its effect on the map, and no transfer.
abbrev pub finished : Request → Meaning → Meaning
finished q m = record m { map = leaves q m.map; transfer = None }

abbrev pub Refuses : {X : Type 0} → Refusal → Result X Refusal → Meaning → Meaning → Type 0
Refuses e r m n = (r ≡ Err e) × (n ≡ m)

-- Place: stores a word in an open cell; refused elsewhere.
abbrev pub PlacedAt : Cell → Meaning → ℕ → ℕ → Result (Unit {0}) Refusal → Meaning → Type 0
PlacedAt (Absent o) m a w r n = Refuses refused.NotOpen r m n
PlacedAt (Fixed v o) m a w r n = Refuses refused.NotOpen r m n
PlacedAt (Open v) m a w r n = (r ≡ Ok tt) × (n ≡ mapped (stored m.map a w) m)

abbrev pub Placed : Meaning → ℕ → ℕ → Result (Unit {0}) Refusal → Meaning → Type 0
Placed m a w r n = PlacedAt (m.map a) m a w r n

-- Begin: w are the waits that the card chooses, within its patience.
abbrev pub BegunFrom : Option Transfer → ℕ → Meaning → Request → Result ℕ Refusal → Meaning → Type 0
BegunFrom None w m q r n = (r ≡ Ok w) × (n ≡ waiting q w m) × (w ≤ m.patience)
BegunFrom (Some t) w m q r n = Refuses refused.Transfer r m n

abbrev pub Begun : ℕ → Meaning → Request → Result ℕ Refusal → Meaning → Type 0
Begun w m q r n = BegunFrom m.transfer w m q r n

-- Poll: one wait less and no end while there are waits left, else the end of the transfer.
abbrev pub PolledAt : ℕ → Request → Meaning → Result (Option End) Refusal → Meaning → Type 0
PolledAt zero q m r n = (r ≡ Ok (Some (end_of q.direction (m.map q.address)))) × (n ≡ finished q m)
PolledAt (suc w) q m r n = (r ≡ Ok None) × (n ≡ waiting q w m)

abbrev pub PolledFrom : Option Transfer → Meaning → Result (Option End) Refusal → Meaning → Type 0
PolledFrom None m r n = Refuses refused.Transfer r m n
PolledFrom (Some t) m r n = PolledAt t.waits t.request m r n

abbrev pub Polled : Meaning → Result (Option End) Refusal → Meaning → Type 0
Polled m r n = PolledFrom m.transfer m r n
