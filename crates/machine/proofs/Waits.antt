-- A card with one transfer in being, and otherwise as it was.
use Rattle.std.proofs.Common.{◌≡◌, ℕ, Some, None, Option}
use Rattle.card.specs.declared.transfer.Request.{Request}
use Rattle.card.specs.declared.transfer.Transfer.{Transfer}
use Rattle.card.specs.Meaning.{Meaning}

abbrev pub waits_left : Option Transfer → ℕ
waits_left None = 0
waits_left (Some t) = t.waits

abbrev pub Asks : Option Transfer → Request → Type 0
Asks None q = ⊥
Asks (Some t) q = t.request ≡ q

abbrev pub SameRequest : Option Transfer → Option Transfer → Type 0
SameRequest None t = ⊥
SameRequest (Some s) t = Asks t s.request

pub record Pending (m n : Meaning) : Type 0 where
  pub map : n.map ≡ m.map
  pub patience : n.patience ≡ m.patience
  pub asked : SameRequest m.transfer n.transfer
