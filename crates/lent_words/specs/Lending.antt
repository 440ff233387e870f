-- An axis that runs on layers over a lent card, and what the card is once the layers are gone.
-- A reader must believe: `Ran` says that so many clocks, up to the first that is refused, lead from power-up on the layers over the
-- card as it was to the processor that is answered, and that the card's cells are then, seen through the layers, the memory of that run.
use Rattle.std.specs.Prelude.{◌≡◌, ℕ, ◌+◌, true, false, List, None, Result, is_err}
use Rattle.refusal.specs.declared.Refusal.{Refusal}
use Rattle.card.specs.Bottom.{open_cells, bottom}
use Rattle.card.specs.declared.transfer.Request.{Request}
use Rattle.card.specs.Meaning.{Meaning}
use Rattle.layer.specs.declared.kind.Kind.{Kind}
use Rattle.layer.specs.declared.kind.Kind.TheVariants.{Offset, Slow}
use Rattle.layer.specs.Shown.{layered}
use Rattle.layer.specs.Waits.{waits_of}
use Rattle.machine.specs.declared.axis.Axis.{Axis}
use Rattle.clocked.specs.declared.processor.Processor.{Processor}
use Rattle.clocked.specs.Calls.{Chosen}
use Rattle.clocked.specs.Processor.{fresh}
use Rattle.clocked.specs.Table.{row_of}
use Rattle.clocked.specs.declared.tick.Tick.{Tick}
use Rattle.clocked.specs.Runs.{Config, config, clocked, MadeBy}

-- A card of the meaning m under a new layer; under an offset and a slow layer; and words as a card.
abbrev pub under : Kind → Meaning → Meaning
under k m = layered k m None

abbrev pub under_both : ℕ → ℕ → Meaning → Meaning
under_both base waits m = under (Slow waits) (under (Offset base) m)

abbrev pub lent : List ℕ → Meaning
lent words = bottom (open_cells words) None

-- So many clocks, up to the first that is refused, lead from one configuration to another; each transfer that is begun has the waits
-- that `choice` gives its request.
pub data ClocksTo (choice : Request → ℕ) : ℕ → Config → Config → Type 0 where
  none : (a : Config) → ClocksTo choice 0 a a
  accepted : (n : ℕ) (a b c : Config) (r : Result Tick Refusal) → is_err r ≡ false → MadeBy (clocked r) a b →
      Chosen choice (row_of a.processor.control a.processor) a.card.transfer b.card.transfer → ClocksTo choice n b c →
      ClocksTo choice (n + 1) a c
  refused : (n : ℕ) (a b : Config) (r : Result Tick Refusal) → is_err r ≡ true → MadeBy (clocked r) a b → ClocksTo choice (n + 1) a b

-- The waits of transfers under both layers, by those that the card of the meaning m chooses.
abbrev pub waits_under_both : ℕ → ℕ → Meaning → (Request → ℕ) → Request → ℕ
waits_under_both base waits m choice = waits_of (Slow waits) (under (Offset base) m) (waits_of (Offset base) m choice)

-- Every card with the frame of this one chooses the same waits, and has the same patience.
pub record Steady {X F : Type 0} (frame : X → F) (choice : X → Request → ℕ) (meaning : X → Meaning) (card : X) : Type 0 where
  pub waits : (x : X) → frame x ≡ frame card → (q : Request) → choice x q ≡ choice card q
  pub patience : (x : X) → frame x ≡ frame card → (meaning x).patience ≡ (meaning card).patience

-- The axis a, powered up on the layers, a function of the card below, was given so many clocks and is the processor p then.
pub record Ran (a : Axis) (clocks : ℕ) (layers : Meaning → Meaning) (choice : Request → ℕ) (before : Meaning) (p : Processor) (after : Meaning) : Type 0 where
  pub last : Meaning
  pub run : ClocksTo choice clocks (config (fresh a) (layers before)) (config p last)
  pub cells : last.map ≡ (layers after).map
