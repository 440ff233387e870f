-- What the private functions of a clock promise: the card's answer in a state that polls, and the row of a state.
-- A reader must believe: nothing; no public contract cites this.
use Rattle.std.specs.Prelude.{◌≡◌, Bool, true, false, None, Ok, Option, Result, IsOkAnd}
use Rattle.refusal.specs.declared.Refusal.{Refusal}
use Rattle.refusal.specs.Unless.{UnlessRefused}
use Rattle.card.specs.Ends.{End}
use Rattle.card.specs.Meaning.{Meaning, Polled}
use Rattle.clocked.specs.declared.processor.Processor.{Processor}
use Rattle.clocked.specs.declared.tick.Answer.{Answer}
use Rattle.clocked.specs.Calls.{Did}
use Rattle.clocked.specs.Refusals.{when_transfer}
use Rattle.clocked.specs.Table.{Row, moves, begins, polls, row_of}

abbrev pub NotAsked : Meaning → Result (Option End) Refusal → Meaning → Type 0
NotAsked c r d = (r ≡ Ok None) × (d ≡ c)

abbrev pub PolledFor : Row → Meaning → Result (Option End) Refusal → Meaning → Type 0
PolledFor (moves m) c r d = NotAsked c r d
PolledFor (begins b q) c r d = NotAsked c r d
PolledFor (polls take s a) c r d = Polled c r d

abbrev pub is_poll : Row → Bool
is_poll (moves m) = false
is_poll (begins b q) = false
is_poll (polls take s a) = true

-- The row of the processor's state, or a refusal for the transfer.
abbrev pub Advanced : Processor → Meaning → Result Answer Refusal → Processor → Meaning → Type 0
Advanced p c r q d =
    UnlessRefused (when_transfer (row_of p.control p) c.transfer) r ((q ≡ p) × (d ≡ c))
    (IsOkAnd r (λ t. Did (row_of p.control p) p c t q d))
