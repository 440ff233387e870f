-- What each call does to a processor and its card.
-- A reader must believe: a refused call answers its refusal and changes nothing.
use Rattle.std.specs.Prelude.{◌≡◌, ℕ, zero, suc, ◌≤◌, true, false, Some, None, Ok, Err, Option, Result, IsOkAnd}
use Rattle.std.specs.Option.{option_map}
use Rattle.refusal.specs.declared.Refusal.{Refusal}
use Rattle.refusal.specs.Unless.{UnlessRefused}
use Rattle.card.specs.declared.transfer.Request.{Request}
use Rattle.card.specs.declared.transfer.Transfer.{Transfer}
use Rattle.card.specs.Ends.{End, end_of}
use Rattle.card.specs.Meaning.{Meaning, idle, waiting, finished}
use Rattle.machine.specs.declared.axis.Axis.{Axis}
use Rattle.machine.specs.declared.fault.Stage.{Stage}
use Rattle.machine.specs.declared.machine.Outcome.TheVariants.{Halted}
use Rattle.machine.specs.Axes.{axis_of, axis_number}
use Rattle.clocked.specs.declared.key.Key.{Key}
use Rattle.clocked.specs.declared.key.NotTaken.{NotTaken}
use Rattle.clocked.specs.declared.processor.Processor.{Processor}
use Rattle.clocked.specs.declared.tick.Answer.{Answer}
use Rattle.clocked.specs.declared.tick.Answer.TheVariants.{On, Waiting, Ended}
use Rattle.clocked.specs.declared.tick.Tick.{Tick}
use Rattle.clocked.specs.Control.{named}
use Rattle.clocked.specs.Changes.{written_back, halting, restarting, locking, setting}
use Rattle.clocked.specs.Processor.{fresh}
use Rattle.clocked.specs.Refusals.{clock_refusal, reset_refusal, draw_refusal, key_refusal}
use Rattle.clocked.specs.Table.{Move, Row, moves, begins, polls, row_of}

-- Power-up: refused unless the axis is 1, 2 or 3.
abbrev pub PoweredAs : Result Axis Refusal → Meaning → Result Processor Refusal → Meaning → Type 0
PoweredAs (Ok a) c r d = (r ≡ Ok (fresh a)) × (d ≡ idle c)
PoweredAs (Err e) c r d = (r ≡ Err e) × (d ≡ c)

abbrev pub PoweredUp : ℕ → Meaning → Result Processor Refusal → Meaning → Type 0
PoweredUp axis c r d = PoweredAs (axis_of axis) c r d

-- The waits that are left of a transfer, if any.
abbrev pub waits_left : Option Transfer → ℕ
waits_left None = 0
waits_left (Some t) = t.waits

-- The card begins a transfer; how long it waits is its choice.
abbrev pub Begins : Request → Meaning → Meaning → Type 0
Begins b c d = (d ≡ waiting b (waits_left d.transfer) c) × (waits_left d.transfer ≤ c.patience)

-- A transfer that a row begins has the waits that the card chooses for it.
abbrev pub Chosen : (Request → ℕ) → Row → Option Transfer → Option Transfer → Type 0
Chosen choice (moves m) x y = Unit {0}
Chosen choice (begins b n) None y = waits_left y ≡ choice b
Chosen choice (begins b n) (Some t) y = Unit {0}
Chosen choice (polls take s a) x y = Unit {0}

-- The end of a polled transfer: its word, or a fault.
abbrev pub Ends : End → (ℕ → Move) → Stage → ℕ → Processor → Answer → Processor → Type 0
Ends (Ok w) take s a p t q = (t ≡ (take w).0) × (q ≡ (take w).1)
Ends (Err why) take s a p t q = (t ≡ Ended Halted) × (q ≡ halting s a why p)

-- A poll with so many waits left: waiting leaves the processor as it is.
abbrev pub Polls : ℕ → Request → (ℕ → Move) → Stage → ℕ → Processor → Meaning → Answer → Processor → Meaning → Type 0
Polls zero b take s a p c t q d = Ends (end_of b.direction (c.map b.address)) take s a p t q × (d ≡ finished b c)
Polls (suc w) b take s a p c t q d = (t ≡ Waiting) × (q ≡ p) × (d ≡ waiting b w c)

abbrev pub PollsFrom : Option Transfer → (ℕ → Move) → Stage → ℕ → Processor → Meaning → Answer → Processor → Meaning → Type 0
PollsFrom None take s a p c t q d = ⊥
PollsFrom (Some x) take s a p c t q d = Polls x.waits x.request take s a p c t q d

-- The processor p on the card c did a row of the table, answered t, and is q on the card d afterwards.
abbrev pub Did : Row → Processor → Meaning → Answer → Processor → Meaning → Type 0
Did (moves m) p c t q d = (t ≡ m.0) × (q ≡ m.1) × (d ≡ c)
Did (begins b n) p c t q d = (t ≡ On) × (q ≡ n) × Begins b c d
Did (polls take s a) p c t q d = PollsFrom c.transfer take s a p c t q d

-- An accepted clock answers the state that it was in, and does that state's row.
abbrev pub Accepted : Result Tick Refusal → Processor → Meaning → Processor → Meaning → Type 0
Accepted r p c q d = IsOkAnd r (λ t. (t.state ≡ named p.control) × Did (row_of p.control p) p c t.answer q d)

abbrev pub Clocked : Processor → Meaning → Result Tick Refusal → Processor → Meaning → Type 0
Clocked p c r q d = UnlessRefused (clock_refusal p c) r ((q ≡ p) × (d ≡ c)) (Accepted r p c q d)

-- Reset stores a pending result, cancels the transfer, sets PC to 0, ends a halt and leads to the boundary.
abbrev pub Reset : Processor → Meaning → Result (Unit {0}) Refusal → Processor → Meaning → Type 0
Reset p c r q d =
    UnlessRefused (reset_refusal p) r ((q ≡ p) × (d ≡ c))
    ((r ≡ Ok tt) × (q ≡ restarting (written_back p)) × (d ≡ idle c))

-- Draw stores a pending result, and its key bears the axis.
abbrev pub Drawn : Processor → Result Key Refusal → Processor → Type 0
Drawn p r q =
    UnlessRefused (draw_refusal p) r (q ≡ p)
    ((r ≡ Ok (record { axis = axis_number p.axis })) × (q ≡ locking true (written_back p)))

abbrev pub Set : Processor → Key → ℕ → ℕ → Result (Unit {0}) Refusal → Processor → Type 0
Set p k n w r q = UnlessRefused (key_refusal k p) r (q ≡ p) ((r ≡ Ok tt) × (q ≡ setting n w p))

-- A refused give back answers the key itself.
abbrev pub not_taken : Key → Refusal → NotTaken
not_taken k e = record { key = k; refusal = e }

abbrev pub Given : Processor → Key → Result (Unit {0}) NotTaken → Processor → Type 0
Given p k r q =
    UnlessRefused (option_map (not_taken k) (key_refusal k p)) r (q ≡ p) ((r ≡ Ok tt) × (q ≡ locking false p))
