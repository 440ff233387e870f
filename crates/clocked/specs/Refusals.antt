-- When a call is refused, and by which refusal.
-- A reader must believe: these conditions, and their order.
use Rattle.std.specs.Prelude.{Bool, true, false, not, ◌&&◌, is_none, Some, None, Option, ◌==◌, if◌then◌else◌}
use Rattle.refusal.specs.declared.Refusal.{Refusal}
use Rattle.refusal.specs.declared.Refusal.TheVariants as refused
use Rattle.card.specs.declared.transfer.Transfer.{Transfer}
use Rattle.card.specs.Meaning.{Meaning}
use Rattle.machine.specs.declared.fault.Fault.{Fault}
use Rattle.machine.specs.Axes.{axis_number}
use Rattle.clocked.specs.declared.control.Control.{Control}
use Rattle.clocked.specs.declared.control.Control.TheVariants.{Fetch0, Fetch1, Fetch2, Decode, DispFetch0, DispFetch1, DispFetch2, Execute0, Execute1, Execute2}
use Rattle.clocked.specs.declared.key.Key.{Key}
use Rattle.clocked.specs.declared.processor.Processor.{Processor}
use Rattle.clocked.specs.Table.{Row, moves, begins, polls, asks, row_of}

-- A refusal for the key that is out, and one for a halt, before the others.
abbrev pub when_locked : Bool → Option Refusal → Option Refusal
when_locked true e = Some refused.KeyOut
when_locked false e = e

abbrev pub when_halted : Option Fault → Option Refusal → Option Refusal
when_halted (Some f) e = Some refused.Halted
when_halted None e = e

-- A transfer in being where one begins, or none where one is polled.
abbrev pub when_transfer : Row → Option Transfer → Option Refusal
when_transfer (moves m) t = None
when_transfer (begins b q) None = None
when_transfer (begins b q) (Some t) = Some refused.Transfer
when_transfer (polls take s a) None = Some refused.Transfer
when_transfer (polls take s a) (Some t) = None

abbrev pub clock_refusal : Processor → Meaning → Option Refusal
clock_refusal p c = when_locked p.locked (when_halted p.fault (when_transfer (row_of p.control p) c.transfer))

-- Whether a clock asks something of the card: the key is in, there is no halt, and its row begins or polls.
abbrev pub asks_card : Processor → Bool
asks_card p = not p.locked && is_none p.fault && asks (row_of p.control p)

abbrev pub reset_refusal : Processor → Option Refusal
reset_refusal p = when_locked p.locked None

-- At rest: at the boundary, which is fetch_0 without a fault, or halted.
abbrev pub is_fetch0 : Control → Bool
is_fetch0 Fetch0 = true
is_fetch0 Fetch1 = false
is_fetch0 Fetch2 = false
is_fetch0 (Decode i) = false
is_fetch0 (DispFetch0 i) = false
is_fetch0 (DispFetch1 i) = false
is_fetch0 (DispFetch2 i) = false
is_fetch0 (Execute0 i d) = false
is_fetch0 (Execute1 a) = false
is_fetch0 (Execute2 a) = false

abbrev pub rests_at : Option Fault → Control → Bool
rests_at (Some f) k = true
rests_at None k = is_fetch0 k

abbrev pub is_at_rest : Processor → Bool
is_at_rest p = rests_at p.fault p.control

abbrev pub draw_refusal : Processor → Option Refusal
draw_refusal p = when_locked p.locked (if is_at_rest p then None else Some refused.NoBoundary)

-- A key fits exactly if the axis is equal and the key is out.
abbrev pub fits : Key → Processor → Bool
fits k p = k.axis == axis_number p.axis && p.locked

abbrev pub key_refusal : Key → Processor → Option Refusal
key_refusal k p = if fits k p then None else Some refused.Misfit
