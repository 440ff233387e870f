-- What is asked of one entry of a run, by its event.
-- A reader must believe: each of these says what its comment says, and asks nothing of events that it does not name.
use Rattle.std.specs.Prelude.{◌≡◌, ℕ, ◌+◌, true, Some, None, Ok, Err, Option, Result}
use Rattle.refusal.specs.declared.Refusal.{Refusal}
use Rattle.machine.specs.declared.machine.Outcome.{Outcome}
use Rattle.machine.specs.declared.machine.Outcome.TheVariants.{Done, Ignored, Halted}
use Rattle.machine.specs.State.{State}
use Rattle.machine.specs.Step.{step}
use Rattle.clocked.specs.declared.tick.Tick.{Tick}
use Rattle.clocked.specs.Calls.{Accepted}
use Rattle.clocked.specs.Comparison.{clocks_due}
use Rattle.clocked.specs.Refusals.{clock_refusal, reset_refusal, draw_refusal, key_refusal, fits}
use Rattle.clocked.specs.Runs.{Config, Event, clocked, reset, drawn, set, given}

-- Agreement. Every end of an instruction is also the comparison machine's answer, which is in the state s.
abbrev pub Answers : Option Outcome → State → Type 0
Answers None s = Unit {0}
Answers (Some o) s = (step s).0 ≡ Some o

-- Timing. An accepted clock did the row of the table for the state that it answers.
abbrev pub DidRow : Option Tick → Config → Config → Type 0
DidRow None b a = Unit {0}
DidRow (Some t) b a = Accepted (Ok t) b.processor b.card a.processor a.card

-- A finished instruction took its own count and its waits: n are the clocks before its last one, w the waits with it.
abbrev pub Took : Option Outcome → State → ℕ → ℕ → Type 0
Took None s n w = Unit {0}
Took (Some Done) s n w = n + 1 ≡ clocks_due s + w
Took (Some Ignored) s n w = n + 1 ≡ clocks_due s + w
Took (Some Halted) s n w = Unit {0}

-- The refusal that a call answered, and the one that it has to answer.
abbrev pub refusal_in : {X : Type 0} → Result X Refusal → Option Refusal
refusal_in (Ok x) = None
refusal_in (Err e) = Some e

abbrev pub refusal_of : Event → Option Refusal
refusal_of (clocked r) = refusal_in r
refusal_of (reset r) = refusal_in r
refusal_of (drawn r) = refusal_in r
refusal_of (set k n w r) = refusal_in r
refusal_of (given k (Ok u)) = None
refusal_of (given k (Err e)) = Some e.refusal

abbrev pub refusal_due : Event → Config → Option Refusal
refusal_due (clocked r) b = clock_refusal b.processor b.card
refusal_due (reset r) b = reset_refusal b.processor
refusal_due (drawn r) b = draw_refusal b.processor
refusal_due (set k n w r) b = key_refusal k b.processor
refusal_due (given k r) b = key_refusal k b.processor

-- After a refusal everything is as before, and a key that was to be given back is still in hand.
abbrev pub Unchanged : Option Refusal → Config → Config → Type 0
Unchanged None b a = Unit {0}
Unchanged (Some e) b a = a ≡ b

abbrev pub KeyStays : Event → Type 0
KeyStays (clocked r) = Unit {0}
KeyStays (reset r) = Unit {0}
KeyStays (drawn r) = Unit {0}
KeyStays (set k n w r) = Unit {0}
KeyStays (given k (Ok u)) = Unit {0}
KeyStays (given k (Err e)) = e.key ≡ k

-- A key that was drawn fits the processor.
abbrev pub KeyFits : Event → Config → Type 0
KeyFits (clocked r) a = Unit {0}
KeyFits (reset r) a = Unit {0}
KeyFits (drawn (Ok k)) a = fits k a.processor ≡ true
KeyFits (drawn (Err e)) a = Unit {0}
KeyFits (set k n w r) a = Unit {0}
KeyFits (given k r) a = Unit {0}
