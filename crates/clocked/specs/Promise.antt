-- What is promised of every run of an axis, as one statement over any machine M.
-- A reader must believe: `Promise M first start` says it of all runs of M from the configuration `start`, compared with
-- the comparison machine that begins in the state `first`.
use Rattle.std.specs.Prelude.{◌≡◌, ◌+◌, ◌*◌, Bool, true, false, ◌||◌, List, [], ◌∷◌, length, is_some, None, Ok, Err, Result}
use Rattle.refusal.specs.declared.Refusal.{Refusal}
use Rattle.card.specs.Meaning.{Meaning}
use Rattle.machine.specs.declared.axis.Axis.{Axis}
use Rattle.machine.specs.State.{State, powered_up}
use Rattle.clocked.specs.declared.control.Control.TheVariants.{Fetch0}
use Rattle.clocked.specs.declared.processor.Processor.{Processor}
use Rattle.clocked.specs.ClockLaws.{KeepsClockLaws}
use Rattle.clocked.specs.Entries.{Answers, DidRow, Took, refusal_of, refusal_due, Unchanged, KeyStays, KeyFits}
use Rattle.clocked.specs.Refusals.{is_at_rest}
use Rattle.clocked.specs.Comparison.{compared, clocks_since, begun_in, waits_since, key_out, at_rest}
use Rattle.clocked.specs.Processor.{axis_state}
use Rattle.clocked.specs.Runs.{Config, Call, call_of, outcome_of, tick_of, Event, clocked, reset, drawn, set, given, Entry, events, Run, Made}

-- Agreement with the comparison machine after the entry e, which came after the entries es.
pub record Agreement (first : State) (es : List Entry) (e : Entry) : Type 0 where
  -- at a boundary or a halt, the axis shows what the comparison machine has
  pub shows : is_at_rest e.after.processor ≡ true →
      axis_state e.after.processor e.after.card.map ≡ compared first (events (e ∷ es))
  pub answers : Answers (outcome_of e.event) (compared first (events es))
  -- halted exactly while the comparison machine has a fault
  pub halted : is_some e.after.processor.fault ≡ is_some (compared first (events (e ∷ es))).fault

-- Timing: a finished instruction took its own count and its waits, and an accepted clock did its state's row.
abbrev pub Counted : State → List Entry → Entry → Type 0
Counted first es e = Took (outcome_of e.event) (compared first (events es)) (clocks_since (events es)) (waits_since es + begun_in e)

pub record Timing (first : State) (es : List Entry) (e : Entry) : Type 0 where
  pub row : DidRow (tick_of e.event) e.before e.after
  pub counted : Counted first es e

-- A call is refused exactly when it is due, and then changes nothing.
pub record Refusing (es : List Entry) (e : Entry) : Type 0 where
  pub refused : refusal_of e.event ≡ refusal_due e.event e.before
  pub unchanged : Unchanged (refusal_of e.event) e.before e.after

-- The key: a drawn one fits, one that is not taken stays with the caller, and the axis is locked exactly while it is out.
pub record Keyed (es : List Entry) (e : Entry) : Type 0 where
  pub key_fits : KeyFits e.event e.after
  pub stays : KeyStays e.event
  pub locked : e.after.processor.locked ≡ key_out (events (e ∷ es))

-- The axis is at rest exactly when its calls tell so, and the patience is that of the start.
pub record Resting (start : Config) (es : List Entry) (e : Entry) : Type 0 where
  pub rests : is_at_rest e.after.processor ≡ at_rest (events (e ∷ es))
  pub patience : e.after.card.patience ≡ start.card.patience

-- An accepted clock keeps the laws of a clock, by the instruction that the comparison machine does next.
abbrev pub LawfulClock : State → List Entry → Entry → Type 0
LawfulClock first es e = KeepsClockLaws (tick_of e.event) (compared first (events es)) e.before e.after

-- What holds of every entry of every run of M from the configuration `start`, with the entries before it.
abbrev pub Always : (Entry → Type 0) → Config → (List Entry → Entry → Type 0) → Type 0
Always M start P = (e : Entry) (es : List Entry) → Run M start (e ∷ es) e.after → P es e

-- The axis runs: it is neither halted nor locked.
pub record Running (c : Config) : Type 0 where
  pub unhalted : c.processor.fault ≡ None
  pub unlocked : c.processor.locked ≡ false

abbrev pub AreClocks : List Event → Type 0
AreClocks [] = Unit {0}
AreClocks (clocked r ∷ es) = AreClocks es
AreClocks (reset r ∷ es) = ⊥
AreClocks (drawn r ∷ es) = ⊥
AreClocks (set k n w r ∷ es) = ⊥
AreClocks (given k r ∷ es) = ⊥

-- Whether one of these calls ended an instruction: it answered done, ignored or halted.
abbrev pub some_ends : List Event → Bool
some_ends [] = false
some_ends (e ∷ es) = is_some (outcome_of e) || some_ends es

-- The start: a boundary, the key in, no transfer in being, and what the comparison machine starts with.
pub record Starts (first : State) (start : Config) : Type 0 where
  pub boundary : start.processor.control ≡ Fetch0
  pub running : Running start
  pub idle : start.card.transfer ≡ None
  pub agrees : axis_state start.processor start.card.map ≡ first

-- Wherever the axis runs and the next 10 + 3 × patience calls are clocks, one of them ends an instruction.
abbrev pub Progress : (Entry → Type 0) → Config → Type 0
Progress M start = (c : Config) (es : List Entry) → Run M start es c → Running c →
    (d : Config) (fs : List Entry) → Run M c fs d → AreClocks (events fs) →
    length fs ≡ 10 + 3 * c.card.patience → some_ends (events fs) ≡ true

-- An entry of M that the call x makes at the configuration c.
pub record Answered (M : Entry → Type 0) (c : Config) (x : Call) : Type 0 where
  pub entry : Entry
  pub made : M entry
  pub here : entry.before ≡ c
  pub of_call : call_of entry.event ≡ x

-- Every run goes on with whatever call: what is promised of all runs is promised of some.
abbrev pub Answering : (Entry → Type 0) → Config → Type 0
Answering M start = (c : Config) (es : List Entry) → Run M start es c → (x : Call) → Answered M c x

pub record Promise (M : Entry → Type 0) (first : State) (start : Config) : Type 0 where
  pub starts : Starts first start
  pub agreement : Always M start (Agreement first)
  pub timing : Always M start (Timing first)
  pub refusing : Always M start Refusing
  pub keyed : Always M start Keyed
  pub resting : Always M start (Resting start)
  pub lawful : Always M start (LawfulClock first)
  pub progress : Progress M start
  pub answering : Answering M start

-- Of power-up with the axis a on the card c: the processor and the card that it hands back keep the promise, compared with
-- the instruction machine's state at power-up.
abbrev pub Promised : Result Axis Refusal → Meaning → Result Processor Refusal → Meaning → Type 0
Promised (Ok a) c (Ok p) d = Promise Made (powered_up a c.map) (record { processor = p; card = d })
Promised (Ok a) c (Err e) d = Unit {0}
Promised (Err e) c r d = Unit {0}
