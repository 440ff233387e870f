-- What a machine is of which the promise is asked, and kinds of wrong machines.
-- A reader must believe: nothing; these show what the promise refuses. A kind says how a machine's clocks are wrong. What a
-- clock leaves behind, and what other calls do, is open wherever a kind does not name it.
use Rattle.std.specs.Prelude.{◌≡◌, ℕ, Bool, true, false, ◌==◌, List, Some, None, Ok, Err, Option}
use Rattle.refusal.specs.declared.Refusal.{Refusal}
use Rattle.machine.specs.declared.machine.Outcome.{Outcome}
use Rattle.machine.specs.declared.machine.Outcome.TheVariants.{Done, Ignored, Halted}
use Rattle.machine.specs.State.{State}
use Rattle.machine.specs.Step.{step}
use Rattle.clocked.specs.declared.control.ControlState.{ControlState}
use Rattle.clocked.specs.declared.control.ControlState.TheVariants.{Fetch0, Fetch1, Fetch2, Decode}
use Rattle.clocked.specs.declared.control.Control.TheVariants as control
use Rattle.clocked.specs.declared.tick.Answer.TheVariants.{On, Waiting, Ended}
use Rattle.clocked.specs.declared.tick.Tick.{Tick}
use Rattle.clocked.specs.Comparison.{clocks_since, begun_in}
use Rattle.clocked.specs.Control.{named}
use Rattle.clocked.specs.Processor.{axis_state}
use Rattle.clocked.specs.Promise.{Always, Answering, Running}
use Rattle.clocked.specs.Refusals.{clock_refusal}
use Rattle.clocked.specs.Runs.{Config, Call, call_of, Event, clocked, reset, drawn, set, given, Entry, events, outcome_by, outcome_of, MadeBy}

-- A machine: by a test of the entries that it makes, or by what it answers to a call at a configuration and leaves there. A
-- clause can speak of every test and of every function, and not of every relation.
pub data AnyMachine : Type 0 where
  by_test : (Entry → Bool) → AnyMachine
  by_answer : (Config → Call → Event × Config) → AnyMachine

abbrev pub Makes : AnyMachine → Entry → Type 0
Makes (by_test t) e = t e ≡ true
Makes (by_answer f) e = f e.before (call_of e.event) ≡ (e.event, e.after)

-- What is asked of an entry that comes after these entries.
abbrev pub Kind : Type 1
Kind = List Entry → Entry → Type 0

-- A machine of a kind, from a start: it answers every call, and each entry of its runs is as the kind asks.
pub record IsOf (K : Kind) (m : AnyMachine) (start : Config) : Type 0 where
  pub answers : Answering (Makes m) start
  pub each : Always (Makes m) start K

-- Of an accepted clock T holds, and of a refused one R.
abbrev pub Clocks : (Tick → Type 0) → (Refusal → Type 0) → Event → Type 0
Clocks T R (clocked (Ok t)) = T t
Clocks T R (clocked (Err x)) = R x
Clocks T R (reset r) = Unit {0}
Clocks T R (drawn r) = Unit {0}
Clocks T R (set k n w r) = Unit {0}
Clocks T R (given k r) = Unit {0}

-- Where a kind lets a clock be refused: where some refusal is due, or where the axis is halted or locked.
abbrev pub IsDue : Config → Type 0
IsDue b = clock_refusal b.processor b.card ≡ None → ⊥

abbrev pub IsStopped : Config → Type 0
IsStopped b = Running b → ⊥

-- Every call but clock does what it should.
abbrev pub OtherMade : Event → Config → Config → Type 0
OtherMade (clocked r) b a = Unit {0}
OtherMade x b a = MadeBy x b a

abbrev pub OthersMade : Kind
OthersMade es e = OtherMade e.event e.before e.after

-- Of the kind K, and no clock ends an instruction.
abbrev pub NeverEnds : Kind → Kind
NeverEnds K es e = K es e × (outcome_of e.event ≡ None)

-- A clock answered on, to a state and to what the axis shows, with the key out or in as before.
pub record GoesTo (k : ControlState) (s : State) (b : Config) (t : Tick) (a : Config) : Type 0 where
  pub on : t.answer ≡ On
  pub next : named a.processor.control ≡ k
  pub shows : axis_state a.processor a.card.map ≡ s
  pub lock : a.processor.locked ≡ b.processor.locked

-- In fetch_0 all the work of an instruction that meets no fault, nothing in fetch_1 and fetch_2, anything from decode on.
abbrev pub Works : ControlState → Config → Tick → Config → Type 0
Works Fetch0 b t a =
    (step (axis_state b.processor b.card.map)).1.fault ≡ None → GoesTo Fetch1 (step (axis_state b.processor b.card.map)).1 b t a
Works Fetch1 b t a = GoesTo Fetch2 (axis_state b.processor b.card.map) b t a
Works Fetch2 b t a = GoesTo Decode (axis_state b.processor b.card.map) b t a
Works _ b t a = Unit {0}

abbrev pub WorksIn : Event → Config → Config → Type 0
WorksIn (reset r) b a = MadeBy (reset r) b a
WorksIn x b a = Clocks (λ t. Works (named b.processor.control) b t a) (λ r. IsStopped b) x

-- Works at once and then idles in the order of the states; its resets do what they should.
abbrev pub WorksAtOnce : Kind
WorksAtOnce es e = WorksIn e.event e.before e.after

-- Answers every clock waiting.
abbrev pub WaitsUnasked : Kind
WaitsUnasked es e = Clocks (λ t. t.answer ≡ Waiting) (λ r. IsDue e.before) e.event

abbrev pub EndsUnhalted : Option Outcome → Type 0
EndsUnhalted None = ⊥
EndsUnhalted (Some Done) = Unit {0}
EndsUnhalted (Some Ignored) = Unit {0}
EndsUnhalted (Some Halted) = ⊥

abbrev pub FinishesIf : Bool → Tick → Config → Type 0
FinishesIf true t a = EndsUnhalted (outcome_by t.answer)
FinishesIf false t a = (outcome_by t.answer ≡ None) × Running a

-- Finishes each instruction, whichever it is, with the clock that comes after n others; no transfer that it begins has waits.
abbrev pub MakesUpItsCount : ℕ → Kind
MakesUpItsCount n es e =
    Clocks (λ t. FinishesIf (clocks_since (events es) == n) t e.after × (begun_in e ≡ 0)) (λ r. IsStopped e.before) e.event

abbrev pub HaltsIf : Bool → Tick → Config → Type 0
HaltsIf true t a = t.answer ≡ Ended Halted
HaltsIf false t a = (outcome_by t.answer ≡ None) × Running a × (a.card.transfer ≡ None)

-- Halts with the clock that comes after n others, which left no transfer.
abbrev pub HaltsBefore : ℕ → Kind
HaltsBefore n es e = Clocks (λ t. HaltsIf (clocks_since (events es) == n) t e.after) (λ r. IsStopped e.before) e.event

-- Never uses the card: a clock leaves the transfer, or that there is none, as it was.
abbrev pub NeverUsesTheCard : Kind
NeverUsesTheCard es e = Clocks (λ t. e.after.card.transfer ≡ e.before.card.transfer) (λ r. IsDue e.before) e.event

-- Stays in fetch_0 and answers on.
abbrev pub StaysInFetch0 : Kind
StaysInFetch0 es e = Clocks (λ t. (t.answer ≡ On) × (e.after.processor.control ≡ control.Fetch0)) (λ r. IsDue e.before) e.event

-- Refuses every clock with the refusal x.
abbrev pub RefusesEveryClock : Refusal → Kind
RefusesEveryClock x es e = Clocks (λ t. ⊥) (λ r. r ≡ x) e.event
