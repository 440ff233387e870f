-- That every machine of the wrong kinds breaks the promise, and which parts of it.
-- A reader must believe: nothing; this is shown of the definition of the promise.
use Rattle.std.specs.Prelude.{◌≡◌, ℕ, ◌+◌, Some, None, Option}
use Rattle.refusal.specs.declared.Refusal.{Refusal}
use Rattle.card.specs.declared.transfer.Transfer.{Transfer}
use Rattle.machine.specs.declared.machine.Outcome.TheVariants.{Done, Ignored, Halted}
use Rattle.machine.specs.State.{State, restarted}
use Rattle.machine.specs.Step.{step}
use Rattle.clocked.specs.declared.control.ControlState.TheVariants.{Decode}
use Rattle.clocked.specs.declared.tick.Answer.{Answer}
use Rattle.clocked.specs.declared.tick.Answer.TheVariants.{On, Waiting, Ended}
use Rattle.clocked.specs.Comparison.{clocks_due}
use Rattle.clocked.specs.Control.{named}
use Rattle.clocked.specs.Promise.{Agreement, Timing, Counted, Refusing, Always, Starts, Progress}
use Rattle.clocked.specs.Runs.{Config, call_of, to_reset, Entry}
use Rattle.clocked.specs.WrongMachines.{AnyMachine, Makes, Kind, Clocks, IsOf, OthersMade, NeverEnds, WorksAtOnce, WaitsUnasked, MakesUpItsCount, HaltsBefore, NeverUsesTheCard, StaysInFetch0, RefusesEveryClock}

-- A part of the promise, of a machine that starts at a configuration, compared from a state on.
abbrev pub Part : Type 1
Part = (Entry → Type 0) → State → Config → Type 0

abbrev pub Agrees : Part
Agrees M first start = Always M start (Agreement first)

abbrev pub IsInTime : Part
IsInTime M first start = Always M start (Timing first)

abbrev pub IsCounted : Part
IsCounted M first start = Always M start (Counted first)

abbrev pub IsRefusing : Part
IsRefusing M first start = Always M start Refusing

abbrev pub Progresses : Part
Progresses M first start = Progress M start

-- Agreement at resets in decode alone.
pub record IsResetInDecode (e : Entry) : Type 0 where
  pub of_call : call_of e.event ≡ to_reset
  pub state : named e.before.processor.control ≡ Decode

abbrev pub AgreesInDecode : Part
AgreesInDecode M first start = Always M start (λ es e. IsResetInDecode e → Agreement first es e)

-- The part P fails of every machine of the kind K, wherever it starts in a state of which S holds.
abbrev pub FailsFrom : (State → Type 0) → Kind → Part → Type 0
FailsFrom S K P = (m : AnyMachine) (first : State) (start : Config) → Starts first start → S first → IsOf K m start → P (Makes m) first start → ⊥

abbrev pub Fails : Kind → Part → Type 0
Fails K P = FailsFrom (λ s. Unit {0}) K P

-- A clock answers waiting, or halted, only where a transfer is in being.
abbrev pub IsAsked : Answer → Option Transfer → Type 0
IsAsked On x = Unit {0}
IsAsked Waiting x = x ≡ None → ⊥
IsAsked (Ended Done) x = Unit {0}
IsAsked (Ended Ignored) x = Unit {0}
IsAsked (Ended Halted) x = x ≡ None → ⊥

abbrev pub Asks : Kind
Asks es e = Clocks (λ t. IsAsked t.answer e.before.card.transfer) (λ r. Unit {0}) e.event

-- The first instruction meets no fault and changes more than PC.
pub record ChangesMore (s : State) : Type 0 where
  pub unhalted : (step s).1.fault ≡ None
  pub more : restarted (step s).1 ≡ restarted s → ⊥

-- The first instruction does not halt; it does not take n clocks.
abbrev pub DoesNotHalt : State → Type 0
DoesNotHalt s = (step s).0 ≡ Some Halted → ⊥

abbrev pub TakesOther : ℕ → State → Type 0
TakesOther n s = clocks_due s ≡ n → ⊥

-- An axis starts in a state of which S holds.
pub record StartsIn (S : State → Type 0) : Type 0 where
  pub first : State
  pub start : Config
  pub starts : Starts first start
  pub holds : S first

-- A machine is of the kind wherever it starts, and its calls other than clocks are as they should be.
pub record Exists (K : Kind) : Type 0 where
  pub machine : AnyMachine
  pub is : (first : State) (start : Config) → Starts first start → IsOf K machine start
  pub others : (start : Config) → IsOf OthersMade machine start

-- There are such starts, and machines of each kind.
pub record Occurs : Type 0 where
  pub start : StartsIn (λ s. ChangesMore s × DoesNotHalt s)
  pub other : (n : ℕ) → StartsIn (TakesOther n)
  pub works : Exists WorksAtOnce
  pub waits : Exists WaitsUnasked
  pub counts : (n : ℕ) → Exists (MakesUpItsCount n)
  pub halts : (n : ℕ) → Exists (HaltsBefore n)
  pub card : Exists (NeverEnds NeverUsesTheCard)
  pub fetch : Exists StaysInFetch0
  pub refuses : (x : Refusal) → Exists (RefusesEveryClock x)

-- The parts of the promise that fail of every machine of each kind, each part by itself.
pub record Refuted : Type 0 where
  -- by a reset in decode
  pub works : FailsFrom ChangesMore WorksAtOnce AgreesInDecode
  pub waits : Fails WaitsUnasked IsInTime × Fails WaitsUnasked Progresses
  pub counts : (n : ℕ) → FailsFrom (TakesOther (n + 1)) (MakesUpItsCount n) IsCounted
  pub halts : (n : ℕ) → FailsFrom DoesNotHalt (HaltsBefore n) Agrees × Fails (HaltsBefore n) IsInTime
  pub card : Fails NeverUsesTheCard IsInTime × Fails (NeverEnds NeverUsesTheCard) Progresses
  pub fetch : Fails StaysInFetch0 IsInTime × Fails StaysInFetch0 Progresses
  pub refuses : (x : Refusal) → Fails (RefusesEveryClock x) IsRefusing × Fails (RefusesEveryClock x) Progresses
  -- so timing fails by one clock that is answered waiting or halted unasked
  pub asks : (m : AnyMachine) (first : State) (start : Config) → IsInTime (Makes m) first start → Always (Makes m) start Asks
  pub occurs : Occurs
