-- What the machine's calls do to it and to its card.
-- A reader must believe: the order of the refusals, and that a refused call leaves machine and card as they were.
use Rattle.std.specs.Prelude.{◌≡◌, ℕ, Some, None, Ok, Err, Option, Result, IsOkAnd}
use Rattle.std.specs.Borrow.{MutBor}
use Rattle.std.specs.Result.{result_ok}
use Rattle.refusal.specs.declared.Refusal.{Refusal}
use Rattle.refusal.specs.declared.Refusal.TheVariants as refused
use Rattle.refusal.specs.Unless.{UnlessRefused}
use Rattle.card.specs.declared.transfer.Transfer.{Transfer}
use Rattle.card.specs.Ends.{End}
use Rattle.card.specs.Meaning.{Meaning, idle}
use Rattle.machine.specs.declared.axis.Axis.{Axis}
use Rattle.machine.specs.declared.fault.Fault.{Fault}
use Rattle.machine.specs.declared.fault.Stage.{Stage}
use Rattle.machine.specs.declared.machine.Machine.{Machine}
use Rattle.machine.specs.declared.machine.Outcome.{Outcome}
use Rattle.machine.specs.declared.machine.Outcome.TheVariants.{Halted}
use Rattle.machine.specs.Axes.{axis_of}
use Rattle.machine.specs.State.{State, state_of, powered_up}
use Rattle.machine.specs.Step.{Step, answered, step}

-- Power-up: refused unless the axis is 1, 2 or 3.
abbrev pub PoweredOk : Axis → Meaning → Result Machine Refusal → Meaning → Type 0
PoweredOk a c r d = IsOkAnd r (λ m. (state_of m d.map ≡ powered_up a c.map) × (d ≡ idle c))

abbrev pub PoweredAs : Result Axis Refusal → Meaning → Result Machine Refusal → Meaning → Type 0
PoweredAs (Ok a) c r d = PoweredOk a c r d
PoweredAs (Err e) c r d = (r ≡ Err e) × (d ≡ c)

abbrev pub PoweredUp : ℕ → Meaning → Result Machine Refusal → Meaning → Type 0
PoweredUp axis c r d = PoweredAs (axis_of axis) c r d

-- The machine n and the card d are what a step leaves, the card without a transfer; r is its answer.
pub record Takes (s : Option Outcome × State) (c : Meaning) (r : Result Outcome Refusal) (n : Machine) (d : Meaning) : Type 0 where
  pub answer : result_ok r ≡ s.0
  pub state : state_of n d.map ≡ s.1
  pub transfer : d.transfer ≡ None
  pub patience : d.patience ≡ c.patience

-- What a part of an instruction answers and leaves, where a fault is answered and not yet recorded. Used by private
-- functions only, as all up to `word_or_fault`.
abbrev pub outcome_of : Result Outcome Fault → Outcome
outcome_of (Ok o) = o
outcome_of (Err f) = Halted

abbrev pub recorded : Result Outcome Fault → Machine → Machine
recorded (Ok o) m = m
recorded (Err f) m = record m { fault = Some f }

-- A part of an instruction, as a step from the machine m on the card that c lends; d is the same loan afterwards.
pub record Executes {X : Type 0} (meaning : X → Meaning) (f : State → Step) (m : Machine) (c : MutBor X)
    (r : Result Outcome Fault) (n : Machine) (d : MutBor X) : Type 0 where
  pub taken : Takes (answered (f (state_of m (meaning c.now).map))) (meaning c.now) (Ok (outcome_of r)) (recorded r n)
      (meaning d.now)
  pub lender : d.ghost_name ≡ c.ghost_name

-- The word of an access of the machine, or the fault that the access is at a stage.
abbrev pub word_or_fault : Machine → Stage → ℕ → End → Result ℕ Fault
word_or_fault m stage access (Ok w) = Ok w
word_or_fault m stage access (Err f) =
    Err
    (record {
      axis = m.axis;
      stage = stage;
      instruction = m.pc;
      access = access;
      cause = f.cause;
      origin = f.origin;
    })

-- One instruction: refused first if the machine has halted, then if a transfer is in being.
abbrev pub refusal_at : Option Fault → Option Transfer → Option Refusal
refusal_at (Some f) t = Some refused.Halted
refusal_at None (Some t) = Some refused.Transfer
refusal_at None None = None

abbrev pub Stepped : Machine → Meaning → Result Outcome Refusal → Machine → Meaning → Type 0
Stepped m c r n d =
    UnlessRefused (refusal_at m.fault c.transfer) r ((n ≡ m) × (d ≡ c)) (Takes (step (state_of m c.map)) c r n d)
