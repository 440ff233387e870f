-- What the invariant says in every control state.
use Rattle.std.proofs.Common.{◌≡◌, ℕ, Bool, true, false, Some, None, Option, sym, refl, ap, ◌∙◌}
use Rattle.card.specs.declared.transfer.Request.{Request}
use Rattle.card.specs.declared.transfer.Transfer.{Transfer}
use Rattle.card.specs.Meaning.{Meaning}
use Rattle.machine.specs.declared.fault.Fault.{Fault}
use Rattle.machine.specs.State.{State, plus, restarted}
use Rattle.clocked.specs.declared.control.Control.{Control}
use Rattle.clocked.specs.declared.control.Control.TheVariants.{Fetch0, Fetch1, Fetch2, Decode, DispFetch0, DispFetch1, DispFetch2, Execute0, Execute1, Execute2}
use Rattle.clocked.specs.declared.pending.Pending.{Pending}
use Rattle.clocked.specs.declared.processor.Processor.{Processor}
use Rattle.clocked.specs.Refusals.{clock_refusal, is_fetch0, rests_at, when_locked, when_halted, when_transfer}
use Rattle.clocked.specs.Control.{reads_at, request_of}
use Rattle.clocked.specs.Changes.{written_back, restarting}
use Rattle.clocked.specs.Processor.{axis_state, storing}
use Rattle.clocked.specs.Table.{row_of}
use Rattle.clocked.proofs.Invariant.{At, Mid, Rest, Requests}
use Rattle.clocked.proofs.Steps.{never_both}

-- At the boundary, or in the middle of an instruction.
pub data Where (k : Control) (A : State) (n w : ℕ) (p : Processor) (m : Meaning) : Type 0 where
  rests : k ≡ Fetch0 → Rest A n w p m → Where k A n w p m
  goes : is_fetch0 k ≡ false → Mid A p m → Where k A n w p m

pub whereabouts : (k : Control) (A : State) (n w : ℕ) (p : Processor) (m : Meaning) → At k A n w p m → Where k A n w p m
whereabouts Fetch0 A n w p m h = rests refl h
whereabouts Fetch1 A n w p m h = goes refl h.0.mid
whereabouts Fetch2 A n w p m h = goes refl h.0.mid
whereabouts (Decode i) A n w p m h = goes refl h.0.mid
whereabouts (DispFetch0 i) A n w p m h = goes refl h.0.mid
whereabouts (DispFetch1 i) A n w p m h = goes refl h.0.mid
whereabouts (DispFetch2 i) A n w p m h = goes refl h.0.mid
whereabouts (Execute0 i d) A n w p m h = goes refl h.0.mid
whereabouts (Execute1 a) A n w p m h = goes refl h.0.mid
whereabouts (Execute2 a) A n w p m h = goes refl h.0.mid

-- What a clock of an axis that is neither halted nor locked can be refused for.
pub running_refusal : (p : Processor) (c : Meaning) → p.fault ≡ None → p.locked ≡ false →
    clock_refusal p c ≡ when_transfer (row_of p.control p) c.transfer
running_refusal p c unhalted unlocked =
    ap (λ (x : Bool). when_locked x (when_halted p.fault (when_transfer (row_of p.control p) c.transfer))) unlocked
    ∙ ap (λ (x : Option Fault). when_halted x (when_transfer (row_of p.control p) c.transfer)) unhalted

-- A request in being is a transfer.
in_being : (b : Request) (x : Option Transfer) → Requests x b → (y : Transfer) × (x ≡ Some y)
in_being b None e = elim e [ ]
in_being b (Some x) e = (x, refl)

-- A clock of a running axis finds its transfer as it should be.
pub due : (k : Control) (A : State) (n w : ℕ) (p : Processor) (m : Meaning) → At k A n w p m → when_transfer (row_of k p) m.transfer ≡ None
due Fetch0 A n w p m h = refl
due Fetch1 A n w p m h = ap (when_transfer (row_of Fetch1 p)) h.0.idle
due Fetch2 A n w p m h = ap (when_transfer (row_of Fetch2 p)) (in_being (reads_at p.start) m.transfer h.0.busy).1
due (Decode i) A n w p m h = refl
due (DispFetch0 i) A n w p m h = refl
due (DispFetch1 i) A n w p m h = ap (when_transfer (row_of (DispFetch1 i) p)) h.0.idle
due (DispFetch2 i) A n w p m h = ap (when_transfer (row_of (DispFetch2 i) p)) (in_being (reads_at (plus p.start 1)) m.transfer h.0.busy).1
due (Execute0 i d) A n w p m h = refl
due (Execute1 a) A n w p m h = ap (when_transfer (row_of (Execute1 a) p)) h.0.idle
due (Execute2 a) A n w p m h = ap (when_transfer (row_of (Execute2 a) p)) (in_being (request_of a) m.transfer h.0.busy).1

module _ (A : State) (n w : ℕ) (p : Processor) (m : Meaning) where
  -- The comparison machine has the fault of the axis.
  pub same_fault : Where p.control A n w p m → A.fault ≡ p.fault
  same_fault (rests k h) = ap (λ (s : State). s.fault) h.agrees
  same_fault (goes k h) = ap (λ (s : State). s.fault) h.0

  -- In the middle of an instruction an axis is not at rest.
  pub not_resting : is_fetch0 p.control ≡ false → Mid A p m → rests_at p.fault p.control ≡ false
  not_resting k h = ap (λ (x : Option Fault). rests_at x p.control) h.1 ∙ k

  pub agreeing : Where p.control A n w p m → rests_at p.fault p.control ≡ true → axis_state p m.map ≡ A
  agreeing (rests k h) at = sym h.agrees
  agreeing (goes k h) at = elim (never_both _ (not_resting k h) at) [ ]

  pub restarting_as : Where p.control A n w p m → restarted A ≡ axis_state (restarting (written_back p)) m.map
  restarting_as (rests k h) = ap restarted h.agrees
  restarting_as (goes k h) =
      ap restarted h.0
      ∙ ap (λ (z : Option Pending). restarted (record { axis = p.axis; registers = storing z p.registers.words; pc = 0; flags = p.flags; map = m.map; fault = None })) (sym h.2)
