-- The last clock of an instruction, and a clock that waits.
use Rattle.std.proofs.Common.{◌≡◌, ℕ, ◌+◌, ◌≤◌, false, Some, None, Option, sym, refl, ap, ◌∙◌, subst, arith}
use Rattle.card.specs.declared.cell.AccessFault.{AccessFault}
use Rattle.card.specs.declared.transfer.Request.{Request}
use Rattle.card.specs.Cells.{Map}
use Rattle.card.specs.Meaning.{Meaning, waiting, finished}
use Rattle.machine.specs.declared.fault.Stage.{Stage}
use Rattle.machine.specs.declared.machine.Outcome.{Outcome}
use Rattle.machine.specs.State.{State}
use Rattle.machine.specs.Step.{step, answered, running, jump, halt}
use Rattle.clocked.specs.declared.control.Control.{Control}
use Rattle.clocked.specs.declared.control.Control.TheVariants.{Fetch0}
use Rattle.clocked.specs.declared.pending.Pending.{Pending}
use Rattle.clocked.specs.declared.processor.Processor.{Processor}
use Rattle.clocked.specs.declared.tick.Answer.{Answer}
use Rattle.clocked.specs.declared.tick.Answer.TheVariants.{Waiting, Ended}
use Rattle.clocked.specs.Calls.{Ends, PollsFrom, waits_left}
use Rattle.clocked.specs.Comparison.{begun}
use Rattle.clocked.specs.Changes.{going_at, halting}
use Rattle.clocked.specs.Processor.{axis_state, storing}
use Rattle.clocked.specs.Entries.{Took}
use Rattle.clocked.specs.Table.{Move}
use Rattle.clocked.proofs.Gives.{Gives, given_as}
use Rattle.clocked.proofs.Polling.{PollGives, waits, ends, polled, begun_busy}
use Rattle.clocked.proofs.Invariant.{At, Busy, origin, end_in, clocks_left}
use Rattle.clocked.proofs.Steps.{never_both, step_running}

-- The comparison machine's instruction from A, which is O, ends with o in the state S.
module _ (A O S : State) (o : Outcome) (u : State) where
  compares : A ≡ O → O.fault ≡ None → running O ≡ (o, u) → u ≡ S → step A ≡ (Some o, S)
  compares same unhalted left is =
      ap step same ∙ step_running O unhalted ∙ ap answered left ∙ ap (λ (x : State). (Some o, x)) is

module _ (A : State) (n w : ℕ) (k : Control) (p : Processor) (c : Meaning) (q : Processor) (d : Meaning) (o : Outcome) (u : State) where
  pub ending : q.control ≡ Fetch0 → q.locked ≡ false → d.transfer ≡ None → A ≡ origin p c.map → p.fault ≡ None →
      running (origin p c.map) ≡ (o, u) → u ≡ axis_state q d.map → Took (Some o) A n (w + begun c.transfer d.transfer) →
      Gives A n w k c (Ended o) q d
  ending boundary unlocked idle same unhalted left is took =
      let both = compares A (origin p c.map) (axis_state q d.map) o u same unhalted left is in
      record {
        inv = subst (λ (x : Control). At x (step A).1 0 0 q d) (sym boundary)
            (record {
              agrees = ap (λ (x : Option Outcome × State). x.1) both;
              idle = idle;
              clocks = refl;
              waits = refl;
              stored = λ locked. elim (never_both q.locked unlocked locked) [ ];
            });
        answers = ap (λ (x : Option Outcome × State). x.0) both;
        took = took;
        unlocked = unlocked;
        falls = tt;
      }

-- What an axis shows that has no result pending.
module _ (p : Processor) (f g : Map) (none : p.pending ≡ None) (same : f ≡ g) where
  pub shown_at_last : (x y : ℕ) → x ≡ y → jump (origin p f) x ≡ axis_state (going_at Fetch0 y p) g
  shown_at_last x y e =
      ap (λ (z : Option Pending). jump (record { axis = p.axis; registers = storing z p.registers.words; pc = x; flags = p.flags; map = f; fault = p.fault }) x) (sym none)
      ∙ ap (λ (z : ℕ). axis_state (going_at Fetch0 z p) f) e ∙ ap (axis_state (going_at Fetch0 y p)) same

  pub shown_halted : (s : Stage) (a : ℕ) (why : AccessFault) →
      (halt (origin p f) s a why).1 ≡ axis_state (halting s a why p) g
  shown_halted s a why =
      ap (λ (z : Option Pending). record { axis = p.axis; registers = storing z p.registers.words; pc = p.start; flags = p.flags; map = f; fault = Some (record { axis = p.axis; stage = s; instruction = p.start; access = a; cause = why.cause; origin = why.origin }) }) (sym none)
      ∙ ap (axis_state (halting s a why p)) same

-- A clock that waits leaves the processor, with one wait less.
module _ (A : State) (n w : ℕ) (k : Control) (p : Processor) (c : Meaning) (b : Request) (v : ℕ) where
  pub waited : p.control ≡ k → p.locked ≡ false → At k A (n + 1) (w + begun c.transfer (waiting b v c).transfer) p (waiting b v c) →
      clocks_left k v c.patience + 1 ≤ clocks_left k (waits_left c.transfer) c.patience →
      Gives A n w k c Waiting p (waiting b v c)
  waited is unlocked inv less =
      record {
        inv = subst (λ (x : Control). At x A (n + 1) (w + begun c.transfer (waiting b v c).transfer) p (waiting b v c)) (sym is) inv;
        answers = tt;
        took = tt;
        unlocked = unlocked;
        falls = subst (λ (x : Control). clocks_left x v c.patience + 1 ≤ clocks_left k (waits_left c.transfer) c.patience) (sym is) less;
      }

-- A state that polls, by what it does with a wait less and with the end of the transfer.
module _ (A : State) (n w : ℕ) (k : Control) (p : Processor) (c : Meaning) (t : Answer) (q : Processor) (d : Meaning)
    (b : Request) (r z : ℕ) (take : ℕ → Move) (s : Stage) (a : ℕ) where
  pub polling : p.control ≡ k → Busy A n w p c b r z → PollsFrom c.transfer take s a p c t q d →
      ((v : ℕ) → Busy A (n + 1) (w + begun c.transfer (waiting b v c).transfer) p (waiting b v c) b r z →
      At k A (n + 1) (w + begun c.transfer (waiting b v c).transfer) p (waiting b v c)) →
      ((v : ℕ) → clocks_left k v c.patience + 1 ≤ clocks_left k (v + 1) c.patience) →
      (Ends (end_in b c.map) take s a p t q → d ≡ finished b c → n + r ≡ z + w → Gives A n w k c t q d) →
      Gives A n w k c t q d
  polling is at did again less over =
      by_outcome (waits_left c.transfer) refl (polled n w r z b take s a p c t q d at.busy at.count did)
    where
      by_outcome : (x : ℕ) → waits_left c.transfer ≡ x → PollGives n w r z b take s a p c t q d x → Gives A n w k c t q d
      by_outcome x left (waits v wait same after count) =
          let none = begun_busy c.transfer (waiting b v c).transfer b at.busy in
          given_as A n w k c t Waiting q p d (waiting b v c) wait same after
          (waited A n w k p c b v is at.mid.3 (again v (record { mid = at.mid; busy = refl; few = omega (arith, at.few, left); count = omega (arith, count, none) }))
          (subst (λ (x : ℕ). clocks_left k v c.patience + 1 ≤ clocks_left k x c.patience) (sym left) (less v)))
      by_outcome x left (ends h after count) = over h after count
