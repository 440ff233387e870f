-- A clock that its row refuses for the transfer is refused so as a whole, since it is neither locked nor halted.
use Rattle.std.proofs.Common.{◌≡◌, Bool, false, Some, None, Err, Option, Result, sym, subst}
use Rattle.refusal.specs.declared.Refusal.{Refusal}
use Rattle.refusal.specs.Unless.{UnlessRefused}
use Rattle.card.specs.Meaning.{Meaning}
use Rattle.machine.specs.declared.fault.Fault.{Fault}
use Rattle.clocked.specs.declared.processor.Processor.{Processor}
use Rattle.clocked.specs.declared.tick.Tick.{Tick}
use Rattle.clocked.specs.declared.tick.Answer.{Answer}
use Rattle.clocked.specs.Advance.{Advanced}
use Rattle.clocked.specs.Calls.{Accepted, Clocked}
use Rattle.clocked.specs.Refusals.{when_locked, when_halted, when_transfer}
use Rattle.clocked.specs.Table.{row_of}

module _ (p : Processor) (c : Meaning) (q : Processor) (d : Meaning) (e : Refusal) (r : Result Tick Refusal) (is : r ≡ Err e) where
  abbrev Same : Type 0
  Same = (q ≡ p) × (d ≡ c)

  refuses : (x : Option Refusal) → UnlessRefused {T = Answer} x (Err e) Same ⊥ → UnlessRefused x r Same (Accepted r p c q d)
  refuses (Some x) h = let same = h.0 in (cc, h.1)
  refuses None h = elim h [ ]

  pub refused_clock : p.locked ≡ false → p.fault ≡ None → Advanced p c (Err e) q d → Clocked p c r q d
  refused_clock unlocked running h =
      let x : Option Refusal = when_transfer (row_of p.control p) c.transfer in
      subst (λ (l : Bool). UnlessRefused (when_locked l (when_halted p.fault x)) r Same (Accepted r p c q d)) (sym unlocked)
      (subst (λ (f : Option Fault). UnlessRefused (when_halted f x) r Same (Accepted r p c q d)) (sym running) (refuses x h))
