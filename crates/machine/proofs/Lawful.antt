-- The laws of one instruction, by what it fetches, its class, and how its transfers end.
use Rattle.std.proofs.Common.{◌≡◌, ℕ, Bool, true, false, refl, Ok, Err}
use Rattle.card.specs.declared.cell.Cell.{Cell}
use Rattle.card.specs.declared.cell.Cell.TheVariants.{Absent, Fixed, Open}
use Rattle.card.specs.declared.transfer.Direction.TheVariants.{Read, Write}
use Rattle.card.specs.Ends.{End, end_of}
use Rattle.isa.specs.declared.fields.Instruction.{Instruction}
use Rattle.isa.specs.declared.opcodes.Class.{Class}
use Rattle.isa.specs.declared.opcodes.Class.TheVariants.{Arithmetic, ArithmeticQuick, Logical, Load, Store, Branch, BranchIndexed, Unknown}
use Rattle.isa.specs.declared.opcodes.Form.{Form}
use Rattle.isa.specs.Branch.{taken_by}
use Rattle.machine.specs.declared.machine.Outcome.TheVariants.{Done}
use Rattle.machine.specs.Laws.{Branches, Lawful, LawfulFrom, Laws, PlusDisplacement}
use Rattle.machine.specs.State.{State, plus}
use Rattle.machine.specs.Step.{Step, register, jump, executed, displaced, displacement, loaded, stored, branched, past, fetched}

module _ (k : Class) (i : Instruction) (s : State) where
  displaced_lawful : (e : End) (go : ℕ → Step) → ((d : ℕ) → e ≡ Ok d → Lawful k i s (go d)) → Lawful k i s (displaced e s go)
  displaced_lawful (Ok d) go h = h d refl
  displaced_lawful (Err x) go h = (_, refl, refl, refl)

  branched_lawful : (b : Bool) (f : Form) (base : ℕ)
      → ((pc : ℕ) → Branches b f i s base pc → Lawful k i s (Done, jump s pc)) → Lawful k i s (branched b f i s (plus base))
  branched_lawful false f base go = go (past f s.pc) refl
  branched_lawful true f base go =
      displaced_lawful (displacement f i s) (λ d. (Done, jump s (plus base d))) (λ d e. go (plus base d) (d, e, refl))

loaded_lawful : (e : End) (a : ℕ) (f : Form) (i : Instruction) (s : State) → PlusDisplacement f i s (register s i.r1) a
    → end_of Read (s.map a) ≡ e → Lawful (Load f) i s (loaded e a f i s)
loaded_lawful (Ok w) a f i s h e =
    record { changes = (a, h, (w, e, (refl, refl))); flags = refl; pc = refl; fault = refl }
loaded_lawful (Err x) a f i s h e = (_, refl, refl, refl)

-- By the cell c at the address a.
stored_lawful : (c : Cell) (a : ℕ) (f : Form) (i : Instruction) (s : State) → PlusDisplacement f i s (register s i.r1) a
    → s.map a ≡ c
    → Lawful (Store f) i s
    (stored (end_of (Write (register s i.r3)) c) (record { direction = Write (register s i.r3); address = a }) f s)
stored_lawful (Absent o) a f i s h e = (_, refl, refl, refl)
stored_lawful (Fixed v o) a f i s h e = (_, refl, refl, refl)
stored_lawful (Open v) a f i s h e =
    record { changes = (a, h, ((v, e), rw e, refl)); flags = refl; pc = refl; fault = refl }

executed_lawful : (k : Class) (i : Instruction) (s : State) → Lawful k i s (executed k i s)
executed_lawful (Arithmetic op) i s = record { changes = (_, (refl, refl)); flags = tt; pc = refl; fault = refl }
executed_lawful (ArithmeticQuick op) i s = record { changes = (_, (refl, refl)); flags = tt; pc = refl; fault = refl }
executed_lawful (Logical op) i s = record { changes = (_, (refl, refl)); flags = tt; pc = refl; fault = refl }
executed_lawful (Load f) i s =
    displaced_lawful (Load f) i s (displacement f i s) _ (λ d e. loaded_lawful _ _ f i s (d, e, refl) refl)
executed_lawful (Store f) i s =
    displaced_lawful (Store f) i s (displacement f i s) _ (λ d e. stored_lawful _ _ f i s (d, e, refl) refl)
executed_lawful (Branch f) i s =
    branched_lawful (Branch f) i s (taken_by i.mask s.flags) f (past f s.pc)
    (λ pc h. record { changes = (refl, refl); flags = refl; pc = h; fault = refl })
executed_lawful (BranchIndexed f) i s =
    branched_lawful (BranchIndexed f) i s (taken_by i.mask s.flags) f (register s i.r1)
    (λ pc h. record { changes = (refl, refl); flags = refl; pc = h; fault = refl })
executed_lawful Unknown i s = record { changes = (refl, refl); flags = refl; pc = refl; fault = refl }

fetched_lawful : (e : End) (s : State) → LawfulFrom e s (fetched e s)
fetched_lawful (Ok w) s = executed_lawful _ _ s
fetched_lawful (Err x) s = (refl, (_, refl, refl, refl))

pub lawful : Laws
lawful s = fetched_lawful _ s
