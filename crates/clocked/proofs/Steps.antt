-- Small facts that the rows share.
use Rattle.std.proofs.Common.{◌≡◌, ℕ, Bool, true, false, Some, None, Option, refl, ap, ◌∙◌, arith}
use Rattle.card.specs.declared.transfer.Transfer.{Transfer}
use Rattle.isa.specs.declared.fields.Instruction.{Instruction}
use Rattle.isa.specs.declared.opcodes.Class.{Class}
use Rattle.isa.specs.declared.opcodes.Class.TheVariants.{Arithmetic, ArithmeticQuick, Logical, Load, Store, Branch, BranchIndexed, Unknown}
use Rattle.isa.specs.Branch.{taken_by}
use Rattle.machine.specs.State.{State, plus}
use Rattle.machine.specs.Step.{step, step_from, answered, executed, running}
use Rattle.clocked.specs.Calls.{waits_left}
use Rattle.clocked.specs.Comparison.{begun}
use Rattle.clocked.proofs.Invariant.{executed_by}

-- A call that leaves the transfer begins none.
pub begun_same : (t : Option Transfer) → begun t t ≡ 0
begun_same None = refl
begun_same (Some t) = refl

-- Where there was no transfer, one that is there was begun.
pub begun_new : (t u : Option Transfer) → t ≡ None → begun t u ≡ waits_left u
begun_new t u e = ap (λ x. begun x u) e ∙ from_none u
  where
    from_none : (u : Option Transfer) → begun None u ≡ waits_left u
    from_none None = refl
    from_none (Some u) = refl

pub never_both : (b : Bool) → b ≡ false → b ≡ true → ⊥
never_both b p q = let z : ◌≡◌ {A = Bool} false true = cc in let y : ◌≡◌ {A = ℕ} 0 1 = cc in omega arith

pub some_none : {X : Type 0} (x : X) → ◌≡◌ {A = Option X} (Some x) None → ⊥
some_none x e = let y : ◌≡◌ {A = ℕ} 0 1 = cc in omega arith

-- PC past two words, one at a time.
pub plus_one_one : (a : ℕ) → plus (plus a 1) 1 ≡ plus a 2
plus_one_one a = omega arith

-- An instruction without a fault before it.
pub step_running : (s : State) → s.fault ≡ None → step s ≡ answered (running s)
step_running s e = ap (λ f. step_from f s) e

-- An instruction by its class, with its branch condition apart.
pub executed_by_class : (k : Class) (i : Instruction) (s : State) → executed k i s ≡ executed_by k (taken_by i.mask s.flags) i s
executed_by_class (Arithmetic op) i s = refl
executed_by_class (ArithmeticQuick op) i s = refl
executed_by_class (Logical op) i s = refl
executed_by_class (Load f) i s = refl
executed_by_class (Store f) i s = refl
executed_by_class (Branch f) i s = refl
executed_by_class (BranchIndexed f) i s = refl
executed_by_class Unknown i s = refl
