-- The clock in decode, by the class of the instruction and, of a branch, whether it is taken.
use Rattle.std.proofs.Common.{◌≡◌, ℕ, ◌+◌, Some, Bool, true, false, sym, refl, ap, ◌∙◌, subst, arith}
use Rattle.card.specs.declared.transfer.Direction.TheVariants.{Read}
use Rattle.card.specs.Ends.{end_of}
use Rattle.card.specs.Meaning.{Meaning}
use Rattle.isa.specs.declared.fields.Instruction.{Instruction}
use Rattle.isa.specs.declared.opcodes.Class.{Class}
use Rattle.isa.specs.declared.opcodes.Class.TheVariants.{Arithmetic, ArithmeticQuick, Logical, Load, Store, Branch, BranchIndexed, Unknown}
use Rattle.isa.specs.declared.opcodes.Form.TheVariants.{Long, Quick}
use Rattle.isa.specs.Fields.{immediate_of}
use Rattle.machine.specs.declared.machine.Outcome.{Outcome}
use Rattle.machine.specs.declared.machine.Outcome.TheVariants.{Done, Ignored}
use Rattle.machine.specs.State.{State, plus}
use Rattle.machine.specs.Step.{displaced, jump}
use Rattle.clocked.specs.declared.control.Control.TheVariants.{Fetch0, Decode, DispFetch0, Execute0}
use Rattle.clocked.specs.declared.processor.Processor.{Processor}
use Rattle.clocked.specs.declared.tick.Answer.TheVariants.{On, Ended}
use Rattle.clocked.specs.declared.tick.Answer.{Answer}
use Rattle.clocked.specs.Calls.{Did}
use Rattle.clocked.specs.Comparison.{clocks_due, begun, clocks_for}
use Rattle.clocked.specs.Changes.{going}
use Rattle.clocked.specs.Entries.{Took}
use Rattle.clocked.specs.Table.{decodes, row_of}
use Rattle.clocked.proofs.Invariant.{At, Idle, Fetched, Displaces, Ready, origin, class_in, taken_in, executed_by, resumed, ready_pc, last}
use Rattle.clocked.proofs.Gives.{Gives, given_as}
use Rattle.clocked.proofs.Ending.{ending, shown_at_last}
use Rattle.clocked.proofs.Steps.{begun_same}

module _ (A : State) (n w : ℕ) (i : Instruction) (p : Processor) (c : Meaning) (at : Idle A n w p c 0 3) (pc : p.pc ≡ plus p.start 1) where
  abbrev O : State
  O = origin p c.map

  -- By the class k, and t for a branch that is taken: to execute_0, to disp_fetch_0, or to the end.
  module _ (k : Class) (t : Bool) (class : class_in i ≡ k) (taken : taken_in i p ≡ t) (h : Fetched k t i O) where
    executing : executed_by k t i O ≡ resumed k t i O (immediate_of i) → plus p.start 1 ≡ ready_pc k t p.start → clocks_for k t ≡ 4 + last k →
        Gives A n w (Decode i) c On (going (Execute0 i (immediate_of i)) p) c
    executing same ready clocks =
        let none = begun_same c.transfer in
        let total = h.total in
        let kind = ap last class in
        record {
          inv = (
            record { mid = at.mid; idle = at.idle; count = omega (arith, at.count, none, total, kind) },
            subst (λ (x : Class). Ready x (taken_in i p) i (immediate_of i) O p.pc) (sym class)
                (subst (λ (y : Bool). Ready k y i (immediate_of i) O p.pc) (sym taken)
                (record { left = h.left ∙ same; ready = pc ∙ ready })),
          );
          answers = tt;
          took = tt;
          unlocked = at.mid.3;
          falls = omega arith;
        }

    displacing : executed_by k t i O ≡ displaced (end_of Read (c.map (plus p.start 1))) O (λ d. resumed k t i O d) →
        ready_pc k t p.start ≡ plus p.start 2 → clocks_for k t ≡ 7 + last k → Gives A n w (Decode i) c On (going (DispFetch0 i) p) c
    displacing same ready clocks =
        let none = begun_same c.transfer in
        record {
          inv = (
            record { mid = at.mid; idle = at.idle; count = omega (arith, at.count, none) },
            pc,
            subst (λ (x : Class). Displaces x (taken_in i p) i O) (sym class)
                (subst (λ (y : Bool). Displaces k y i O) (sym taken)
                (record { left = h.left ∙ same; ready = ready; total = h.total ∙ clocks })),
          );
          answers = tt;
          took = tt;
          unlocked = at.mid.3;
          falls = omega arith;
        }

    finishing : (o : Outcome) → executed_by k t i O ≡ (o, jump O (plus p.start 1)) →
        (n + 1 ≡ clocks_due A + (w + begun c.transfer c.transfer) → Took (Some o) A n (w + begun c.transfer c.transfer)) →
        clocks_for k t ≡ 4 → Gives A n w (Decode i) c (Ended o) (going Fetch0 p) c
    finishing o same took clocks =
        let none = begun_same c.transfer in
        let total = ap clocks_due at.mid.0 ∙ h.total ∙ clocks in
        ending A n w (Decode i) p c (going Fetch0 p) c o (jump O (plus p.start 1)) refl at.mid.3 at.idle at.mid.0
        at.mid.1 (h.left ∙ same) (shown_at_last p c.map c.map at.mid.2 refl (plus p.start 1) p.pc (sym pc))
        (took (omega (arith, at.count, none, total)))

  by_class : (k : Class) (t : Bool) → class_in i ≡ k → taken_in i p ≡ t → Fetched k t i O →
      Gives A n w (Decode i) c (decodes k t i p).0 (decodes k t i p).1 c
  by_class (Arithmetic op) t a b h = executing (Arithmetic op) t a b h refl refl refl
  by_class (ArithmeticQuick op) t a b h = executing (ArithmeticQuick op) t a b h refl refl refl
  by_class (Logical op) t a b h = executing (Logical op) t a b h refl refl refl
  by_class (Load Long) t a b h = displacing (Load Long) t a b h refl refl refl
  by_class (Load Quick) t a b h = executing (Load Quick) t a b h refl refl refl
  by_class (Store Long) t a b h = displacing (Store Long) t a b h refl refl refl
  by_class (Store Quick) t a b h = executing (Store Quick) t a b h refl refl refl
  by_class (Branch Long) true a b h = displacing (Branch Long) true a b h refl refl refl
  by_class (Branch Long) false a b h = executing (Branch Long) false a b h refl refl refl
  by_class (Branch Quick) true a b h = executing (Branch Quick) true a b h refl refl refl
  by_class (Branch Quick) false a b h = finishing (Branch Quick) false a b h Done refl (λ e. e) refl
  by_class (BranchIndexed Long) true a b h = displacing (BranchIndexed Long) true a b h refl refl refl
  by_class (BranchIndexed Long) false a b h = executing (BranchIndexed Long) false a b h refl refl refl
  by_class (BranchIndexed Quick) true a b h = executing (BranchIndexed Quick) true a b h refl refl refl
  by_class (BranchIndexed Quick) false a b h = finishing (BranchIndexed Quick) false a b h Done refl (λ e. e) refl
  by_class Unknown t a b h = finishing Unknown t a b h Ignored refl (λ e. e) refl

pub decode : (A : State) (n w : ℕ) (i : Instruction) (p : Processor) (c : Meaning) (t : Answer) (q : Processor) (d : Meaning) →
    At (Decode i) A n w p c → Did (row_of (Decode i) p) p c t q d → Gives A n w (Decode i) c t q d
decode A n w i p c t q d at did =
    given_as A n w (Decode i) c t (decodes (class_in i) (taken_in i p) i p).0 q (decodes (class_in i) (taken_in i p) i p).1 d c
    did.0 did.1 did.2 (by_class A n w i p c at.0 at.1 (class_in i) (taken_in i p) refl refl at.2)
