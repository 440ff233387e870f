-- The clocks in execute_0, execute_1 and execute_2.
use Rattle.std.proofs.Common.{◌≡◌, ℕ, ◌+◌, Some, Bool, true, false, Ok, Err, None, sym, refl, ap, ◌∙◌, arith}
use Rattle.card.specs.declared.cell.Cell.{Cell}
use Rattle.card.specs.declared.cell.Cell.TheVariants.{Absent, Fixed, Open}
use Rattle.card.specs.declared.cell.AccessFault.{AccessFault}
use Rattle.card.specs.declared.transfer.Direction.{Direction}
use Rattle.card.specs.declared.transfer.Direction.TheVariants.{Read, Write}
use Rattle.card.specs.Cells.{Map}
use Rattle.card.specs.Ends.{End, end_of, leaves_at}
use Rattle.card.specs.Meaning.{Meaning, waiting, finished}
use Rattle.isa.specs.declared.fields.Instruction.{Instruction}
use Rattle.isa.specs.declared.opcodes.Class.{Class}
use Rattle.isa.specs.declared.opcodes.Class.TheVariants.{Arithmetic, ArithmeticQuick, Logical, Load, Store, Branch, BranchIndexed, Unknown}
use Rattle.isa.specs.declared.opcodes.Form.{Form}
use Rattle.isa.specs.declared.opcodes.Form.TheVariants.{Long, Quick}
use Rattle.isa.specs.Alu.{Answer as AluAnswer, alu_of, logic_of}
use Rattle.machine.specs.declared.machine.Outcome.{Outcome}
use Rattle.machine.specs.declared.machine.Outcome.TheVariants.{Done, Ignored, Halted}
use Rattle.machine.specs.State.{State, plus}
use Rattle.machine.specs.Step.{jump, halt, latch, loaded, stored, store_of, past, register, running}
use Rattle.clocked.specs.declared.access.Access.{Access}
use Rattle.clocked.specs.declared.access.Access.TheVariants as access
use Rattle.clocked.specs.declared.control.Control.TheVariants.{Fetch0, Execute0, Execute1, Execute2}
use Rattle.clocked.specs.declared.processor.Processor.{Processor}
use Rattle.clocked.specs.declared.tick.Answer.{Answer}
use Rattle.clocked.specs.declared.tick.Answer.TheVariants.{On, Ended}
use Rattle.clocked.specs.Calls.{Did, Ends, waits_left}
use Rattle.clocked.specs.Comparison.{clocks_due, begun}
use Rattle.clocked.specs.Control.{request_of, stage_of}
use Rattle.clocked.specs.Changes.{going, going_at, latching, halting}
use Rattle.clocked.specs.Processor.{axis_state}
use Rattle.clocked.specs.Entries.{Took}
use Rattle.clocked.specs.Table.{executes, latches, skipping, completes, row_of}
use Rattle.clocked.proofs.Invariant.{At, Idle, Ready, origin, class_in, taken_in, resumed, accessed, last, end_in}
use Rattle.clocked.proofs.Gives.{Gives, given_as}
use Rattle.clocked.proofs.Polling.{begun_busy}
use Rattle.clocked.proofs.Ending.{ending, polling, shown_at_last, shown_halted}
use Rattle.clocked.proofs.Steps.{begun_same, begun_new, plus_one_one}

-- PC past a displacement that was not read.
skip_past : (f : Form) (x start : ℕ) → x ≡ plus start 1 → past f start ≡ skipping f x
skip_past Long x start e = sym (ap (λ (y : ℕ). plus y 1) e ∙ plus_one_one start)
skip_past Quick x start e = sym e

-- A load and a store once their address is known, with PC past the instruction.
loaded_as : (e : End) (a pc : ℕ) (f : Form) (i : Instruction) (s : State) → pc ≡ past f s.pc →
    loaded e a f i s ≡ accessed (access.Load a i.r3) pc e s
loaded_as (Ok w) a pc f i s is =
    ap (λ (x : ℕ). accessed (access.Load a i.r3) x (Ok w) s) (sym is)
loaded_as (Err why) a pc f i s is = refl

stored_as : (e : End) (v a pc : ℕ) (f : Form) (s : State) → pc ≡ past f s.pc →
    stored e (request_of (access.Store a v)) f s ≡ accessed (access.Store a v) pc e s
stored_as (Ok w) v a pc f s is = ap (λ (x : ℕ). accessed (access.Store a v) x (Ok w) s) (sym is)
stored_as (Err why) v a pc f s is = refl

module _ (A : State) (n w : ℕ) (i : Instruction) (d : ℕ) (p : Processor) (c : Meaning) where
  abbrev O : State
  O = origin p c.map

  module _ (k : Class) (t : Bool) (at : Idle A n w p c (last k) (clocks_due (origin p c.map))) (h : Ready k t i d (origin p c.map) p.pc) where
    -- To execute_1 with a load or store.
    accessing : (a : Access) → last k ≡ 3 → resumed k t i O d ≡ accessed a p.pc (end_in (request_of a) c.map) O →
        Gives A n w (Execute0 i d) c On (going (Execute1 a) p) c
    accessing a clocks same =
        let none = begun_same c.transfer in
        record {
          inv = (
            record { mid = at.mid; idle = at.idle; count = omega (arith, at.count, none, clocks) },
            h.left ∙ same,
          );
          answers = tt;
          took = tt;
          unlocked = at.mid.3;
          falls = omega arith;
        }

    -- To the end.
    finishing : (o : Outcome) (u : State) (q : Processor) → q.control ≡ Fetch0 → q.locked ≡ p.locked → last k ≡ 1 →
        resumed k t i O d ≡ (o, u) → u ≡ axis_state q c.map →
        (n + 1 ≡ clocks_due A + (w + begun c.transfer c.transfer) → Took (Some o) A n (w + begun c.transfer c.transfer)) →
        Gives A n w (Execute0 i d) c (Ended o) q c
    finishing o u q boundary lock clocks same is took =
        let none = begun_same c.transfer in
        let total = ap clocks_due at.mid.0 in
        ending A n w (Execute0 i d) p c q c o u boundary (lock ∙ at.mid.3) at.idle at.mid.0 at.mid.1 (h.left ∙ same) is
        (took (omega (arith, at.count, none, total, clocks)))

    latching_as : (r : AluAnswer) → last k ≡ 1 → p.pc ≡ plus p.start 1 → resumed k t i O d ≡ latch r i O →
        Gives A n w (Execute0 i d) c (Ended Done) (latches r i p).1 c
    latching_as r clocks pc same =
        finishing Done (latch r i O).1 (latches r i p).1 refl refl clocks same
        (ap (jump (axis_state (latches r i p).1 c.map)) (sym pc)) (λ e. e)

    branching : (target : ℕ) (x : ℕ) → last k ≡ 1 → resumed k t i O d ≡ (Done, jump O x) → x ≡ target →
        Gives A n w (Execute0 i d) c (Ended Done) (going_at Fetch0 target p) c
    branching target x clocks same is =
        finishing Done (jump O x) (going_at Fetch0 target p) refl refl clocks same
        (shown_at_last p c.map c.map at.mid.2 refl x target is) (λ e. e)

  by_class : (k : Class) (t : Bool) → Idle A n w p c (last k) (clocks_due (origin p c.map)) → Ready k t i d (origin p c.map) p.pc →
      Gives A n w (Execute0 i d) c (executes k t i d p).0 (executes k t i d p).1 c
  by_class (Arithmetic op) t at h =
      latching_as (Arithmetic op) t at h (alu_of op (register O i.r1) (register O i.r2)) refl h.ready refl
  by_class (ArithmeticQuick op) t at h =
      latching_as (ArithmeticQuick op) t at h (alu_of op (register O i.r1) d) refl h.ready refl
  by_class (Logical op) t at h =
      latching_as (Logical op) t at h (logic_of op (register O i.r1) (register O i.r2) p.flags) refl h.ready refl
  by_class (Load f) t at h =
      accessing (Load f) t at h (access.Load (plus (register O i.r1) d) i.r3) refl
      (loaded_as (end_of Read (c.map (plus (register O i.r1) d))) (plus (register O i.r1) d) p.pc f i O h.ready)
  by_class (Store f) t at h =
      accessing (Store f) t at h (access.Store (plus (register O i.r1) d) (register O i.r3)) refl
      (stored_as (end_in (store_of i O d) c.map) (register O i.r3) (plus (register O i.r1) d) p.pc f O h.ready)
  by_class (Branch f) true at h =
      branching (Branch f) true at h (plus p.pc d) (plus (past f p.start) d) refl refl (ap (λ (x : ℕ). plus x d) (sym h.ready))
  by_class (Branch f) false at h =
      branching (Branch f) false at h (skipping f p.pc) (past f p.start) refl refl (skip_past f p.pc p.start h.ready)
  by_class (BranchIndexed f) true at h =
      branching (BranchIndexed f) true at h (plus (register O i.r1) d) (plus (register O i.r1) d) refl refl refl
  by_class (BranchIndexed f) false at h =
      branching (BranchIndexed f) false at h (skipping f p.pc) (past f p.start) refl refl (skip_past f p.pc p.start h.ready)
  by_class Unknown t at h =
      finishing Unknown t at h Ignored (jump O (plus p.start 1)) (going Fetch0 p) refl refl refl refl
      (shown_at_last p c.map c.map at.mid.2 refl (plus p.start 1) p.pc (sym h.ready)) (λ e. e)

pub execute0 : (A : State) (n w : ℕ) (i : Instruction) (v : ℕ) (p : Processor) (c : Meaning) (t : Answer) (q : Processor) (d : Meaning) →
    At (Execute0 i v) A n w p c → Did (row_of (Execute0 i v) p) p c t q d → Gives A n w (Execute0 i v) c t q d
execute0 A n w i v p c t q d at did =
    given_as A n w (Execute0 i v) c t (executes (class_in i) (taken_in i p) i v p).0 q (executes (class_in i) (taken_in i p) i v p).1 d c
    did.0 did.1 did.2 (by_class A n w i v p c (class_in i) (taken_in i p) at.0 at.1)

-- A transfer that ends in a fault leaves the map.
pub fault_leaves : (b : Direction) (x : Cell) (f : Map) (a : ℕ) (why : AccessFault) → end_of b x ≡ Err why → f ≡ leaves_at b x f a
fault_leaves Read x f a why e = refl
fault_leaves (Write v) (Absent u) f a why e = refl
fault_leaves (Write v) (Fixed y u) f a why e = refl
fault_leaves (Write v) (Open y) f a why e = let z : ◌≡◌ {A = ℕ} 0 1 = cc in elim (impossible z) [ ]
  where
    impossible : ◌≡◌ {A = ℕ} 0 1 → ⊥
    impossible z = omega arith

module _ (A : State) (n w : ℕ) (a : Access) (p : Processor) (c : Meaning) (t : Answer) (q : Processor) (d : Meaning) where
  pub execute1 : At (Execute1 a) A n w p c → Did (row_of (Execute1 a) p) p c t q d → Gives A n w (Execute1 a) c t q d
  execute1 at did =
      let e : Meaning = waiting (request_of a) (waits_left d.transfer) c in
      let new = begun_new c.transfer e.transfer at.0.idle in
      let few = did.2.1 in
      given_as A n w (Execute1 a) c t On q (going (Execute2 a) p) d e did.0 did.1 did.2.0
      (record {
        inv = (record { mid = at.0.mid; busy = refl; few = few; count = omega (arith, at.0.count, new) }, at.1);
        answers = tt;
        took = tt;
        unlocked = at.0.mid.3;
        falls = omega arith;
      })

module _ (A : State) (n w : ℕ) (p : Processor) (c : Meaning) (t : Answer) (q : Processor) (d : Meaning) where
  halts : (a : Access) (why : AccessFault) → end_in (request_of a) c.map ≡ Err why →
      running (origin p c.map) ≡ halt (origin p c.map) (stage_of a) (request_of a).address why →
      Ends (Err why) (completes a p) (stage_of a) (request_of a).address p t q → d ≡ finished (request_of a) c → At (Execute2 a) A n w p c →
      Gives A n w (Execute2 a) c t q d
  halts a why is left h after at =
      let r : Processor = halting (stage_of a) (request_of a).address why p in
      given_as A n w (Execute2 a) c t (Ended Halted) q r d (finished (request_of a) c) h.0 h.1 after
      (ending A n w (Execute2 a) p c r (finished (request_of a) c) Halted
      (halt (origin p c.map) (stage_of a) (request_of a).address why).1
      refl at.0.mid.3 refl at.0.mid.0 at.0.mid.1 left
      (shown_halted p c.map (finished (request_of a) c).map at.0.mid.2
      (fault_leaves (request_of a).direction (c.map (request_of a).address) c.map (request_of a).address why is)
      (stage_of a) (request_of a).address why) tt)

  completed : (a : Access) (v : ℕ) (u : State) (r : Processor) → r.control ≡ Fetch0 → r.locked ≡ p.locked →
      running (origin p c.map) ≡ (Done, u) → u ≡ axis_state r (finished (request_of a) c).map → t ≡ Ended Done → q ≡ r →
      d ≡ finished (request_of a) c → n + 1 ≡ clocks_due (origin p c.map) + w → At (Execute2 a) A n w p c → Gives A n w (Execute2 a) c t q d
  completed a v u r boundary lock left is te qe after count at =
      let none = begun_busy c.transfer None (request_of a) at.0.busy in
      let total = ap clocks_due at.0.mid.0 in
      given_as A n w (Execute2 a) c t (Ended Done) q r d (finished (request_of a) c) te qe after
      (ending A n w (Execute2 a) p c r (finished (request_of a) c) Done u boundary (lock ∙ at.0.mid.3) refl at.0.mid.0 at.0.mid.1 left is
      (omega (arith, count, none, total)))

  execute2_ends : (a : Access) (e : End) → end_in (request_of a) c.map ≡ e →
      Ends e (completes a p) (stage_of a) (request_of a).address p t q → d ≡ finished (request_of a) c → n + 1 ≡ clocks_due (origin p c.map) + w →
      At (Execute2 a) A n w p c → Gives A n w (Execute2 a) c t q d
  execute2_ends (access.Load x r) (Ok v) is h after count at =
      completed (access.Load x r) v (accessed (access.Load x r) p.pc (Ok v) (origin p c.map)).1 (latching r v p.flags p) refl refl
      (at.1 ∙ ap (λ (e : End). accessed (access.Load x r) p.pc e (origin p c.map)) is) refl h.0 h.1 after count at
  execute2_ends (access.Store x v) (Ok y) is h after count at =
      completed (access.Store x v) y (accessed (access.Store x v) p.pc (Ok y) (origin p c.map)).1 (going Fetch0 p) refl refl
      (at.1 ∙ ap (λ (e : End). accessed (access.Store x v) p.pc e (origin p c.map)) is)
      (shown_at_last p (finished (request_of (access.Store x v)) c).map (finished (request_of (access.Store x v)) c).map at.0.mid.2 refl p.pc p.pc refl)
      h.0 h.1 after count at
  execute2_ends (access.Load x r) (Err why) is h after count at =
      halts (access.Load x r) why is (at.1 ∙ ap (λ (e : End). accessed (access.Load x r) p.pc e (origin p c.map)) is) h after at
  execute2_ends (access.Store x v) (Err why) is h after count at =
      halts (access.Store x v) why is (at.1 ∙ ap (λ (e : End). accessed (access.Store x v) p.pc e (origin p c.map)) is) h after at

  pub execute2 : (a : Access) → p.control ≡ Execute2 a → At (Execute2 a) A n w p c → Did (row_of (Execute2 a) p) p c t q d →
      Gives A n w (Execute2 a) c t q d
  execute2 a k at did =
      polling A n w (Execute2 a) p c t q d (request_of a) 1 (clocks_due (origin p c.map)) (completes a p) (stage_of a) (request_of a).address
      k at.0 did (λ v h. (h, at.1)) (λ v. omega arith)
      (λ h after count. execute2_ends a (end_in (request_of a) c.map) refl h after count at)
