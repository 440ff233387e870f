-- An accepted clock keeps the laws of a clock, and latches what the next state is to have. A is the comparison machine.
use Rattle.std.proofs.Common.{is_some, ◌≡◌, ℕ, zero, suc, Bool, true, false, Some, None, Ok, Err, Option, List, sym, refl, ap, ◌∙◌, subst, arith}
use Rattle.std.specs.Option.{option_map, IsSomeAnd}
use Rattle.card.specs.declared.cell.Cell.{Cell}
use Rattle.card.specs.declared.cell.Cell.TheVariants.{Absent, Fixed, Open}
use Rattle.card.specs.declared.transfer.Direction.TheVariants.{Read, Write}
use Rattle.card.specs.declared.transfer.Request.{Request}
use Rattle.card.specs.declared.transfer.Transfer.{Transfer}
use Rattle.card.specs.Cells.{Map}
use Rattle.card.specs.Ends.{End, end_of, leaves_at, stored}
use Rattle.card.specs.Meaning.{Meaning, waiting, finished}
use Rattle.isa.specs.declared.fields.Instruction.{Instruction}
use Rattle.isa.specs.declared.opcodes.Class.{Class}
use Rattle.isa.specs.declared.opcodes.Class.TheVariants.{Arithmetic, ArithmeticQuick, Logical, Load, Store, Branch, BranchIndexed, Unknown}
use Rattle.isa.specs.declared.opcodes.Form.{Form}
use Rattle.isa.specs.declared.opcodes.Form.TheVariants.{Long, Quick}
use Rattle.isa.specs.Alu.{Answer as AluAnswer}
use Rattle.isa.specs.Fields.{instruction_of, immediate_of}
use Rattle.isa.specs.Opcodes.{class_of}
use Rattle.machine.specs.declared.fault.Stage.{Stage}
use Rattle.machine.specs.declared.fault.Stage.TheVariants as stage
use Rattle.card.specs.declared.cell.AccessFault.{AccessFault}
use Rattle.machine.specs.declared.machine.Outcome.TheVariants.{Done, Halted}
use Rattle.machine.specs.Registers.{put}
use Rattle.machine.specs.State.{State, plus}
use Rattle.machine.specs.Laws.{PlusDisplacement}
use Rattle.machine.specs.Step.{register}
use Rattle.clocked.specs.declared.access.Access.{Access}
use Rattle.clocked.specs.declared.access.Access.TheVariants as access
use Rattle.clocked.specs.declared.control.Control.{Control}
use Rattle.clocked.specs.declared.control.Control.TheVariants.{Fetch0, Fetch1, Fetch2, Decode, DispFetch0, DispFetch1, DispFetch2, Execute0, Execute1, Execute2}
use Rattle.clocked.specs.declared.control.ControlState.{ControlState}
use Rattle.clocked.specs.declared.control.ControlState.TheVariants as state
use Rattle.clocked.specs.declared.pending.Pending.{Pending}
use Rattle.clocked.specs.declared.processor.Processor.{Processor}
use Rattle.clocked.specs.declared.tick.Answer.{Answer}
use Rattle.clocked.specs.declared.tick.Answer.TheVariants.{On, Waiting, Ended}
use Rattle.clocked.specs.Calls.{Did, Ends, Polls, PollsFrom, waits_left}
use Rattle.clocked.specs.Changes.{written_back, going, going_at, noting, latching, halting}
use Rattle.clocked.specs.ClockLaws.{fetched_as, under_way, class_under_way, PutInR3, RegistersChange, CellsChange, FlagsChange, PcChanges, PollsTransfer, StoredFromR3, ClockLaws}
use Rattle.clocked.specs.Comparison.{compared_by}
use Rattle.clocked.specs.Control.{named, reads_at, request_of, stage_of}
use Rattle.clocked.specs.Processor.{storing, registers_of}
use Rattle.clocked.specs.Refusals.{is_fetch0}
use Rattle.clocked.specs.Runs.{outcome_by, config}
use Rattle.clocked.specs.Table.{Move, on_to, decodes, executes, latches, branches, skipping, completes, row_of}
use Rattle.clocked.proofs.Executing.{fault_leaves}
use Rattle.clocked.proofs.Invariant.{At, Mid, Busy, class_in, taken_in, end_in}
use Rattle.clocked.proofs.Latched.{Latched, IsLong, Executes, AccessOf}
use Rattle.clocked.proofs.Polling.{PollGives, waits, ends, polled}

pub record Obeys (A : State) (k : Control) (t : Answer) (p : Processor) (c : Meaning) (q : Processor) (d : Meaning) : Type 0 where
  pub laws : ClockLaws A (named k) t (config p c) (config q d)
  pub latched : Latched q.control (compared_by t A)
  pub rests : is_fetch0 q.control ≡ is_some (outcome_by t)
  pub patience : d.patience ≡ c.patience

module _ (A : State) (k : Control) (t u : Answer) (p : Processor) (c : Meaning) (q r : Processor) (d e : Meaning) where
  obeys_as : t ≡ u → q ≡ r → d ≡ e → Obeys A k u p c r e → Obeys A k t p c q d
  obeys_as tu qr de g =
      subst (λ (x : Answer). Obeys A k x p c q d) (sym tu)
      (subst (λ (x : Processor). Obeys A k u p c x d) (sym qr)
      (subst (λ (x : Meaning). Obeys A k u p c r x) (sym de) g))

-- The laws that go by the class of the instruction under way.
module _ (A : State) (k : ControlState) (t : Answer) (p : Processor) (c : Meaning) (q : Processor) (d : Meaning) where
  abbrev Changes : Option Class → Type 0
  Changes x =
      RegistersChange k t x A (registers_of p) (registers_of q) × CellsChange k t x A c.map d.map × FlagsChange k x p.flags q.flags
      × PcChanges t k x A p.pc q.pc

  by_class : (i : Instruction) (x : Class) → under_way A ≡ Some i → class_of i.opcode ≡ x → Changes (Some x) → Changes (class_under_way A)
  by_class i x under class h =
      subst Changes (sym (ap (option_map (λ (j : Instruction). class_of j.opcode)) under ∙ ap (λ (y : Class). Some y) class)) h

module _ (A : State) (i : Instruction) (under : under_way A ≡ Some i) where
  in_r3 : (x y : List ℕ) (w : ℕ) → y ≡ put x i.r3 w → PutInR3 A x y
  in_r3 x y w e = subst (λ (u : Option Instruction). IsSomeAnd u (λ j. (w : ℕ) × (y ≡ put x j.r3 w))) (sym under) (w, e)

  stored_from_r3 : (f : Form) (x y : Map) (a : ℕ) → PlusDisplacement f i A (register A i.r1) a → y ≡ stored x a (register A i.r3) →
      StoredFromR3 f A x y
  stored_from_r3 f x y a plus e =
      subst
      (λ (u : Option Instruction). IsSomeAnd u (λ j. (a : ℕ) × PlusDisplacement f j A (register A j.r1) a × (y ≡ stored x a (register A j.r3))))
      (sym under) (a, plus, e)

-- A transfer that is polled has a wait less, or is over.
polls_at : (w : ℕ) (b : Request) (take : ℕ → Move) (s : Stage) (a : ℕ) (p : Processor) (c : Meaning) (t : Answer) (q : Processor) (d : Meaning) →
    Polls w b take s a p c t q d → PollsTransfer (Some (record { request = b; waits = w })) d.transfer
polls_at zero b take s a p c t q d h = ap (λ (m : Meaning). m.transfer) h.1
polls_at (suc w) b take s a p c t q d h = ap (λ (m : Meaning). m.transfer) h.2

polls_from : (x : Option Transfer) (take : ℕ → Move) (s : Stage) (a : ℕ) (p : Processor) (c : Meaning) (t : Answer) (q : Processor) (d : Meaning) →
    PollsFrom x take s a p c t q d → PollsTransfer x d.transfer
polls_from None take s a p c t q d h = elim h [ ]
polls_from (Some x) take s a p c t q d h = polls_at x.waits x.request take s a p c t q d h

-- A state that polls, by the laws of a clock that waits and by what it does with the end of the transfer.
module _ (A : State) (n w : ℕ) (k : Control) (p : Processor) (c : Meaning) (t : Answer) (q : Processor) (d : Meaning)
    (b : Request) (r z : ℕ) (take : ℕ → Move) (s : Stage) (a : ℕ) where
  polling : p.control ≡ k → is_fetch0 k ≡ false → Busy A n w p c b r z → PollsFrom c.transfer take s a p c t q d → Latched k A →
      ((v : ℕ) → PollsTransfer c.transfer (waiting b v c).transfer → ClockLaws A (named k) Waiting (config p c) (config p (waiting b v c))) →
      (Ends (end_in b c.map) take s a p t q → d ≡ finished b c → PollsTransfer c.transfer (finished b c).transfer → Obeys A k t p c q d) →
      Obeys A k t p c q d
  polling is between at did latched again over =
      by_outcome (waits_left c.transfer) (polled n w r z b take s a p c t q d at.busy at.count did)
    where
      goes : (e : Meaning) → d ≡ e → PollsTransfer c.transfer e.transfer
      goes e after = subst (λ (m : Meaning). PollsTransfer c.transfer m.transfer) after (polls_from c.transfer take s a p c t q d did)

      by_outcome : (x : ℕ) → PollGives n w r z b take s a p c t q d x → Obeys A k t p c q d
      by_outcome x (waits v wait same after count) =
          obeys_as A k t Waiting p c q p d (waiting b v c) wait same after
          (record { laws = again v (goes (waiting b v c) after); latched = subst (λ (y : Control). Latched y A) (sym is) latched; rests = ap is_fetch0 is ∙ between; patience = refl })
      by_outcome x (ends h after count) = over h after (goes (finished b c) after)

module _ (A : State) (p : Processor) (c : Meaning) (t : Answer) (q : Processor) (d : Meaning) where
  obeys_fetch0 : Did (row_of Fetch0 p) p c t q d → Obeys A Fetch0 t p c q d
  obeys_fetch0 did =
      obeys_as A Fetch0 t On p c q (noting Fetch1 (written_back p)) d c did.0 did.1 did.2
      (record {
        laws = record { registers = refl; cells = refl; flags = refl; pc = refl; transfer = refl; follows = (0, omega arith, refl) };
        latched = tt;
        rests = refl;
        patience = refl;
      })

  obeys_fetch1 : c.transfer ≡ None → Did (row_of Fetch1 p) p c t q d → Obeys A Fetch1 t p c q d
  obeys_fetch1 idle did =
      obeys_as A Fetch1 t On p c q (going_at Fetch2 (plus p.pc 1) p) d (waiting (reads_at p.pc) (waits_left d.transfer) c) did.0 did.1 did.2.0
      (record {
        laws = record { registers = refl; cells = refl; flags = refl; pc = refl; transfer = (idle, refl); follows = (0, omega arith, refl) };
        latched = tt;
        rests = refl;
        patience = refl;
      })

  fetch2_ends : (e : End) → end_of Read (c.map p.start) ≡ e → Mid A p c →
      Ends e (λ v. on_to (Decode (instruction_of v)) p) stage.Fetch p.start p t q → d ≡ finished (reads_at p.start) c →
      PollsTransfer c.transfer (finished (reads_at p.start) c).transfer → Obeys A Fetch2 t p c q d
  fetch2_ends (Ok v) is mid h after over =
      obeys_as A Fetch2 t On p c q (going (Decode (instruction_of v)) p) d (finished (reads_at p.start) c) h.0 h.1 after
      (record {
        laws = record { registers = refl; cells = refl; flags = refl; pc = refl; transfer = over; follows = (0, omega arith, refl) };
        latched = ap under_way mid.0 ∙ ap fetched_as is;
        rests = refl;
        patience = refl;
      })
  fetch2_ends (Err why) is mid h after over =
      obeys_as A Fetch2 t (Ended Halted) p c q (halting stage.Fetch p.start why p) d (finished (reads_at p.start) c) h.0 h.1 after
      (record {
        laws = record {
          registers = refl;
          cells = refl;
          flags = refl;
          pc = sym (ap (λ (s : State). s.pc) mid.0);
          transfer = over;
          follows = (2, omega arith, refl);
        };
        latched = tt;
        rests = refl;
        patience = refl;
      })

  obeys_fetch2 : (n w : ℕ) → p.control ≡ Fetch2 → At Fetch2 A n w p c → Did (row_of Fetch2 p) p c t q d → Obeys A Fetch2 t p c q d
  obeys_fetch2 n w is at did =
      polling A n w Fetch2 p c t q d (reads_at p.start) 0 2 (λ v. on_to (Decode (instruction_of v)) p) stage.Fetch p.start is refl at.0 did tt
      (λ v less. record {
        registers = refl;
        cells = refl;
        flags = refl;
        pc = refl;
        transfer = less;
        follows = (1, omega arith, ap (λ (x : Control). (Waiting, named x)) (sym is));
      })
      (λ h after over. fetch2_ends (end_of Read (c.map p.start)) refl at.0.mid h after over)

module _ (A : State) (i : Instruction) (p : Processor) (c : Meaning) (under : under_way A ≡ Some i) where
  to_execute : (x : Class) → class_of i.opcode ≡ x → Executes x i (immediate_of i) A →
      Obeys A (Decode i) On p c (going (Execute0 i (immediate_of i)) p) c
  to_execute x class h =
      record {
        laws = record { registers = refl; cells = refl; flags = refl; pc = refl; transfer = refl; follows = (1, omega arith, refl) };
        latched = (under, subst (λ (y : Class). Executes y i (immediate_of i) A) (sym class) h);
        rests = refl;
        patience = refl;
      }

  to_displacement : (x : Class) → class_of i.opcode ≡ x → IsLong x → Obeys A (Decode i) On p c (going (DispFetch0 i) p) c
  to_displacement x class h =
      record {
        laws = record { registers = refl; cells = refl; flags = refl; pc = refl; transfer = refl; follows = (0, omega arith, refl) };
        latched = (under, subst IsLong (sym class) h);
        rests = refl;
        patience = refl;
      }

  to_done : Obeys A (Decode i) (Ended Done) p c (going Fetch0 p) c
  to_done =
      record {
        laws = record { registers = refl; cells = refl; flags = refl; pc = refl; transfer = refl; follows = (2, omega arith, refl) };
        latched = tt;
        rests = refl;
        patience = refl;
      }

  decoded : (x : Class) (taken : Bool) → class_of i.opcode ≡ x → Obeys A (Decode i) (decodes x taken i p).0 p c (decodes x taken i p).1 c
  decoded (Arithmetic op) taken e = to_execute (Arithmetic op) e tt
  decoded (ArithmeticQuick op) taken e = to_execute (ArithmeticQuick op) e tt
  decoded (Logical op) taken e = to_execute (Logical op) e tt
  decoded (Load Long) taken e = to_displacement (Load Long) e tt
  decoded (Load Quick) taken e = to_execute (Load Quick) e tt
  decoded (Store Long) taken e = to_displacement (Store Long) e tt
  decoded (Store Quick) taken e = to_execute (Store Quick) e refl
  decoded (Branch Long) true e = to_displacement (Branch Long) e tt
  decoded (Branch Long) false e = to_execute (Branch Long) e tt
  decoded (Branch Quick) true e = to_execute (Branch Quick) e tt
  decoded (Branch Quick) false e = to_done
  decoded (BranchIndexed Long) true e = to_displacement (BranchIndexed Long) e tt
  decoded (BranchIndexed Long) false e = to_execute (BranchIndexed Long) e tt
  decoded (BranchIndexed Quick) true e = to_execute (BranchIndexed Quick) e tt
  decoded (BranchIndexed Quick) false e = to_done
  decoded Unknown taken e =
      record {
        laws = record { registers = refl; cells = refl; flags = refl; pc = refl; transfer = refl; follows = (3, omega arith, refl) };
        latched = tt;
        rests = refl;
        patience = refl;
      }

  module _ (t : Answer) (q : Processor) (d : Meaning) where
    obeys_decode : Did (row_of (Decode i) p) p c t q d → Obeys A (Decode i) t p c q d
    obeys_decode did =
        obeys_as A (Decode i) t (decodes (class_in i) (taken_in i p) i p).0 p c q (decodes (class_in i) (taken_in i p) i p).1 d c
        did.0 did.1 did.2 (decoded (class_in i) (taken_in i p) refl)

    obeys_disp0 : IsLong (class_of i.opcode) → Did (row_of (DispFetch0 i) p) p c t q d → Obeys A (DispFetch0 i) t p c q d
    obeys_disp0 long did =
        obeys_as A (DispFetch0 i) t On p c q (going (DispFetch1 i) p) d c did.0 did.1 did.2
        (record {
          laws = record { registers = refl; cells = refl; flags = refl; pc = refl; transfer = refl; follows = (0, omega arith, refl) };
          latched = (under, long);
          rests = refl;
          patience = refl;
        })

    obeys_disp1 : IsLong (class_of i.opcode) → c.transfer ≡ None → Did (row_of (DispFetch1 i) p) p c t q d → Obeys A (DispFetch1 i) t p c q d
    obeys_disp1 long idle did =
        obeys_as A (DispFetch1 i) t On p c q (going_at (DispFetch2 i) (plus p.pc 1) p) d (waiting (reads_at p.pc) (waits_left d.transfer) c)
        did.0 did.1 did.2.0
        (record {
          laws = record { registers = refl; cells = refl; flags = refl; pc = refl; transfer = (idle, refl); follows = (0, omega arith, refl) };
          latched = (under, long);
          rests = refl;
          patience = refl;
        })

    given_long : (x : Class) (v : ℕ) → IsLong x → end_of Read (A.map (plus A.pc 1)) ≡ Ok v → Executes x i v A
    given_long (Load Long) v long e = tt
    given_long (Store Long) v long e = e
    given_long (Branch Long) v long e = tt
    given_long (BranchIndexed Long) v long e = tt
    given_long x v long e = elim long [ ]

    disp2_ends : (e : End) → end_of Read (c.map (plus p.start 1)) ≡ e → Mid A p c → IsLong (class_of i.opcode) →
        Ends e (λ v. on_to (Execute0 i v) p) stage.Displacement (plus p.start 1) p t q → d ≡ finished (reads_at (plus p.start 1)) c →
        PollsTransfer c.transfer (finished (reads_at (plus p.start 1)) c).transfer → Obeys A (DispFetch2 i) t p c q d
    disp2_ends (Ok v) is mid long h after over =
        obeys_as A (DispFetch2 i) t On p c q (going (Execute0 i v) p) d (finished (reads_at (plus p.start 1)) c) h.0 h.1 after
        (record {
          laws = record { registers = refl; cells = refl; flags = refl; pc = refl; transfer = over; follows = (0, omega arith, refl) };
          latched = (under, given_long (class_of i.opcode) v long (ap (λ (s : State). end_of Read (s.map (plus s.pc 1))) mid.0 ∙ is));
          rests = refl;
          patience = refl;
        })
    disp2_ends (Err why) is mid long h after over =
        obeys_as A (DispFetch2 i) t (Ended Halted) p c q (halting stage.Displacement (plus p.start 1) why p) d
        (finished (reads_at (plus p.start 1)) c) h.0 h.1 after
        (record {
          laws = record {
            registers = refl;
            cells = refl;
            flags = refl;
            pc = sym (ap (λ (s : State). s.pc) mid.0);
            transfer = over;
            follows = (2, omega arith, refl);
          };
          latched = tt;
          rests = refl;
          patience = refl;
        })

    obeys_disp2 : (n w : ℕ) → p.control ≡ DispFetch2 i → At (DispFetch2 i) A n w p c → IsLong (class_of i.opcode) →
        Did (row_of (DispFetch2 i) p) p c t q d → Obeys A (DispFetch2 i) t p c q d
    obeys_disp2 n w is at long did =
        polling A n w (DispFetch2 i) p c t q d (reads_at (plus p.start 1)) 0 6 (λ v. on_to (Execute0 i v) p) stage.Displacement
        (plus p.start 1) is refl at.0 did (under, long)
        (λ v less. record {
          registers = refl;
          cells = refl;
          flags = refl;
          pc = refl;
          transfer = less;
          follows = (1, omega arith, ap (λ (x : Control). (Waiting, named x)) (sym is));
        })
        (λ h after over. disp2_ends (end_of Read (c.map (plus p.start 1))) refl at.0.mid long h after over)

  -- Execute_0, with the displacement v.
  module _ (v : ℕ) (mid : Mid A p c) where
    finished_as : (x : Class) (q : Processor) → class_of i.opcode ≡ x → q.control ≡ Fetch0 → Changes A state.Execute0 (Ended Done) p c q c (Some x) →
        Obeys A (Execute0 i v) (Ended Done) p c q c
    finished_as x q class boundary h =
        let g = by_class A state.Execute0 (Ended Done) p c q c i x under class h in
        record {
          laws = record {
            registers = g.0;
            cells = g.1;
            flags = g.2;
            pc = g.3;
            transfer = refl;
            follows = (1, omega arith, ap (λ (y : Control). (Ended Done, named y)) (sym boundary));
          };
          latched = subst (λ (y : Control). Latched y (compared_by (Ended Done) A)) (sym boundary) tt;
          rests = ap is_fetch0 boundary;
          patience = refl;
        }

    latched_as : (x : Class) (r : AluAnswer) → class_of i.opcode ≡ x →
        (PutInR3 A (registers_of p) (registers_of (latches r i p).1) → Changes A state.Execute0 (Ended Done) p c (latches r i p).1 c (Some x)) →
        Obeys A (Execute0 i v) (Ended Done) p c (latches r i p).1 c
    latched_as x r class h =
        finished_as x (latches r i p).1 class refl
        (h (in_r3 A i under (registers_of p) (registers_of (latches r i p).1) r.0
        (ap (λ (y : Option Pending). put (storing y p.registers.words) i.r3 r.0) (sym mid.2))))

    accesses : (x : Class) (a : Access) → class_of i.opcode ≡ x → AccessOf a A → Changes A state.Execute0 On p c (going (Execute1 a) p) c (Some x) →
        Obeys A (Execute0 i v) On p c (going (Execute1 a) p) c
    accesses x a class of h =
        let g = by_class A state.Execute0 On p c (going (Execute1 a) p) c i x under class h in
        record {
          laws = record { registers = g.0; cells = g.1; flags = g.2; pc = g.3; transfer = refl; follows = (0, omega arith, refl) };
          latched = of;
          rests = refl;
          patience = refl;
        }

    branched : (x : Class) (taken : Bool) (f : Form) (target : ℕ) → class_of i.opcode ≡ x →
        ((y : ℕ) → Changes A state.Execute0 (Ended Done) p c (going_at Fetch0 y p) c (Some x)) →
        Obeys A (Execute0 i v) (branches taken f target p).0 p c (branches taken f target p).1 c
    branched x true f target class h = finished_as x (going_at Fetch0 target p) class refl (h target)
    branched x false f target class h = finished_as x (going_at Fetch0 (skipping f p.pc) p) class refl (h (skipping f p.pc))

    executed : (x : Class) (taken : Bool) → class_of i.opcode ≡ x → Executes x i v A →
        Obeys A (Execute0 i v) (executes x taken i v p).0 p c (executes x taken i v p).1 c
    executed (Arithmetic op) taken e h = latched_as (Arithmetic op) _ e (λ r3. (r3, refl, tt, refl))
    executed (ArithmeticQuick op) taken e h = latched_as (ArithmeticQuick op) _ e (λ r3. (r3, refl, tt, refl))
    executed (Logical op) taken e h = latched_as (Logical op) _ e (λ r3. (r3, refl, tt, refl))
    executed (Load f) taken e h =
        accesses (Load f) _ e (record { instruction = i; form = f; under = under; class = e; register = refl }) (refl, refl, refl, refl)
    executed (Store f) taken e h =
        accesses (Store f) _ e
        (record {
          instruction = i;
          form = f;
          under = under;
          class = e;
          address = (v, h, ap (λ (s : State). plus (register s i.r1) v) (sym mid.0));
          word = ap (λ (s : State). register s i.r3) (sym mid.0);
        })
        (refl, refl, refl, refl)
    executed (Branch f) taken e h = branched (Branch f) taken f _ e (λ y. (refl, refl, refl, tt))
    executed (BranchIndexed f) taken e h = branched (BranchIndexed f) taken f _ e (λ y. (refl, refl, refl, tt))
    executed Unknown taken e h = elim h [ ]

    obeys_execute0 : (t : Answer) (q : Processor) (d : Meaning) → Executes (class_of i.opcode) i v A →
        Did (row_of (Execute0 i v) p) p c t q d → Obeys A (Execute0 i v) t p c q d
    obeys_execute0 t q d h did =
        obeys_as A (Execute0 i v) t (executes (class_in i) (taken_in i p) i v p).0 p c q (executes (class_in i) (taken_in i p) i v p).1 d c
        did.0 did.1 did.2 (executed (class_in i) (taken_in i p) refl h)

-- A write that ends with a word has stored it.
stores_at : (v : ℕ) (x : Cell) (f : Map) (a y : ℕ) → end_of (Write v) x ≡ Ok y → leaves_at (Write v) x f a ≡ stored f a v
stores_at v (Absent o) f a y e = let z : ◌≡◌ {A = ℕ} 0 1 = cc in elim (never z) [ ]
  where
    never : ◌≡◌ {A = ℕ} 0 1 → ⊥
    never z = omega arith
stores_at v (Fixed u o) f a y e = let z : ◌≡◌ {A = ℕ} 0 1 = cc in elim (never z) [ ]
  where
    never : ◌≡◌ {A = ℕ} 0 1 → ⊥
    never z = omega arith
stores_at v (Open u) f a y e = refl

module _ (A : State) (a : Access) (p : Processor) (c : Meaning) (t : Answer) (q : Processor) (d : Meaning) (of : AccessOf a A) where
  obeys_execute1 : c.transfer ≡ None → Did (row_of (Execute1 a) p) p c t q d → Obeys A (Execute1 a) t p c q d
  obeys_execute1 idle did =
      obeys_as A (Execute1 a) t On p c q (going (Execute2 a) p) d (waiting (request_of a) (waits_left d.transfer) c) did.0 did.1 did.2.0
      (record {
        laws = record { registers = refl; cells = refl; flags = refl; pc = refl; transfer = (idle, refl); follows = (0, omega arith, refl) };
        latched = of;
        rests = refl;
        patience = refl;
      })

module _ (A : State) (p : Processor) (c : Meaning) (t : Answer) (q : Processor) (d : Meaning) (mid : Mid A p c) where
  halts2 : (a : Access) (why : AccessFault) → end_in (request_of a) c.map ≡ Err why →
      Ends (Err why) (completes a p) (stage_of a) (request_of a).address p t q → d ≡ finished (request_of a) c →
      PollsTransfer c.transfer (finished (request_of a) c).transfer → Obeys A (Execute2 a) t p c q d
  halts2 a why is h after over =
      obeys_as A (Execute2 a) t (Ended Halted) p c q (halting (stage_of a) (request_of a).address why p) d (finished (request_of a) c) h.0 h.1 after
      (record {
        laws = record {
          registers = refl;
          cells = sym (fault_leaves (request_of a).direction (c.map (request_of a).address) c.map (request_of a).address why is);
          flags = refl;
          pc = sym (ap (λ (s : State). s.pc) mid.0);
          transfer = over;
          follows = (2, omega arith, refl);
        };
        latched = tt;
        rests = refl;
        patience = refl;
      })

  execute2_ends : (a : Access) (e : End) → AccessOf a A → end_in (request_of a) c.map ≡ e →
      Ends e (completes a p) (stage_of a) (request_of a).address p t q → d ≡ finished (request_of a) c →
      PollsTransfer c.transfer (finished (request_of a) c).transfer → Obeys A (Execute2 a) t p c q d
  execute2_ends (access.Load x r) (Ok v) of is h after over =
      let g = by_class A state.Execute2 (Ended Done) p c (latching r v p.flags p) (finished (request_of (access.Load x r)) c) of.instruction
      (Load of.form) of.under of.class (
        in_r3 A of.instruction of.under (registers_of p) (registers_of (latching r v p.flags p)) v
            (ap (λ (y : Option Pending). put (storing y p.registers.words) r v) (sym mid.2) ∙ ap (λ (y : ℕ). put (registers_of p) y v) of.register),
        refl,
        refl,
        refl,
      ) in
      obeys_as A (Execute2 (access.Load x r)) t (Ended Done) p c q (latching r v p.flags p) d (finished (request_of (access.Load x r)) c) h.0 h.1 after
      (record {
        laws = record { registers = g.0; cells = g.1; flags = g.2; pc = g.3; transfer = over; follows = (1, omega arith, refl) };
        latched = tt;
        rests = refl;
        patience = refl;
      })
  execute2_ends (access.Store x v) (Ok y) of is h after over =
      let m : Map = (finished (request_of (access.Store x v)) c).map in
      let stores : m ≡ stored c.map x v = stores_at v (c.map x) c.map x y is in
      let g = by_class A state.Execute2 (Ended Done) p c (going Fetch0 p) (finished (request_of (access.Store x v)) c) of.instruction
      (Store of.form) of.under of.class
      (refl, stored_from_r3 A of.instruction of.under of.form c.map m x of.address (stores ∙ ap (stored c.map x) of.word), refl, refl) in
      obeys_as A (Execute2 (access.Store x v)) t (Ended Done) p c q (going Fetch0 p) d (finished (request_of (access.Store x v)) c) h.0 h.1 after
      (record {
        laws = record { registers = g.0; cells = g.1; flags = g.2; pc = g.3; transfer = over; follows = (1, omega arith, refl) };
        latched = tt;
        rests = refl;
        patience = refl;
      })
  execute2_ends a (Err why) of is h after over = halts2 a why is h after over

  obeys_execute2 : (a : Access) (n w : ℕ) → p.control ≡ Execute2 a → At (Execute2 a) A n w p c → AccessOf a A →
      Did (row_of (Execute2 a) p) p c t q d → Obeys A (Execute2 a) t p c q d
  obeys_execute2 a n w is at of did =
      polling A n w (Execute2 a) p c t q d (request_of a) 1 _ (completes a p) (stage_of a) (request_of a).address is refl at.0 did of
      (λ v less. record {
        registers = refl;
        cells = refl;
        flags = refl;
        pc = refl;
        transfer = less;
        follows = (0, omega arith, ap (λ (x : Control). (Waiting, named x)) (sym is));
      })
      (λ h after over. execute2_ends a (end_in (request_of a) c.map) of refl h after over)

-- An accepted clock in the state k.
pub obeys_by : (A : State) (n w : ℕ) (k : Control) (p : Processor) (c : Meaning) (t : Answer) (q : Processor) (d : Meaning) →
    p.control ≡ k → At k A n w p c → Latched k A → Did (row_of k p) p c t q d → Obeys A k t p c q d
obeys_by A n w Fetch0 p c t q d e at l did = obeys_fetch0 A p c t q d did
obeys_by A n w Fetch1 p c t q d e at l did = obeys_fetch1 A p c t q d at.0.idle did
obeys_by A n w Fetch2 p c t q d e at l did = obeys_fetch2 A p c t q d n w e at did
obeys_by A n w (Decode i) p c t q d e at l did = obeys_decode A i p c l t q d did
obeys_by A n w (DispFetch0 i) p c t q d e at l did = obeys_disp0 A i p c l.0 t q d l.1 did
obeys_by A n w (DispFetch1 i) p c t q d e at l did = obeys_disp1 A i p c l.0 t q d l.1 at.0.idle did
obeys_by A n w (DispFetch2 i) p c t q d e at l did = obeys_disp2 A i p c l.0 t q d n w e at l.1 did
obeys_by A n w (Execute0 i v) p c t q d e at l did = obeys_execute0 A i p c l.0 v at.0.mid t q d l.1 did
obeys_by A n w (Execute1 a) p c t q d e at l did = obeys_execute1 A a p c t q d l at.0.idle did
obeys_by A n w (Execute2 a) p c t q d e at l did = obeys_execute2 A p c t q d at.0.mid a n w e at l did
