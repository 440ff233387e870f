-- The clocks in disp_fetch_0, disp_fetch_1 and disp_fetch_2.
use Rattle.std.proofs.Common.{◌≡◌, ℕ, ◌+◌, Ok, Err, None, sym, refl, ap, ◌∙◌, arith}
use Rattle.card.specs.declared.transfer.Direction.TheVariants.{Read}
use Rattle.card.specs.Ends.{End, end_of}
use Rattle.card.specs.Meaning.{Meaning, waiting, finished}
use Rattle.isa.specs.declared.fields.Instruction.{Instruction}
use Rattle.machine.specs.declared.fault.Stage.TheVariants as stage
use Rattle.machine.specs.declared.machine.Outcome.TheVariants.{Halted}
use Rattle.machine.specs.State.{State, plus}
use Rattle.machine.specs.Step.{displaced, halt}
use Rattle.clocked.specs.declared.control.Control.TheVariants.{DispFetch0, DispFetch1, DispFetch2, Execute0}
use Rattle.clocked.specs.declared.processor.Processor.{Processor}
use Rattle.clocked.specs.declared.tick.Answer.{Answer}
use Rattle.clocked.specs.declared.tick.Answer.TheVariants.{On, Ended}
use Rattle.clocked.specs.Calls.{Did, Ends, waits_left}
use Rattle.clocked.specs.Control.{reads_at}
use Rattle.clocked.specs.Changes.{going, going_at, halting}
use Rattle.clocked.specs.Table.{on_to, row_of}
use Rattle.clocked.proofs.Invariant.{At, origin, class_in, taken_in, resumed}
use Rattle.clocked.proofs.Gives.{Gives, given_as}
use Rattle.clocked.proofs.Polling.{begun_busy}
use Rattle.clocked.proofs.Ending.{ending, polling, shown_halted}
use Rattle.clocked.proofs.Steps.{begun_same, begun_new, plus_one_one}

module _ (A : State) (n w : ℕ) (i : Instruction) (p : Processor) (c : Meaning) (t : Answer) (q : Processor) (d : Meaning) where
  pub disp0 : At (DispFetch0 i) A n w p c → Did (row_of (DispFetch0 i) p) p c t q d → Gives A n w (DispFetch0 i) c t q d
  disp0 at did =
      let none = begun_same c.transfer in
      given_as A n w (DispFetch0 i) c t On q (going (DispFetch1 i) p) d c did.0 did.1 did.2
      (record {
        inv = (record { mid = at.0.mid; idle = at.0.idle; count = omega (arith, at.0.count, none) }, at.1, at.2);
        answers = tt;
        took = tt;
        unlocked = at.0.mid.3;
        falls = omega arith;
      })

  pub disp1 : At (DispFetch1 i) A n w p c → Did (row_of (DispFetch1 i) p) p c t q d → Gives A n w (DispFetch1 i) c t q d
  disp1 at did =
      let e : Meaning = waiting (reads_at p.pc) (waits_left d.transfer) c in
      let new = begun_new c.transfer e.transfer at.0.idle in
      let few = did.2.1 in
      given_as A n w (DispFetch1 i) c t On q (going_at (DispFetch2 i) (plus p.pc 1) p) d e did.0 did.1 did.2.0
      (record {
        inv = (
          record { mid = at.0.mid; busy = ap reads_at at.1; few = few; count = omega (arith, at.0.count, new) },
          ap (λ (x : ℕ). plus x 1) at.1 ∙ plus_one_one p.start,
          at.2,
        );
        answers = tt;
        took = tt;
        unlocked = at.0.mid.3;
        falls = omega arith;
      })

  disp2_ends : (e : End) → end_of Read (c.map (plus p.start 1)) ≡ e →
      Ends e (λ v. on_to (Execute0 i v) p) stage.Displacement (plus p.start 1) p t q → d ≡ finished (reads_at (plus p.start 1)) c →
      n + 0 ≡ 6 + w → At (DispFetch2 i) A n w p c → Gives A n w (DispFetch2 i) c t q d
  disp2_ends (Ok v) is h after count at =
      let none = begun_busy c.transfer None (reads_at (plus p.start 1)) at.0.busy in
      let total = at.2.total in
      given_as A n w (DispFetch2 i) c t On q (going (Execute0 i v) p) d (finished (reads_at (plus p.start 1)) c) h.0 h.1 after
      (record {
        inv = (
          record { mid = at.0.mid; idle = refl; count = omega (arith, count, none, total) },
          record {
            left = at.2.left
                ∙ ap (λ (x : End). displaced x (origin p c.map) (resumed (class_in i) (taken_in i p) i (origin p c.map))) is;
            ready = at.1 ∙ sym at.2.ready;
          },
        );
        answers = tt;
        took = tt;
        unlocked = at.0.mid.3;
        falls = omega arith;
      })
  disp2_ends (Err why) is h after count at =
      given_as A n w (DispFetch2 i) c t (Ended Halted) q (halting stage.Displacement (plus p.start 1) why p) d
      (finished (reads_at (plus p.start 1)) c) h.0 h.1 after
      (ending A n w (DispFetch2 i) p c (halting stage.Displacement (plus p.start 1) why p) (finished (reads_at (plus p.start 1)) c) Halted
      (halt (origin p c.map) stage.Displacement (plus p.start 1) why).1
      refl at.0.mid.3 refl at.0.mid.0 at.0.mid.1
      (at.2.left ∙ ap (λ (x : End). displaced x (origin p c.map) (resumed (class_in i) (taken_in i p) i (origin p c.map))) is)
      (shown_halted p c.map c.map at.0.mid.2 refl stage.Displacement (plus p.start 1) why) tt)

  pub disp2 : p.control ≡ DispFetch2 i → At (DispFetch2 i) A n w p c → Did (row_of (DispFetch2 i) p) p c t q d →
      Gives A n w (DispFetch2 i) c t q d
  disp2 k at did =
      polling A n w (DispFetch2 i) p c t q d (reads_at (plus p.start 1)) 0 6 (λ v. on_to (Execute0 i v) p) stage.Displacement
      (plus p.start 1) k at.0 did (λ v h. (h, at.1, at.2)) (λ v. omega arith)
      (λ h after count. disp2_ends (end_of Read (c.map (plus p.start 1))) refl h after count at)
