-- The clocks in fetch_0, fetch_1 and fetch_2.
use Rattle.std.proofs.Common.{◌≡◌, ℕ, ◌+◌, false, Ok, Err, None, refl, ap, ◌∙◌, arith}
use Rattle.card.specs.declared.transfer.Direction.TheVariants.{Read}
use Rattle.card.specs.Ends.{End, end_of}
use Rattle.card.specs.Meaning.{Meaning, waiting, finished}
use Rattle.isa.specs.declared.fields.Instruction.{Instruction}
use Rattle.isa.specs.Fields.{instruction_of}
use Rattle.machine.specs.declared.fault.Stage.TheVariants as stage
use Rattle.machine.specs.declared.machine.Outcome.TheVariants.{Halted}
use Rattle.machine.specs.State.{State, plus}
use Rattle.machine.specs.Step.{fetched, halt}
use Rattle.clocked.specs.declared.control.Control.TheVariants.{Fetch0, Fetch1, Fetch2, Decode}
use Rattle.clocked.specs.declared.processor.Processor.{Processor}
use Rattle.clocked.specs.declared.tick.Answer.{Answer}
use Rattle.clocked.specs.declared.tick.Answer.TheVariants.{On, Ended}
use Rattle.clocked.specs.Calls.{Did, Ends, waits_left}
use Rattle.clocked.specs.Comparison.{count_fetched}
use Rattle.clocked.specs.Control.{reads_at}
use Rattle.clocked.specs.Changes.{written_back, noting, going, going_at, halting}
use Rattle.clocked.specs.Table.{on_to, row_of}
use Rattle.clocked.proofs.Invariant.{At, origin, class_in}
use Rattle.clocked.proofs.Gives.{Gives, given_as}
use Rattle.clocked.proofs.Polling.{begun_busy}
use Rattle.clocked.proofs.Ending.{ending, polling, shown_halted}
use Rattle.clocked.proofs.Steps.{begun_same, begun_new, executed_by_class}

module _ (A : State) (n w : ℕ) (p : Processor) (c : Meaning) (t : Answer) (q : Processor) (d : Meaning) where
  pub fetch0 : p.fault ≡ None → p.locked ≡ false → At Fetch0 A n w p c → Did (row_of Fetch0 p) p c t q d → Gives A n w Fetch0 c t q d
  fetch0 unhalted unlocked h did =
      let none = begun_same c.transfer in
      given_as A n w Fetch0 c t On q (noting Fetch1 (written_back p)) d c did.0 did.1 did.2
      (record {
        inv = (
          record {
            mid = (h.agrees, unhalted, refl, unlocked);
            idle = h.idle;
            count = omega (arith, h.clocks, h.waits, none);
          },
          refl,
        );
        answers = tt;
        took = tt;
        unlocked = unlocked;
        falls = omega arith;
      })

  pub fetch1 : At Fetch1 A n w p c → Did (row_of Fetch1 p) p c t q d → Gives A n w Fetch1 c t q d
  fetch1 h did =
      let v : ℕ = waits_left d.transfer in
      let e : Meaning = waiting (reads_at p.pc) v c in
      let new = begun_new c.transfer e.transfer h.0.idle in
      let few = did.2.1 in
      given_as A n w Fetch1 c t On q (going_at Fetch2 (plus p.pc 1) p) d e did.0 did.1 did.2.0
      (record {
        inv = (
          record { mid = h.0.mid; busy = ap reads_at h.1; few = few; count = omega (arith, h.0.count, new) },
          ap (λ x. plus x 1) h.1,
        );
        answers = tt;
        took = tt;
        unlocked = h.0.mid.3;
        falls = omega arith;
      })

  fetch2_ends : (e : End) → end_of Read (c.map p.start) ≡ e → Ends e (λ v. on_to (Decode (instruction_of v)) p) stage.Fetch p.start p t q →
      d ≡ finished (reads_at p.start) c → n + 0 ≡ 2 + w → At Fetch2 A n w p c → Gives A n w Fetch2 c t q d
  fetch2_ends (Ok v) is h after count at =
      let i : Instruction = instruction_of v in
      let none = begun_busy c.transfer None (reads_at p.start) at.0.busy in
      given_as A n w Fetch2 c t On q (going (Decode i) p) d (finished (reads_at p.start) c) h.0 h.1 after
      (record {
        inv = (
          record { mid = at.0.mid; idle = refl; count = omega (arith, count, none) },
          at.1,
          record {
            left = ap (λ (x : End). fetched x (origin p c.map)) is ∙ executed_by_class (class_in i) i (origin p c.map);
            total = ap (λ (x : End). count_fetched x (origin p c.map)) is;
          },
        );
        answers = tt;
        took = tt;
        unlocked = at.0.mid.3;
        falls = omega arith;
      })
  fetch2_ends (Err why) is h after count at =
      given_as A n w Fetch2 c t (Ended Halted) q (halting stage.Fetch p.start why p) d (finished (reads_at p.start) c) h.0 h.1 after
      (ending A n w Fetch2 p c (halting stage.Fetch p.start why p) (finished (reads_at p.start) c) Halted
      (halt (origin p c.map) stage.Fetch p.start why).1
      refl at.0.mid.3 refl at.0.mid.0 at.0.mid.1 (ap (λ (x : End). fetched x (origin p c.map)) is)
      (shown_halted p c.map c.map at.0.mid.2 refl stage.Fetch p.start why) tt)

  pub fetch2 : p.control ≡ Fetch2 → At Fetch2 A n w p c → Did (row_of Fetch2 p) p c t q d → Gives A n w Fetch2 c t q d
  fetch2 k at did =
      polling A n w Fetch2 p c t q d (reads_at p.start) 0 2 (λ v. on_to (Decode (instruction_of v)) p) stage.Fetch p.start
      k at.0 did (λ v h. (h, at.1)) (λ v. omega arith)
      (λ h after count. fetch2_ends (end_of Read (c.map p.start)) refl h after count at)
