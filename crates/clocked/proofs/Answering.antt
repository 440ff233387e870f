-- Every call has an answer at every configuration.
use Rattle.std.specs.Option.{option_map}
use Rattle.std.proofs.Common.{◌≡◌, ℕ, zero, suc, true, false, Some, None, Ok, Err, Option, Result, refl, arith}
use Rattle.refusal.specs.declared.Refusal.{Refusal}
use Rattle.refusal.specs.Unless.{UnlessRefused}
use Rattle.card.specs.declared.transfer.Request.{Request}
use Rattle.card.specs.declared.transfer.Transfer.{Transfer}
use Rattle.card.specs.Ends.{End, end_of}
use Rattle.card.specs.Meaning.{Meaning, waiting, finished, idle}
use Rattle.machine.specs.Axes.{axis_number}
use Rattle.machine.specs.declared.fault.Stage.{Stage}
use Rattle.machine.specs.declared.machine.Outcome.TheVariants.{Halted}
use Rattle.clocked.specs.declared.key.Key.{Key}
use Rattle.clocked.specs.declared.key.NotTaken.{NotTaken}
use Rattle.clocked.specs.declared.tick.Tick.{Tick}
use Rattle.clocked.specs.declared.processor.Processor.{Processor}
use Rattle.clocked.specs.declared.tick.Answer.{Answer}
use Rattle.clocked.specs.declared.tick.Answer.TheVariants.{On, Waiting, Ended}
use Rattle.clocked.specs.Calls.{Did, Ends, Polls, PollsFrom, Accepted, not_taken}
use Rattle.clocked.specs.Changes.{written_back, halting, restarting, locking, setting}
use Rattle.clocked.specs.Control.{named}
use Rattle.clocked.specs.Promise.{Answered}
use Rattle.clocked.specs.Refusals.{when_transfer, clock_refusal, reset_refusal, draw_refusal, key_refusal}
use Rattle.clocked.specs.Runs.{Config, config, Call, call_of, to_clock, to_reset, to_draw, to_set, to_give_back, clocked, reset, drawn, set, given, Made, MadeBy, Event}
use Rattle.clocked.specs.Table.{Move, Row, moves, begins, polls, row_of}
use Rattle.clocked.proofs.Calling.{no_lock, no_halt}
use Rattle.clocked.proofs.Steps.{some_none}

-- An answer, and what is there afterwards.
record Done (P : Answer → Processor → Meaning → Type 0) : Type 0 where
  answer : Answer
  processor : Processor
  card : Meaning
  did : P answer processor card

module _ (p : Processor) (c : Meaning) where
  ended : (take : ℕ → Move) (s : Stage) (a : ℕ) (b : Request) (x : End) →
      Done (λ t q d. Ends x take s a p t q × (d ≡ finished b c))
  ended take s a b (Ok w) = record { answer = (take w).0; processor = (take w).1; card = finished b c; did = ((refl, refl), refl) }
  ended take s a b (Err why) =
      record { answer = Ended Halted; processor = halting s a why p; card = finished b c; did = ((refl, refl), refl) }

  polled : (take : ℕ → Move) (s : Stage) (a : ℕ) (b : Request) (w : ℕ) → Done (Polls w b take s a p c)
  polled take s a b zero = ended take s a b (end_of b.direction (c.map b.address))
  polled take s a b (suc w) = record { answer = Waiting; processor = p; card = waiting b w c; did = (refl, refl, refl) }

  from : (take : ℕ → Move) (s : Stage) (a : ℕ) (x : Option Transfer) → when_transfer (polls take s a) x ≡ None → Done (PollsFrom x take s a p c)
  from take s a None e = elim (some_none _ e) [ ]
  from take s a (Some t) e = polled take s a t.request t.waits

  by_row : (r : Row) → when_transfer r c.transfer ≡ None → Done (Did r p c)
  by_row (moves m) e = record { answer = m.0; processor = m.1; card = c; did = (refl, refl, refl) }
  by_row (begins b n) e = record { answer = On; processor = n; card = waiting b 0 c; did = (refl, refl, (refl, omega arith)) }
  by_row (polls take s a) e = from take s a c.transfer e

module _ (p : Processor) (c : Meaning) where
  gives : (e : Event) (q : Processor) (d : Meaning) → MadeBy e (config p c) (config q d) → Answered Made (config p c) (call_of e)
  gives e q d m = record { entry = record { before = config p c; event = e; after = config q d }; made = m; here = refl; of_call = refl }

  clock_answers : (x : Option Refusal) → clock_refusal p c ≡ x →
      ((r : Result Tick Refusal) (q : Processor) (d : Meaning) → UnlessRefused x r ((q ≡ p) × (d ≡ c)) (Accepted r p c q d) → MadeBy (clocked r) (config p c) (config q d)) →
      Answered Made (config p c) to_clock
  clock_answers (Some e) is made = gives (clocked (Err e)) p c (made (Err e) p c (refl, (refl, refl)))
  clock_answers None is made =
      let free = no_lock p.locked _ is in
      let free = (no_halt p.fault _ free.1).1 in
      let r = by_row p c (row_of p.control p) free in
      let t : Tick = record { state = named p.control; answer = r.answer } in
      gives (clocked (Ok t)) r.processor r.card (made (Ok t) r.processor r.card (refl, r.did))

  reset_answers : (x : Option Refusal) →
      ((r : Result (Unit {0}) Refusal) (q : Processor) (d : Meaning) → UnlessRefused x r ((q ≡ p) × (d ≡ c)) ((r ≡ Ok tt) × (q ≡ restarting (written_back p)) × (d ≡ idle c)) → MadeBy (reset r) (config p c) (config q d)) →
      Answered Made (config p c) to_reset
  reset_answers (Some e) made = gives (reset (Err e)) p c (made (Err e) p c (refl, (refl, refl)))
  reset_answers None made =
      gives (reset (Ok tt)) (restarting (written_back p)) (idle c) (made (Ok tt) (restarting (written_back p)) (idle c) (refl, refl, refl))

  draw_answers : (x : Option Refusal) →
      ((r : Result Key Refusal) (q : Processor) → UnlessRefused x r (q ≡ p) ((r ≡ Ok (record { axis = axis_number p.axis })) × (q ≡ locking true (written_back p))) → MadeBy (drawn r) (config p c) (config q c)) →
      Answered Made (config p c) to_draw
  draw_answers (Some e) made = gives (drawn (Err e)) p c (made (Err e) p (refl, refl))
  draw_answers None made =
      let k : Key = record { axis = axis_number p.axis } in
      gives (drawn (Ok k)) (locking true (written_back p)) c (made (Ok k) (locking true (written_back p)) (refl, refl))

  set_answers : (k : Key) (n w : ℕ) (x : Option Refusal) →
      ((r : Result (Unit {0}) Refusal) (q : Processor) → UnlessRefused x r (q ≡ p) ((r ≡ Ok tt) × (q ≡ setting n w p)) → MadeBy (set k n w r) (config p c) (config q c)) →
      Answered Made (config p c) (to_set k n w)
  set_answers k n w (Some e) made = gives (set k n w (Err e)) p c (made (Err e) p (refl, refl))
  set_answers k n w None made = gives (set k n w (Ok tt)) (setting n w p) c (made (Ok tt) (setting n w p) (refl, refl))

  given_answers : (k : Key) (x : Option Refusal) →
      ((r : Result (Unit {0}) NotTaken) (q : Processor) → UnlessRefused (option_map (not_taken k) x) r (q ≡ p) ((r ≡ Ok tt) × (q ≡ locking false p)) → MadeBy (given k r) (config p c) (config q c)) →
      Answered Made (config p c) (to_give_back k)
  given_answers k (Some e) made =
      gives (given k (Err (not_taken k e))) p c (made (Err (not_taken k e)) p (refl, refl))
  given_answers k None made = gives (given k (Ok tt)) (locking false p) c (made (Ok tt) (locking false p) (refl, refl))

pub answers : (c : Config) (x : Call) → Answered Made c x
answers c to_clock = clock_answers c.processor c.card (clock_refusal c.processor c.card) refl (λ r q d h. h)
answers c to_reset = reset_answers c.processor c.card (reset_refusal c.processor) (λ r q d h. h)
answers c to_draw = draw_answers c.processor c.card (draw_refusal c.processor) (λ r q h. (h, refl))
answers c (to_set k n w) = set_answers c.processor c.card k n w (key_refusal k c.processor) (λ r q h. (h, refl))
answers c (to_give_back k) = given_answers c.processor c.card k (key_refusal k c.processor) (λ r q h. (h, refl))
