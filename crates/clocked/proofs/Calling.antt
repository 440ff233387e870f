-- What one call gives, of whichever kind and answer.
use Rattle.std.specs.Option.{option_map}
use Rattle.std.proofs.Common.{◌≡◌, ℕ, ◌+◌, Bool, true, false, cond, ◌&&◌, Some, None, Ok, Err, Option, Result, sym, refl, ap, ◌∙◌, subst}
use Rattle.refusal.specs.declared.Refusal.{Refusal}
use Rattle.refusal.specs.Unless.{UnlessRefused}
use Rattle.card.specs.Meaning.{Meaning, idle}
use Rattle.machine.specs.declared.fault.Fault.{Fault}
use Rattle.machine.specs.Axes.{axis_number}
use Rattle.machine.specs.Registers.{put}
use Rattle.machine.specs.State.{State}
use Rattle.clocked.specs.declared.control.Control.{Control}
use Rattle.clocked.specs.declared.control.Control.TheVariants.{Fetch0, Fetch1, Fetch2, Decode, DispFetch0, DispFetch1, DispFetch2, Execute0, Execute1, Execute2}
use Rattle.clocked.specs.declared.key.Key.{Key}
use Rattle.clocked.specs.declared.key.NotTaken.{NotTaken}
use Rattle.clocked.specs.declared.pending.Pending.{Pending}
use Rattle.clocked.specs.declared.processor.Processor.{Processor}
use Rattle.clocked.specs.declared.tick.Answer.{Answer}
use Rattle.clocked.specs.declared.tick.Tick.{Tick}
use Rattle.clocked.specs.Calls.{Did, Accepted, not_taken}
use Rattle.clocked.specs.Refusals.{when_locked, when_halted, clock_refusal, reset_refusal, draw_refusal, key_refusal, is_fetch0, is_at_rest, fits}
use Rattle.clocked.specs.Comparison.{compared_after, with_register, since_after, begun, out_after}
use Rattle.clocked.specs.Changes.{written_back, restarting, locking, setting}
use Rattle.clocked.specs.Processor.{axis_state, storing}
use Rattle.clocked.specs.Entries.{Answers, DidRow, Took, refusal_of, refusal_due, Unchanged, KeyStays}
use Rattle.clocked.specs.Runs.{Config, config, outcome_of, tick_of, Event, clocked, reset, drawn, set, given, MadeBy}
use Rattle.clocked.specs.Table.{row_of}
use Rattle.clocked.proofs.Invariant.{At, Inv, Rest, Mid, μ}
use Rattle.clocked.proofs.Gives.{Gives, FallsBy}
use Rattle.clocked.proofs.Fetching.{fetch0, fetch1, fetch2}
use Rattle.clocked.proofs.Displacing.{disp0, disp1, disp2}
use Rattle.clocked.proofs.Decoding.{decode}
use Rattle.clocked.proofs.Executing.{execute0, execute1, execute2}
use Rattle.clocked.proofs.Resting.{Where, rests, goes, whereabouts, not_resting, restarting_as}
use Rattle.clocked.proofs.Steps.{never_both, some_none}

abbrev pub FallsAfter : Event → ℕ → ℕ → Type 0
FallsAfter (clocked (Ok t)) x y = FallsBy t.answer x y
FallsAfter (clocked (Err e)) x y = Unit {0}
FallsAfter (reset r) x y = Unit {0}
FallsAfter (drawn r) x y = Unit {0}
FallsAfter (set k n w r) x y = Unit {0}
FallsAfter (given k r) x y = Unit {0}

pub record Follows (A : State) (n w : ℕ) (b : Config) (e : Event) (a : Config) : Type 0 where
  pub inv : Inv (compared_after e A) (since_after e 1 n) (since_after e (begun b.card.transfer a.card.transfer) w) a.processor a.card
  pub answers : Answers (outcome_of e) A
  pub row : DidRow (tick_of e) b a
  pub took : Took (outcome_of e) A n (w + begun b.card.transfer a.card.transfer)
  pub refused : refusal_of e ≡ refusal_due e b
  pub unchanged : Unchanged (refusal_of e) b a
  pub stays : KeyStays e
  pub locked : a.processor.locked ≡ out_after e b.processor.locked
  pub falls : FallsAfter e (μ b.processor b.card) (μ a.processor a.card)

same_config : (p q : Processor) (c d : Meaning) → q ≡ p → d ≡ c → config q d ≡ config p c
same_config p q c d qp dc = ap (λ (x : Processor). config x d) qp ∙ ap (λ (x : Meaning). config p x) dc

-- An accepted clock does the row of its state.
module _ (A : State) (n w : ℕ) (p : Processor) (c : Meaning) (t : Answer) (q : Processor) (d : Meaning)
    (unhalted : p.fault ≡ None) (unlocked : p.locked ≡ false) where
  by_state : (k : Control) → p.control ≡ k → At k A n w p c → Did (row_of k p) p c t q d → Gives A n w k c t q d
  by_state Fetch0 e at did = fetch0 A n w p c t q d unhalted unlocked at did
  by_state Fetch1 e at did = fetch1 A n w p c t q d at did
  by_state Fetch2 e at did = fetch2 A n w p c t q d e at did
  by_state (Decode i) e at did = decode A n w i p c t q d at did
  by_state (DispFetch0 i) e at did = disp0 A n w i p c t q d at did
  by_state (DispFetch1 i) e at did = disp1 A n w i p c t q d at did
  by_state (DispFetch2 i) e at did = disp2 A n w i p c t q d e at did
  by_state (Execute0 i v) e at did = execute0 A n w i v p c t q d at did
  by_state (Execute1 a) e at did = execute1 A n w a p c t q d at did
  by_state (Execute2 a) e at did = execute2 A n w p c t q d a e at did

-- A call that is not refused has not what it would be refused for.
pub no_lock : (l : Bool) (x : Option Refusal) → when_locked l x ≡ None → (l ≡ false) × (x ≡ None)
no_lock false x e = (refl, e)
no_lock true x e = elim (some_none _ e) [ ]

pub no_halt : (f : Option Fault) (x : Option Refusal) → when_halted f x ≡ None → (f ≡ None) × (x ≡ None)
no_halt None x e = (refl, e)
no_halt (Some f) x e = elim (some_none _ e) [ ]

pub holds : (b : Bool) (r : Refusal) → cond b None (Some r) ≡ None → b ≡ true
holds true r e = refl
holds false r e = elim (some_none _ e) [ ]

pub second : (a b : Bool) → (a && b) ≡ true → b ≡ true
second true b e = e
second false b e = elim (never_both false refl e) [ ]

-- An event that is no accepted clock: no answer, row or count is asked of it.
abbrev Silent : Event → Type 0
Silent (clocked (Ok t)) = ⊥
Silent (clocked (Err e)) = Unit {0}
Silent (reset r) = Unit {0}
Silent (drawn r) = Unit {0}
Silent (set k n w r) = Unit {0}
Silent (given k r) = Unit {0}

record Silence (A : State) (n w x y : ℕ) (b : Config) (e : Event) (a : Config) : Type 0 where
  answers : Answers (outcome_of e) A
  row : DidRow (tick_of e) b a
  took : Took (outcome_of e) A n w
  falls : FallsAfter e x y

silence : (A : State) (n w x y : ℕ) (b : Config) (e : Event) (a : Config) → Silent e → Silence A n w x y b e a
silence A n w x y b (clocked (Ok t)) a h = elim h [ ]
silence A n w x y b (clocked (Err e)) a h = record { answers = tt; row = tt; took = tt; falls = tt }
silence A n w x y b (reset r) a h = record { answers = tt; row = tt; took = tt; falls = tt }
silence A n w x y b (drawn r) a h = record { answers = tt; row = tt; took = tt; falls = tt }
silence A n w x y b (set k m v r) a h = record { answers = tt; row = tt; took = tt; falls = tt }
silence A n w x y b (given k r) a h = record { answers = tt; row = tt; took = tt; falls = tt }

module _ (A : State) (n w : ℕ) (p : Processor) (c : Meaning) (inv : Inv A n w p c) where
  -- The invariant of what a refused call leaves.
  kept : (q : Processor) (d : Meaning) → q ≡ p → d ≡ c → Inv A n w q d
  kept q d qp dc = subst (λ (x : Config). Inv A n w x.processor x.card) (sym (same_config p q c d qp dc)) inv

  -- A call of which no answer, row or count is asked.
  quietly : (e : Event) (a : Config) → Silent e →
      Inv (compared_after e A) (since_after e 1 n) (since_after e (begun c.transfer a.card.transfer) w) a.processor a.card →
      refusal_of e ≡ refusal_due e (config p c) → Unchanged (refusal_of e) (config p c) a → KeyStays e →
      a.processor.locked ≡ out_after e p.locked → Follows A n w (config p c) e a
  quietly e a silent after refused unchanged stays locked =
      let s = silence A n (w + begun c.transfer a.card.transfer) (μ p c) (μ a.processor a.card) (config p c) e a silent in
      record {
        inv = after;
        answers = s.answers;
        row = s.row;
        took = s.took;
        refused = refused;
        unchanged = unchanged;
        stays = stays;
        locked = locked;
        falls = s.falls;
      }

  -- Clock.
  accepted : (r : Result Tick Refusal) (q : Processor) (d : Meaning) → clock_refusal p c ≡ None → Accepted r p c q d →
      Follows A n w (config p c) (clocked r) (config q d)
  accepted (Err e) q d none h = elim h [ ]
  accepted (Ok t) q d none h =
      let free = no_lock p.locked _ none in
      let unhalted = (no_halt p.fault _ free.1).0 in
      let g = by_state A n w p c t.answer q d unhalted free.0 p.control refl inv h.1 in
      record {
        inv = g.inv;
        answers = g.answers;
        row = h;
        took = g.took;
        refused = sym none;
        unchanged = tt;
        stays = tt;
        locked = g.unlocked ∙ sym free.0;
        falls = g.falls;
      }

  clock_unless : (x : Option Refusal) → clock_refusal p c ≡ x → (r : Result Tick Refusal) (q : Processor) (d : Meaning) →
      UnlessRefused x r ((q ≡ p) × (d ≡ c)) (Accepted r p c q d) → Follows A n w (config p c) (clocked r) (config q d)
  clock_unless None is r q d h = accepted r q d is h
  clock_unless (Some e) is r q d h =
      subst (λ (y : Result Tick Refusal). Follows A n w (config p c) (clocked y) (config q d)) (sym h.0)
      (quietly (clocked (Err e)) (config q d) tt (kept q d h.1.0 h.1.1) (sym is) (same_config p q c d h.1.0 h.1.1) tt
      (ap (λ (y : Processor). y.locked) h.1.0))

  -- Reset.
  reset_unless : (x : Option Refusal) → reset_refusal p ≡ x → (r : Result (Unit {0}) Refusal) (q : Processor) (d : Meaning) →
      UnlessRefused x r ((q ≡ p) × (d ≡ c)) ((r ≡ Ok tt) × (q ≡ restarting (written_back p)) × (d ≡ idle c)) → Follows A n w (config p c) (reset r) (config q d)
  reset_unless None is r q d h =
      subst (λ (y : Result (Unit {0}) Refusal). Follows A n w (config p c) (reset y) (config q d)) (sym h.0)
      (subst (λ (y : Config). Follows A n w (config p c) (reset (Ok tt)) y)
      (sym (same_config (restarting (written_back p)) q (idle c) d h.1 h.2))
      (quietly (reset (Ok tt)) (config (restarting (written_back p)) (idle c)) tt
      (record {
        agrees = restarting_as A n w p c (whereabouts p.control A n w p c inv);
        idle = refl;
        clocks = refl;
        waits = refl;
        stored = λ l. refl;
      })
      (sym is) tt tt refl))
  reset_unless (Some e) is r q d h =
      subst (λ (y : Result (Unit {0}) Refusal). Follows A n w (config p c) (reset y) (config q d)) (sym h.0)
      (quietly (reset (Err e)) (config q d) tt (kept q d h.1.0 h.1.1) (sym is) (same_config p q c d h.1.0 h.1.1) tt
      (ap (λ (y : Processor). y.locked) h.1.0))

  -- At rest, the processor q of a key's call has the same to show, or the register that was set.
  module _ (B : State) (q : Processor) where
    resting : (p.control ≡ Fetch0 → Rest A n w p c → Rest B n w q c) → q.control ≡ p.control →
        (is_fetch0 p.control ≡ false → Mid A p c → ⊥) → Inv B n w q c
    resting at same never = from (whereabouts p.control A n w p c inv)
      where
        from : Where p.control A n w p c → Inv B n w q c
        from (rests k h) = subst (λ (y : Control). At y B n w q c) (sym (same ∙ k)) (at k h)
        from (goes k h) = elim (never k h) [ ]

  -- Draw.
  draw_unless : (x : Option Refusal) → draw_refusal p ≡ x → (r : Result Key Refusal) (q : Processor) (d : Meaning) →
      UnlessRefused x r (q ≡ p) ((r ≡ Ok (record { axis = axis_number p.axis })) × (q ≡ locking true (written_back p))) → d ≡ c → Follows A n w (config p c) (drawn r) (config q d)
  draw_unless None is r q d h dc =
      let free = no_lock p.locked _ is in
      let at = holds (is_at_rest p) _ free.1 in
      subst (λ (y : Result Key Refusal). Follows A n w (config p c) (drawn y) (config q d)) (sym h.0)
      (subst (λ (y : Config). Follows A n w (config p c) (drawn (Ok (record { axis = axis_number p.axis }))) y)
      (sym (same_config (locking true (written_back p)) q c d h.1 dc))
      (quietly (drawn (Ok (record { axis = axis_number p.axis }))) (config (locking true (written_back p)) c) tt
      (resting A (locking true (written_back p))
      (λ k h. record { agrees = h.agrees; idle = h.idle; clocks = h.clocks; waits = h.waits; stored = λ l. refl }) refl
      (λ k h. never_both _ (not_resting A n w p c k h) at))
      (sym is) tt tt refl))
  draw_unless (Some e) is r q d h dc =
      subst (λ (y : Result Key Refusal). Follows A n w (config p c) (drawn y) (config q d)) (sym h.0)
      (quietly (drawn (Err e)) (config q d) tt (kept q d h.1 dc) (sym is) (same_config p q c d h.1 dc) tt
      (ap (λ (y : Processor). y.locked) h.1))

  -- A register is set only while the key is out, and then no result is pending.
  setting_as : (m v : ℕ) → p.pending ≡ None → A ≡ axis_state p c.map → with_register m v A ≡ axis_state (setting m v p) c.map
  setting_as m v none agrees =
      ap (with_register m v) agrees
      ∙ ap (λ (z : Option Pending). with_register m v (record { axis = p.axis; registers = storing z p.registers.words; pc = p.pc; flags = p.flags; map = c.map; fault = p.fault })) none
      ∙ ap (λ (z : Option Pending). record { axis = p.axis; registers = storing z (put p.registers.words m v); pc = p.pc; flags = p.flags; map = c.map; fault = p.fault }) (sym none)

  set_unless : (k : Key) (m v : ℕ) (x : Option Refusal) → key_refusal k p ≡ x → (r : Result (Unit {0}) Refusal) (q : Processor) (d : Meaning) →
      UnlessRefused x r (q ≡ p) ((r ≡ Ok tt) × (q ≡ setting m v p)) → d ≡ c → Follows A n w (config p c) (set k m v r) (config q d)
  set_unless k m v None is r q d h dc =
      let out = second _ p.locked (holds (fits k p) _ is) in
      subst (λ (y : Result (Unit {0}) Refusal). Follows A n w (config p c) (set k m v y) (config q d)) (sym h.0)
      (subst (λ (y : Config). Follows A n w (config p c) (set k m v (Ok tt)) y)
      (sym (same_config (setting m v p) q c d h.1 dc))
      (quietly (set k m v (Ok tt)) (config (setting m v p) c) tt
      (resting (with_register m v A) (setting m v p)
      (λ at h. record {
        agrees = setting_as m v (h.stored out) h.agrees;
        idle = h.idle;
        clocks = h.clocks;
        waits = h.waits;
        stored = h.stored;
      }) refl
      (λ at h. never_both p.locked h.3 out))
      (sym is) tt tt refl))
  set_unless k m v (Some e) is r q d h dc =
      subst (λ (y : Result (Unit {0}) Refusal). Follows A n w (config p c) (set k m v y) (config q d)) (sym h.0)
      (quietly (set k m v (Err e)) (config q d) tt (kept q d h.1 dc) (sym is) (same_config p q c d h.1 dc) tt
      (ap (λ (y : Processor). y.locked) h.1))

  -- Give back.
  given_unless : (k : Key) (x : Option Refusal) → key_refusal k p ≡ x → (r : Result (Unit {0}) NotTaken) (q : Processor) (d : Meaning) →
      UnlessRefused (option_map (not_taken k) x) r (q ≡ p) ((r ≡ Ok tt) × (q ≡ locking false p)) → d ≡ c → Follows A n w (config p c) (given k r) (config q d)
  given_unless k None is r q d h dc =
      let out = second _ p.locked (holds (fits k p) _ is) in
      subst (λ (y : Result (Unit {0}) NotTaken). Follows A n w (config p c) (given k y) (config q d)) (sym h.0)
      (subst (λ (y : Config). Follows A n w (config p c) (given k (Ok tt)) y)
      (sym (same_config (locking false p) q c d h.1 dc))
      (quietly (given k (Ok tt)) (config (locking false p) c) tt
      (resting A (locking false p)
      (λ at h. record {
        agrees = h.agrees;
        idle = h.idle;
        clocks = h.clocks;
        waits = h.waits;
        stored = λ l. elim (never_both false refl l) [ ];
      }) refl
      (λ at h. never_both p.locked h.3 out))
      (sym is) tt tt refl))
  given_unless k (Some e) is r q d h dc =
      subst (λ (y : Result (Unit {0}) NotTaken). Follows A n w (config p c) (given k y) (config q d)) (sym h.0)
      (quietly (given k (Err (not_taken k e))) (config q d) tt (kept q d h.1 dc) (sym is) (same_config p q c d h.1 dc) refl
      (ap (λ (y : Processor). y.locked) h.1))

  pub follows : (e : Event) (a : Config) → MadeBy e (config p c) a → Follows A n w (config p c) e a
  follows (clocked r) a h = clock_unless (clock_refusal p c) refl r a.processor a.card h
  follows (reset r) a h = reset_unless (reset_refusal p) refl r a.processor a.card h
  follows (drawn r) a h = draw_unless (draw_refusal p) refl r a.processor a.card h.0 h.1
  follows (set k m v r) a h = set_unless k m v (key_refusal k p) refl r a.processor a.card h.0 h.1
  follows (given k r) a h = given_unless k (key_refusal k p) refl r a.processor a.card h.0 h.1
