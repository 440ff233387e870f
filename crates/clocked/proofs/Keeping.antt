-- What each of the five calls keeps: the laws of a clock, what the control state has latched, rest, and the patience.
use Rattle.std.proofs.Common.{◌∙◌, Bool, is_some, ◌≡◌, ℕ, true, false, Some, None, Ok, Err, Option, Result, sym, refl, ap, subst}
use Rattle.std.specs.Option.{option_map}
use Rattle.refusal.specs.declared.Refusal.{Refusal}
use Rattle.refusal.specs.Unless.{UnlessRefused}
use Rattle.card.specs.Meaning.{Meaning, idle}
use Rattle.machine.specs.declared.fault.Fault.{Fault}
use Rattle.machine.specs.Axes.{axis_number}
use Rattle.machine.specs.State.{State}
use Rattle.clocked.specs.declared.control.Control.{Control}
use Rattle.clocked.specs.declared.control.ControlState.{ControlState}
use Rattle.clocked.specs.declared.key.Key.{Key}
use Rattle.clocked.specs.declared.key.NotTaken.{NotTaken}
use Rattle.clocked.specs.declared.processor.Processor.{Processor}
use Rattle.clocked.specs.declared.tick.Tick.{Tick}
use Rattle.clocked.specs.Calls.{Accepted, not_taken}
use Rattle.clocked.specs.Changes.{written_back, restarting, locking, setting}
use Rattle.clocked.specs.ClockLaws.{ClockLaws, KeepsClockLaws}
use Rattle.clocked.specs.Comparison.{compared_after, rest_after}
use Rattle.clocked.specs.Refusals.{clock_refusal, reset_refusal, draw_refusal, key_refusal, fits, is_fetch0, rests_at, is_at_rest}
use Rattle.clocked.specs.Runs.{Config, config, outcome_by, tick_of, Event, clocked, reset, drawn, set, given, MadeBy}
use Rattle.clocked.proofs.Calling.{follows, holds, second}
use Rattle.clocked.proofs.Invariant.{Inv}
use Rattle.clocked.proofs.Latched.{Latched}
use Rattle.clocked.proofs.Obeying.{obeys_by}
use Rattle.clocked.proofs.Resting.{Where, rests, goes, whereabouts, not_resting}
use Rattle.clocked.proofs.Steps.{never_both}

pub record Keeps (A : State) (b : Config) (e : Event) (a : Config) : Type 0 where
  pub laws : KeepsClockLaws (tick_of e) A b a
  pub latched : Latched a.processor.control (compared_after e A)
  pub rests : is_at_rest a.processor ≡ rest_after e (is_at_rest b.processor)
  pub patience : a.card.patience ≡ b.card.patience

-- An axis is at rest exactly in fetch_0, since one that has halted stands there.
at_fetch0 : (f : Option Fault) (k : Control) → is_fetch0 k ≡ true → rests_at f k ≡ true
at_fetch0 (Some f) k e = refl
at_fetch0 None k e = e

rests_as : (x : Bool) (A : State) (n w : ℕ) (q : Processor) (d : Meaning) → is_fetch0 q.control ≡ x → Where q.control A n w q d → is_at_rest q ≡ x
rests_as true A n w q d e at = at_fetch0 q.fault q.control e
rests_as false A n w q d e (rests boundary h) = elim (never_both _ e (ap is_fetch0 boundary)) [ ]
rests_as false A n w q d e (goes between h) = not_resting A n w q d between h

module _ (A : State) (n w : ℕ) (p : Processor) (c : Meaning) (inv : Inv A n w p c) (latched : Latched p.control A) (q : Processor) (d : Meaning) where
  accepted : (m v : ℕ) (r : Result Tick Refusal) → Inv (compared_after (clocked r) A) m v q d → Accepted r p c q d →
      Keeps A (config p c) (clocked r) (config q d)
  accepted m v (Err e) after h = elim h [ ]
  accepted m v (Ok t) after h =
      let g = obeys_by A n w p.control p c t.answer q d refl inv latched h.1 in
      record {
        laws = subst (λ (k : ControlState). ClockLaws A k t.answer (config p c) (config q d)) (sym h.0) g.laws;
        latched = g.latched;
        rests = rests_as (is_some (outcome_by t.answer)) _ m v q d g.rests (whereabouts q.control _ m v q d after);
        patience = g.patience;
      }

  -- A call of which no law of a clock is asked, and that leaves the state, the comparison machine and the patience.
  stays : (e : Event) → KeepsClockLaws (tick_of e) A (config p c) (config q d) → compared_after e A ≡ A →
      rest_after e (is_at_rest p) ≡ is_at_rest p → q.control ≡ p.control → q.fault ≡ p.fault → d.patience ≡ c.patience →
      Keeps A (config p c) e (config q d)
  stays e laws same rest control fault patience =
      record {
        laws = laws;
        latched = subst (Latched q.control) (sym same) (subst (λ (k : Control). Latched k A) (sym control) latched);
        rests = ap (λ (k : Control). rests_at q.fault k) control ∙ ap (λ (f : Option Fault). rests_at f p.control) fault ∙ sym rest;
        patience = patience;
      }

  clock_keeps : (m v : ℕ) (x : Option Refusal) (r : Result Tick Refusal) → Inv (compared_after (clocked r) A) m v q d →
      UnlessRefused x r ((q ≡ p) × (d ≡ c)) (Accepted r p c q d) → Keeps A (config p c) (clocked r) (config q d)
  clock_keeps m v None r after h = accepted m v r after h
  clock_keeps m v (Some e) r after h =
      subst (λ (y : Result Tick Refusal). Keeps A (config p c) (clocked y) (config q d)) (sym h.0)
      (stays (clocked (Err e)) tt refl refl (ap (λ (y : Processor). y.control) h.1.0) (ap (λ (y : Processor). y.fault) h.1.0)
      (ap (λ (y : Meaning). y.patience) h.1.1))

  reset_keeps : (x : Option Refusal) (r : Result (Unit {0}) Refusal) →
      UnlessRefused x r ((q ≡ p) × (d ≡ c)) ((r ≡ Ok tt) × (q ≡ restarting (written_back p)) × (d ≡ idle c)) →
      Keeps A (config p c) (reset r) (config q d)
  reset_keeps None r h =
      subst (λ (y : Result (Unit {0}) Refusal). Keeps A (config p c) (reset y) (config q d)) (sym h.0)
      (record {
        laws = tt;
        latched = subst (λ (y : Processor). Latched y.control (compared_after (reset (Ok tt)) A)) (sym h.1) tt;
        rests = ap is_at_rest h.1;
        patience = ap (λ (y : Meaning). y.patience) h.2;
      })
  reset_keeps (Some e) r h =
      subst (λ (y : Result (Unit {0}) Refusal). Keeps A (config p c) (reset y) (config q d)) (sym h.0)
      (stays (reset (Err e)) tt refl refl (ap (λ (y : Processor). y.control) h.1.0) (ap (λ (y : Processor). y.fault) h.1.0)
      (ap (λ (y : Meaning). y.patience) h.1.1))

  draw_keeps : (x : Option Refusal) (r : Result Key Refusal) → d ≡ c →
      UnlessRefused x r (q ≡ p) ((r ≡ Ok (record { axis = axis_number p.axis })) × (q ≡ locking true (written_back p))) →
      Keeps A (config p c) (drawn r) (config q d)
  draw_keeps None r dc h =
      stays (drawn r) tt refl refl (ap (λ (y : Processor). y.control) h.1) (ap (λ (y : Processor). y.fault) h.1) (ap (λ (y : Meaning). y.patience) dc)
  draw_keeps (Some e) r dc h =
      stays (drawn r) tt refl refl (ap (λ (y : Processor). y.control) h.1) (ap (λ (y : Processor). y.fault) h.1) (ap (λ (y : Meaning). y.patience) dc)

  -- A register is set only at rest.
  set_keeps : (k : Key) (m v : ℕ) (x : Option Refusal) (r : Result (Unit {0}) Refusal) → key_refusal k p ≡ x → d ≡ c →
      UnlessRefused x r (q ≡ p) ((r ≡ Ok tt) × (q ≡ setting m v p)) → Keeps A (config p c) (set k m v r) (config q d)
  set_keeps k m v None r is dc h =
      record {
        laws = tt;
        latched = subst (λ (y : Processor). Latched y.control (compared_after (set k m v r) A)) (sym h.1)
            (at_boundary (whereabouts p.control A n w p c inv));
        rests = ap is_at_rest h.1;
        patience = ap (λ (y : Meaning). y.patience) dc;
      }
    where
      at_boundary : Where p.control A n w p c → Latched p.control (compared_after (set k m v r) A)
      at_boundary (rests boundary h) = subst (λ (y : Control). Latched y (compared_after (set k m v r) A)) (sym boundary) tt
      at_boundary (goes between h) = elim (never_both p.locked h.3 (second _ p.locked (holds (fits k p) _ is))) [ ]
  set_keeps k m v (Some e) r is dc h =
      subst (λ (y : Result (Unit {0}) Refusal). Keeps A (config p c) (set k m v y) (config q d)) (sym h.0)
      (stays (set k m v (Err e)) tt refl refl (ap (λ (y : Processor). y.control) h.1) (ap (λ (y : Processor). y.fault) h.1)
      (ap (λ (y : Meaning). y.patience) dc))

  given_keeps : (k : Key) (x : Option Refusal) (r : Result (Unit {0}) NotTaken) → d ≡ c →
      UnlessRefused (option_map (not_taken k) x) r (q ≡ p) ((r ≡ Ok tt) × (q ≡ locking false p)) → Keeps A (config p c) (given k r) (config q d)
  given_keeps k None r dc h =
      stays (given k r) tt refl refl (ap (λ (y : Processor). y.control) h.1) (ap (λ (y : Processor). y.fault) h.1)
      (ap (λ (y : Meaning). y.patience) dc)
  given_keeps k (Some e) r dc h =
      stays (given k r) tt refl refl (ap (λ (y : Processor). y.control) h.1) (ap (λ (y : Processor). y.fault) h.1)
      (ap (λ (y : Meaning). y.patience) dc)

module _ (A : State) (n w : ℕ) (p : Processor) (c : Meaning) (inv : Inv A n w p c) (latched : Latched p.control A) where
  pub keeps : (e : Event) (a : Config) → MadeBy e (config p c) a → Keeps A (config p c) e a
  keeps (clocked r) a h =
      clock_keeps A n w p c inv latched a.processor a.card _ _ (clock_refusal p c) r (follows A n w p c inv (clocked r) a h).inv h
  keeps (reset r) a h = reset_keeps A n w p c inv latched a.processor a.card (reset_refusal p) r h
  keeps (drawn r) a h = draw_keeps A n w p c inv latched a.processor a.card (draw_refusal p) r h.1 h.0
  keeps (set k m v r) a h = set_keeps A n w p c inv latched a.processor a.card k m v (key_refusal k p) r refl h.1 h.0
  keeps (given k r) a h = given_keeps A n w p c inv latched a.processor a.card k (key_refusal k p) r h.1 h.0
