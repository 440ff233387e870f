-- The promise, of the processor and the card that power-up hands back: the invariant along every run, and the clocks left.
use Rattle.std.proofs.Common.{◌≡◌, ℕ, ◌+◌, ◌*◌, ◌≤◌, Bool, true, false, ◌||◌, ◌&&◌, ◌==◌, Option, Some, List, [], ◌∷◌, length, is_some, None, Ok, Err, Result, sym, refl, ap, ◌∙◌, subst, arith}
use Rattle.refusal.specs.declared.Refusal.{Refusal}
use Rattle.refusal.specs.Unless.{UnlessRefused}
use Rattle.card.specs.Meaning.{Meaning, idle}
use Rattle.machine.specs.declared.axis.Axis.{Axis}
use Rattle.machine.specs.declared.axis.Axis.TheVariants.{One, Two, Three}
use Rattle.machine.specs.Axes.{axis_number}
use Rattle.clocked.specs.declared.key.Key.{Key}
use Rattle.machine.specs.State.{State, powered_up}
use Rattle.clocked.specs.declared.control.Control.{Control}
use Rattle.clocked.specs.declared.control.Control.TheVariants.{Fetch0, Fetch1, Fetch2, Decode, DispFetch0, DispFetch1, DispFetch2, Execute0, Execute1, Execute2}
use Rattle.clocked.specs.declared.processor.Processor.{Processor}
use Rattle.clocked.specs.declared.tick.Answer.{Answer}
use Rattle.clocked.specs.declared.tick.Answer.TheVariants.{On, Waiting, Ended}
use Rattle.clocked.specs.Calls.{PoweredAs, waits_left}
use Rattle.clocked.specs.Refusals.{clock_refusal, draw_refusal, fits, is_at_rest}
use Rattle.clocked.specs.Comparison.{compared, compared_by, clocks_since, waits_since, key_out, out_after, at_rest, rest_after}
use Rattle.clocked.specs.Entries.{KeyFits}
use Rattle.clocked.specs.Changes.{written_back, locking}
use Rattle.clocked.specs.Processor.{fresh}
use Rattle.clocked.specs.Promise.{Promise, Promised, Agreement, Timing, Refusing, Keyed, Resting, LawfulClock, Running, AreClocks, some_ends}
use Rattle.clocked.specs.Runs.{Config, outcome_by, outcome_of, Event, clocked, reset, drawn, set, given, Entry, events, Run, none, more, Made, MadeBy}
use Rattle.clocked.proofs.Invariant.{At, Inv, clocks_left, μ}
use Rattle.clocked.proofs.Answering.{answers}
use Rattle.clocked.proofs.Gives.{FallsBy}
use Rattle.clocked.proofs.Calling.{Follows, follows}
use Rattle.clocked.proofs.Keeping.{keeps}
use Rattle.clocked.proofs.Latched.{Latched}
use Rattle.clocked.proofs.Resting.{Where, whereabouts, same_fault, agreeing, running_refusal, due}
use Rattle.clocked.proofs.Steps.{never_both, some_none}

-- The run before its newest entry, and that entry.
abbrev Before : (M : Entry → Type 0) (start : Config) → List Entry → Type 0
Before M start [] = Unit {0}
Before M start (e ∷ es) = Run M start es e.before × M e

before : {M : Entry → Type 0} {start : Config} {es : List Entry} {c : Config} → Run M start es c → Before M start es
before none = tt
before (more e es r m) = (r, m)

-- The key that a draw answers fits the processor afterwards.
own_axis : (a : Axis) → ((axis_number a == axis_number a) && true) ≡ true
own_axis One = refl
own_axis Two = refl
own_axis Three = refl

drawn_fits : (x : Option Refusal) (p : Processor) (r : Result Key Refusal) (a : Config) →
    UnlessRefused x r (a.processor ≡ p) ((r ≡ Ok (record { axis = axis_number p.axis })) × (a.processor ≡ locking true (written_back p))) →
    KeyFits (drawn r) a
drawn_fits None p r a h =
    subst (λ (y : Result Key Refusal). KeyFits (drawn y) a) (sym h.0)
    (subst (λ (q : Processor). fits (record { axis = axis_number p.axis }) q ≡ true) (sym h.1) (own_axis p.axis))
drawn_fits (Some e) p r a h = subst (λ (y : Result Key Refusal). KeyFits (drawn y) a) (sym h.0) tt

fitting : (e : Event) (b a : Config) → MadeBy e b a → KeyFits e a
fitting (clocked r) b a h = tt
fitting (reset r) b a h = tt
fitting (drawn r) b a h = drawn_fits (draw_refusal b.processor) b.processor r a h.0
fitting (set k n w r) b a h = tt
fitting (given k r) b a h = tt

-- The invariant holds along a run, compared with the machine that began in the state s with n clocks and w waits.
module _ (start : Config) (s : State) (key : start.processor.locked ≡ false) (at : Inv s 0 0 start.processor start.card)
    (at_start : Latched start.processor.control s) (resting_start : is_at_rest start.processor ≡ true) where
  pub record Along (es : List Entry) (c : Config) : Type 0 where
    pub inv : Inv (compared s (events es)) (clocks_since (events es)) (waits_since es) c.processor c.card
    pub lock : c.processor.locked ≡ key_out (events es)
    pub latched : Latched c.processor.control (compared s (events es))
    pub rests : is_at_rest c.processor ≡ at_rest (events es)
    pub patience : c.card.patience ≡ start.card.patience

  along : {es : List Entry} {c : Config} → Run Made start es c → Along es c
  along none = record { inv = at; lock = key; latched = at_start; rests = resting_start; patience = refl }
  along (more e es r m) =
      let h = along r in
      let f = follows _ _ _ e.before.processor e.before.card h.inv e.event e.after m in
      let k = keeps _ _ _ e.before.processor e.before.card h.inv h.latched e.event e.after m in
      record {
        inv = f.inv;
        lock = f.locked ∙ ap (out_after e.event) h.lock;
        latched = k.latched;
        rests = k.rests ∙ ap (rest_after e.event) h.rests;
        patience = k.patience ∙ h.patience;
      }

  module _ (e : Entry) (es : List Entry) (r : Run Made start (e ∷ es) e.after) where
    gives : Follows (compared s (events es)) (clocks_since (events es)) (waits_since es) e.before e.event e.after
    gives = follows _ _ _ e.before.processor e.before.card (along (before r).0).inv e.event e.after (before r).1

    place : Where e.after.processor.control (compared s (events (e ∷ es))) (clocks_since (events (e ∷ es))) (waits_since (e ∷ es)) e.after.processor e.after.card
    place = whereabouts e.after.processor.control _ _ _ e.after.processor e.after.card gives.inv

    agreement : Agreement s es e
    agreement =
        record {
          shows = agreeing _ _ _ e.after.processor e.after.card place;
          answers = gives.answers;
          halted = ap is_some (sym (same_fault _ _ _ e.after.processor e.after.card place));
        }

    timing : Timing s es e
    timing = record { row = gives.row; counted = gives.took }

    refusing : Refusing es e
    refusing = record { refused = gives.refused; unchanged = gives.unchanged }

    resting : Resting start es e
    resting = let h = along r in record { rests = h.rests; patience = h.patience }

    lawful : LawfulClock s es e
    lawful =
        let h = along (before r).0 in
        (keeps _ _ _ e.before.processor e.before.card h.inv h.latched e.event e.after (before r).1).laws

    keyed : Keyed es e
    keyed =
        record {
          key_fits = fitting e.event e.before e.after (before r).1;
          stays = gives.stays;
          locked = gives.locked ∙ ap (out_after e.event) (along (before r).0).lock;
        }

-- Of a running axis a clock is accepted.
accepts : (A : State) (n w : ℕ) (p : Processor) (c : Meaning) → Inv A n w p c → p.fault ≡ None → p.locked ≡ false → clock_refusal p c ≡ None
accepts A n w p c at unhalted unlocked = running_refusal p c unhalted unlocked ∙ due p.control A n w p c at

-- A clock that does not end the instruction leaves the comparison machine, and one clock less.
goes_on : (x : Answer) (u v : ℕ) (A : State) → is_some (outcome_by x) ≡ false → FallsBy x u v → (v + 1 ≤ u) × (compared_by x A ≡ A)
goes_on On u v A quiet h = (h, refl)
goes_on Waiting u v A quiet h = (h, refl)
goes_on (Ended o) u v A quiet h = elim (never_both true quiet refl) [ ]

neither : (a b : Bool) → (a || b) ≡ false → (a ≡ false) × (b ≡ false)
neither false b e = (refl, e)
neither true b e = elim (never_both true e refl) [ ]

most : (k : Control) (A : State) (n w : ℕ) (p : Processor) (m : Meaning) → At k A n w p m →
    clocks_left k (waits_left m.transfer) m.patience ≤ 10 + 3 * m.patience
most Fetch0 A n w p m h = omega arith
most Fetch1 A n w p m h = omega arith
most Fetch2 A n w p m h = omega (arith, h.0.few)
most (Decode i) A n w p m h = omega arith
most (DispFetch0 i) A n w p m h = omega arith
most (DispFetch1 i) A n w p m h = omega arith
most (DispFetch2 i) A n w p m h = omega (arith, h.0.few)
most (Execute0 i d) A n w p m h = omega arith
most (Execute1 a) A n w p m h = omega arith
most (Execute2 a) A n w p m h = omega (arith, h.0.few)

least : (k : Control) (w x : ℕ) → 1 ≤ clocks_left k w x
least Fetch0 w x = omega arith
least Fetch1 w x = omega arith
least Fetch2 w x = omega arith
least (Decode i) w x = omega arith
least (DispFetch0 i) w x = omega arith
least (DispFetch1 i) w x = omega arith
least (DispFetch2 i) w x = omega arith
least (Execute0 i d) w x = omega arith
least (Execute1 a) w x = omega arith
least (Execute2 a) w x = omega arith

-- So many clocks from the configuration c on, none of which ended an instruction.
pub record Going (c : Config) (count : ℕ) (d : Config) : Type 0 where
  pub state : State
  pub clocks : ℕ
  pub waits : ℕ
  pub inv : Inv state clocks waits d.processor d.card
  pub running : Running d
  pub less : μ d.processor d.card + count ≤ μ c.processor c.card

one_more : (c b a : Config) (count : ℕ) (e : Event) (rest : List Event) → Going c count b → MadeBy e b a → AreClocks (e ∷ rest) → is_some (outcome_of e) ≡ false →
    Going c (count + 1) a
one_more c b a count (clocked (Ok t)) rest g m clocks quiet =
    let f = follows g.state g.clocks g.waits b.processor b.card g.inv (clocked (Ok t)) a m in
    let on = goes_on t.answer _ _ g.state quiet f.falls in
    let falls = on.0 in
    let less = g.less in
    record {
      state = compared_by t.answer g.state;
      clocks = _;
      waits = _;
      inv = f.inv;
      running = record {
        unhalted = sym (same_fault _ _ _ a.processor a.card (whereabouts a.processor.control _ _ _ a.processor a.card f.inv))
            ∙ ap (λ (s : State). s.fault) on.1
            ∙ same_fault _ _ _ b.processor b.card (whereabouts b.processor.control _ _ _ b.processor b.card g.inv)
            ∙ g.running.unhalted;
        unlocked = f.locked ∙ g.running.unlocked;
      };
      less = omega (arith, falls, less);
    }
one_more c b a count (clocked (Err e)) rest g m clocks quiet =
    let f = follows g.state g.clocks g.waits b.processor b.card g.inv (clocked (Err e)) a m in
    elim (some_none e (f.refused ∙ accepts _ _ _ b.processor b.card g.inv g.running.unhalted g.running.unlocked)) [ ]
one_more c b a count (reset r) rest g m clocks quiet = elim clocks [ ]
one_more c b a count (drawn r) rest g m clocks quiet = elim clocks [ ]
one_more c b a count (set k n w r) rest g m clocks quiet = elim clocks [ ]
one_more c b a count (given k r) rest g m clocks quiet = elim clocks [ ]

tail_clocks : (e : Event) (es : List Event) → AreClocks (e ∷ es) → AreClocks es
tail_clocks (clocked r) es h = h
tail_clocks (reset r) es h = elim h [ ]
tail_clocks (drawn r) es h = elim h [ ]
tail_clocks (set k n w r) es h = elim h [ ]
tail_clocks (given k r) es h = elim h [ ]

module _ (c : Config) (A : State) (n w : ℕ) (at : Inv A n w c.processor c.card) (runs : Running c) where
  going : {fs : List Entry} {d : Config} → Run Made c fs d → AreClocks (events fs) → some_ends (events fs) ≡ false → Going c (length fs) d
  going none clocks quiet = record { state = A; clocks = n; waits = w; inv = at; running = runs; less = omega arith }
  going (more e es r m) clocks quiet =
      let both = neither (is_some (outcome_of e.event)) (some_ends (events es)) quiet in
      let g = going r (tail_clocks e.event (events es) clocks) both.1 in
      subst (λ (x : ℕ). Going c x e.after) (omega arith)
      (one_more c e.before e.after (length es) e.event (events es) g m clocks both.0)

  progress : (d : Config) (fs : List Entry) → Run Made c fs d → AreClocks (events fs) → length fs ≡ 10 + 3 * c.card.patience →
      some_ends (events fs) ≡ true
  progress d fs r clocks long = by_answer (some_ends (events fs)) refl
    where
      by_answer : (b : Bool) → some_ends (events fs) ≡ b → some_ends (events fs) ≡ true
      by_answer true is = is
      by_answer false is =
          let g = going r clocks is in
          let less = g.less in
          let low = least d.processor.control (waits_left d.card.transfer) d.card.patience in
          let high = most c.processor.control A n w c.processor c.card at in
          let never : ⊥ = omega arith in elim never [ ]

start_at : (a : Axis) (c : Meaning) → Inv (powered_up a c.map) 0 0 (fresh a) (idle c)
start_at a c = record { agrees = refl; idle = refl; clocks = refl; waits = refl; stored = λ l. refl }

holds : (a : Axis) (c : Meaning) → Promise Made (powered_up a c.map) (record { processor = fresh a; card = idle c })
holds a c =
    let start : Config = record { processor = fresh a; card = idle c } in
    let first : State = powered_up a c.map in
    record {
      starts = record { boundary = refl; running = record { unhalted = refl; unlocked = refl }; idle = refl; agrees = refl };
      agreement = agreement start first refl (start_at a c) tt refl;
      timing = timing start first refl (start_at a c) tt refl;
      refusing = refusing start first refl (start_at a c) tt refl;
      keyed = keyed start first refl (start_at a c) tt refl;
      resting = resting start first refl (start_at a c) tt refl;
      lawful = lawful start first refl (start_at a c) tt refl;
      progress = λ b es r runs d fs. progress b _ _ _ (along start first refl (start_at a c) tt refl r).inv runs d fs;
      answering = λ c es r x. answers c x;
    }

pub promised : (x : Result Axis Refusal) (c : Meaning) (r : Result Processor Refusal) (d : Meaning) → PoweredAs x c r d → Promised x c r d
promised (Ok a) c r d h =
    subst (λ (y : Result Processor Refusal). Promised (Ok a) c y d) (sym h.0)
    (subst (λ (y : Meaning). Promised (Ok a) c (Ok (fresh a)) y) (sym h.1) (holds a c))
promised (Err e) c r d h = tt
