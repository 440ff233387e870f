-- The machine that answers its clocks by a function, and its other calls as it should.
use Rattle.std.proofs.Common.{◌≡◌, List, ◌∷◌, Result, refl, sym, ap, subst}
use Rattle.refusal.specs.declared.Refusal.{Refusal}
use Rattle.machine.specs.State.{State}
use Rattle.clocked.specs.declared.control.Control.{Control}
use Rattle.clocked.specs.declared.tick.Answer.{Answer}
use Rattle.clocked.specs.declared.tick.Tick.{Tick}
use Rattle.clocked.specs.Changes.{going}
use Rattle.clocked.specs.Control.{named}
use Rattle.clocked.specs.Promise.{Answering, Starts}
use Rattle.clocked.specs.Runs.{Config, Call, call_of, to_clock, to_reset, to_draw, to_set, to_give_back, Event, clocked, reset, drawn, set, given, Entry, Run, more, MadeBy}
use Rattle.clocked.specs.Wrong.{Exists}
use Rattle.clocked.specs.WrongMachines.{by_answer, Makes, Kind, Clocks, OtherMade}
use Rattle.clocked.proofs.Answering.{answers}

-- What the axis answers to a call, and leaves.
pub other : Config → Call → Event × Config
other c x = ((answers c x).entry.event, (answers c x).entry.after)

other_made : (c : Config) (x : Call) → MadeBy (other c x).0 c (other c x).1
unfolding other
other_made c x = subst (λ (b : Config). MadeBy (answers c x).entry.event b (answers c x).entry.after) (answers c x).here (answers c x).made

other_call : (c : Config) (x : Call) → call_of (other c x).0 ≡ x
unfolding other
other_call c x = (answers c x).of_call

-- The last entry of a run.
pub last_entry : {M : Entry → Type 0} {start : Config} {e : Entry} {es : List Entry} {c : Config} → Run M start (e ∷ es) c → M e
last_entry (more e es r m) = m

-- The machine that answers its clocks by g, and its other calls as it should.
module _ (g : Config → Result Tick Refusal × Config) where
  abbrev pub does : Config → Call → Event × Config
  does c to_clock = (clocked (g c).0, (g c).1)
  does c to_reset = other c to_reset
  does c to_draw = other c to_draw
  does c (to_set k n w) = other c (to_set k n w)
  does c (to_give_back k) = other c (to_give_back k)

  does_call : (c : Config) (x : Call) → call_of (does c x).0 ≡ x
  does_call c to_clock = refl
  does_call c to_reset = other_call c to_reset
  does_call c to_draw = other_call c to_draw
  does_call c (to_set k n w) = other_call c (to_set k n w)
  does_call c (to_give_back k) = other_call c (to_give_back k)

  pub does_answer : (start : Config) → Answering (Makes (by_answer does)) start
  does_answer start c es run x =
      record {
        entry = record { before = c; event = (does c x).0; after = (does c x).1 };
        made = ap (does c) (does_call c x);
        here = refl;
        of_call = does_call c x;
      }

  -- What an entry of it is.
  abbrev pub EntryIs : Event → Config → Config → Type 0
  EntryIs (clocked r) b a = (r ≡ (g b).0) × (a ≡ (g b).1)
  EntryIs x b a = MadeBy x b a

  pub entry_is : (x : Event) (b a : Config) → does b (call_of x) ≡ (x, a) → EntryIs x b a
  entry_is (clocked r) b a h =
      let e : clocked (g b).0 ≡ clocked r = ap (λ (p : Event × Config). p.0) h in
      (cc, sym (ap (λ (p : Event × Config). p.1) h))
  entry_is (reset r) b a h = subst (λ (p : Event × Config). MadeBy p.0 b p.1) h (other_made b to_reset)
  entry_is (drawn r) b a h = subst (λ (p : Event × Config). MadeBy p.0 b p.1) h (other_made b to_draw)
  entry_is (set k n w r) b a h = subst (λ (p : Event × Config). MadeBy p.0 b p.1) h (other_made b (to_set k n w))
  entry_is (given k r) b a h = subst (λ (p : Event × Config). MadeBy p.0 b p.1) h (other_made b (to_give_back k))

  is_other : (x : Event) (b a : Config) → EntryIs x b a → OtherMade x b a
  is_other (clocked r) b a h = tt
  is_other (reset r) b a h = h
  is_other (drawn r) b a h = h
  is_other (set k n w r) b a h = h
  is_other (given k r) b a h = h

  pub exists : (K : Kind) → ((first : State) (start : Config) → Starts first start → (e : Entry) (es : List Entry) → Run (Makes (by_answer does)) start (e ∷ es) e.after → EntryIs e.event e.before e.after → K es e) → Exists K
  exists K h =
      record {
        machine = by_answer does;
        is = λ first start at. record {
          answers = does_answer start;
          each = λ e es run. h first start at e es run (entry_is e.event e.before e.after (last_entry run));
        };
        others = λ start. record {
          answers = does_answer start;
          each = λ e es run. is_other e.event e.before e.after (entry_is e.event e.before e.after (last_entry run));
        };
      }

  -- A kind that asks something of each clock by itself.
  pub clocks_so : (T : Config → Tick → Config → Type 0) (R : Config → Refusal → Type 0) → ((b : Config) → Clocks (λ t. T b t (g b).1) (R b) (clocked (g b).0)) →
      (x : Event) (b a : Config) → EntryIs x b a → Clocks (λ t. T b t a) (R b) x
  clocks_so T R so (clocked r) b a h =
      subst (λ (r : Result Tick Refusal). Clocks (λ t. T b t a) (R b) (clocked r)) (sym h.0)
      (subst (λ (a : Config). Clocks (λ t. T b t a) (R b) (clocked (g b).0)) (sym h.1) (so b))
  clocks_so T R so (reset r) b a h = tt
  clocks_so T R so (drawn r) b a h = tt
  clocks_so T R so (set k n w r) b a h = tt
  clocks_so T R so (given k r) b a h = tt

abbrev pub tick : Config → Answer → Tick
tick c t = record { state = named c.processor.control; answer = t }

abbrev pub with : Config → Control → Config
with c k = record { processor = going k c.processor; card = c.card }
