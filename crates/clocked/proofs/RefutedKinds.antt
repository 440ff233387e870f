-- A machine of each wrong kind.
use Rattle.std.proofs.Common.{◌≡◌, ℕ, Bool, false, true, ◌==◌, Ok, Err, None, Result, refl, sym, ap, ◌∙◌, subst, arith, get_or, inl, inr}
use Rattle.std.proofs.lemmas.Bool.Decides.{eqb_tells}
use Rattle.refusal.specs.declared.Refusal.{Refusal}
use Rattle.machine.specs.declared.machine.Outcome.TheVariants.{Done, Halted}
use Rattle.machine.specs.State.{State, powered_up}
use Rattle.machine.specs.Step.{step}
use Rattle.isa.specs.Fields.{instruction_of}
use Rattle.isa.specs.Opcodes.{class_of}
use Rattle.card.specs.declared.cell.Cell.TheVariants.{Open}
use Rattle.card.specs.Cells.{Map}
use Rattle.card.specs.Meaning.{mapped}
use Rattle.machine.specs.declared.axis.Axis.TheVariants.{One}
use Rattle.clocked.specs.declared.control.Control.{Control}
use Rattle.clocked.specs.declared.control.Control.TheVariants as control
use Rattle.clocked.specs.declared.processor.Processor.{Processor}
use Rattle.clocked.specs.declared.tick.Answer.{Answer}
use Rattle.clocked.specs.declared.tick.Answer.TheVariants.{On, Waiting, Ended}
use Rattle.clocked.specs.declared.tick.Tick.{Tick}
use Rattle.clocked.specs.Comparison.{clocks_since, begun_in, clocks_due}
use Rattle.clocked.specs.Control.{named}
use Rattle.clocked.specs.Processor.{axis_state, fresh}
use Rattle.clocked.specs.Promise.{Starts}
use Rattle.clocked.specs.Runs.{Config, Event, clocked, reset, drawn, set, given, events, outcome_by, outcome_of}
use Rattle.clocked.specs.Wrong.{Exists, Occurs, StartsIn, ChangesMore, DoesNotHalt, TakesOther}
use Rattle.clocked.specs.WrongMachines.{Clocks, IsDue, IsStopped, EndsUnhalted, NeverEnds, Works, WorksAtOnce, WorksIn, WaitsUnasked, FinishesIf, MakesUpItsCount, HaltsIf, HaltsBefore, NeverUsesTheCard, StaysInFetch0, RefusesEveryClock}
use Rattle.clocked.proofs.RefutedRuns.{clocks_map}
use Rattle.clocked.proofs.RefutedMachine.{EntryIs, exists, clocks_so, tick, with}
use Rattle.clocked.proofs.RefutedCounter.{CountsSo, counter_exists}

-- The clocks of each.
abbrev Does : Type 0
Does = Config → Result Tick Refusal × Config

waits : Exists WaitsUnasked
waits =
    let g : Does = λ c. (Ok (tick c Waiting), c) in
    exists g WaitsUnasked
    (λ first start at e es run h. clocks_so g (λ b t a. t.answer ≡ Waiting) (λ b r. IsDue b) (λ b. refl) e.event e.before e.after h)

fetch : Exists StaysInFetch0
fetch =
    let g : Does = λ c. (Ok (tick c On), with c control.Fetch0) in
    exists g StaysInFetch0
    (λ first start at e es run h.
    clocks_so g (λ b t a. (t.answer ≡ On) × (a.processor.control ≡ control.Fetch0)) (λ b r. IsDue b) (λ b. (refl, refl)) e.event e.before e.after h)

refuses : (x : Refusal) → Exists (RefusesEveryClock x)
refuses x =
    let g : Does = λ c. (Err x, c) in
    exists g (RefusesEveryClock x)
    (λ first start at e es run h. clocks_so g (λ b t a. ⊥) (λ b r. r ≡ x) (λ b. refl) e.event e.before e.after h)

goes_on : (x : Event) → Clocks (λ t. outcome_by t.answer ≡ None) (λ r. Unit {0}) x → outcome_of x ≡ None
goes_on (clocked (Ok t)) h = h
goes_on (clocked (Err e)) h = refl
goes_on (reset r) h = refl
goes_on (drawn r) h = refl
goes_on (set k n w r) h = refl
goes_on (given k r) h = refl

card : Exists (NeverEnds NeverUsesTheCard)
card =
    let g : Does = λ c. (Ok (tick c On), c) in
    exists g (NeverEnds NeverUsesTheCard)
    (λ first start at e es run h. (
      clocks_so g (λ b t a. a.card.transfer ≡ b.card.transfer) (λ b r. IsDue b) (λ b. refl) e.event e.before e.after h,
      goes_on e.event (clocks_so g (λ b t a. outcome_by t.answer ≡ None) (λ b r. Unit {0}) (λ b. refl) e.event e.before e.after h),
    ))

counts : (n : ℕ) → Exists (MakesUpItsCount n)
counts n =
    counter_exists n Done (MakesUpItsCount n)
    (λ e es h.
    let b : Bool = clocks_since (events es) == n in
    clocks_map (λ t. CountsSo Done b t e.after × (begun_in e ≡ 0)) (λ t. FinishesIf b t e.after × (begun_in e ≡ 0))
    (λ x. IsStopped e.before) (λ x. IsStopped e.before) (λ t so. (by b t e.after so.0, so.1)) (λ x stopped. stopped) e.event h)
  where
    by : (b : Bool) (t : Tick) (d : Config) → CountsSo Done b t d → FinishesIf b t d
    by true t d h = subst (λ (x : Answer). EndsUnhalted (outcome_by x)) (sym h) tt
    by false t d h = (ap outcome_by h.0, h.1)

halts : (n : ℕ) → Exists (HaltsBefore n)
halts n =
    counter_exists n Halted (HaltsBefore n)
    (λ e es h.
    let b : Bool = clocks_since (events es) == n in
    clocks_map (λ t. CountsSo Halted b t e.after × (begun_in e ≡ 0)) (λ t. HaltsIf b t e.after)
    (λ x. IsStopped e.before) (λ x. IsStopped e.before) (λ t so. by b t e.after so.0) (λ x stopped. stopped) e.event h)
  where
    by : (b : Bool) (t : Tick) (d : Config) → CountsSo Halted b t d → HaltsIf b t d
    by true t d h = h
    by false t d h = (ap outcome_by h.0, h.1, h.2)

-- In fetch_0 all the work of an instruction, and then from state to state.
abbrev holding : State → Processor → Processor
holding s p =
    record p {
      axis = s.axis;
      registers = record { words = s.registers };
      pending = None;
      flags = s.flags;
      pc = s.pc;
      control = control.Fetch1;
      fault = s.fault;
    }

abbrev working : Control → Does
working control.Fetch0 c =
    let s : State = (step (axis_state c.processor c.card.map)).1 in
    (Ok (tick c On), record { processor = holding s c.processor; card = mapped s.map c.card })
working control.Fetch1 c = (Ok (tick c On), with c control.Fetch2)
working control.Fetch2 c = (Ok (tick c On), with c (control.Decode (instruction_of 0)))
working _ c = (Ok (tick c (Ended Done)), with c control.Fetch0)

works_so : (k : Control) (b : Config) → Clocks (λ t. Works (named k) b t (working k b).1) (λ r. IsStopped b) (clocked (working k b).0)
works_so control.Fetch0 b = λ unhalted. record { on = refl; next = refl; shows = refl; lock = refl }
works_so control.Fetch1 b = record { on = refl; next = refl; shows = refl; lock = refl }
works_so control.Fetch2 b = record { on = refl; next = refl; shows = refl; lock = refl }
works_so (control.Decode i) b = tt
works_so (control.DispFetch0 i) b = tt
works_so (control.DispFetch1 i) b = tt
works_so (control.DispFetch2 i) b = tt
works_so (control.Execute0 i d) b = tt
works_so (control.Execute1 a) b = tt
works_so (control.Execute2 a) b = tt

abbrev works_clock : Does
works_clock c = working c.processor.control c

works_in : (x : Event) (b a : Config) → EntryIs works_clock x b a → WorksIn x b a
works_in (clocked r) b a h = clocks_so works_clock (λ b t a. Works (named b.processor.control) b t a) (λ b r. IsStopped b) (λ b. works_so b.processor.control b) (clocked r) b a h
works_in (reset r) b a h = h
works_in (drawn r) b a h = tt
works_in (set k n w r) b a h = tt
works_in (given k r) b a h = tt

works : Exists WorksAtOnce
works = exists works_clock WorksAtOnce (λ first start at e es run h. works_in e.event e.before e.after h)

-- A memory of one word, and the axis powered up on it.
abbrev memory : ℕ → Map
memory w a = Open w

abbrev powered : ℕ → Config
powered w = record { processor = fresh One; card = record { map = memory w; transfer = None; patience = 0 } }

starts_on : (w : ℕ) → Starts (powered_up One (memory w)) (powered w)
starts_on w = record { boundary = refl; running = record { unhalted = refl; unlocked = refl }; idle = refl; agrees = refl }

-- Every word adds 1 to r0 and puts the sum into r5: 5 clocks. An unknown opcode takes 4.
start : StartsIn (λ s. ChangesMore s × DoesNotHalt s)
unfolding class_of
start =
    let s : State = powered_up One (memory 0x10050001) in
    record {
      first = s;
      start = powered 0x10050001;
      starts = starts_on 0x10050001;
      holds = (
        record { unhalted = refl; more = λ e. let k : ◌≡◌ {A = ℕ} 1 0 = ap (λ (s : State). get_or s.registers 5 0) e in absurd (omega arith) },
        λ e. absurd (cc),
      );
    }

takes_five : clocks_due (powered_up One (memory 0x10050001)) ≡ 5
unfolding class_of
takes_five = refl

takes_four : clocks_due (powered_up One (memory 0xff000000)) ≡ 4
unfolding class_of
takes_four = refl

other_start : (n : ℕ) → StartsIn (TakesOther n)
other_start n =
    elim (eqb_tells n 5) [
      | inl h ↦ record { first = powered_up One (memory 0xff000000); start = powered 0xff000000; starts = starts_on 0xff000000; holds = λ e. let k = takes_four in absurd (omega (arith, h.1, e, k)) }
      | inr h ↦ record { first = powered_up One (memory 0x10050001); start = powered 0x10050001; starts = starts_on 0x10050001; holds = λ e. absurd (h.1 (sym e ∙ takes_five)) }
    ]

pub occurs : Occurs
occurs =
    record {
      start = start;
      other = other_start;
      works = works;
      waits = waits;
      counts = counts;
      halts = halts;
      card = card;
      fetch = fetch;
      refuses = refuses;
    }
