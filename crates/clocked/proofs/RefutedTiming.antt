-- What timing refuses: a wait or a halt that was not asked for, and machines that do not do the row of fetch_0 or fetch_1.
use Rattle.std.proofs.Common.{◌≡◌, ℕ, Bool, false, true, List, [], ◌∷◌, Ok, Err, Option, Some, None, Result, sym, ap, ◌∙◌, subst}
use Rattle.refusal.specs.declared.Refusal.{Refusal}
use Rattle.card.specs.Meaning.{Meaning}
use Rattle.machine.specs.declared.machine.Outcome.TheVariants.{Done, Ignored, Halted}
use Rattle.machine.specs.State.{State}
use Rattle.clocked.specs.declared.control.Control.{Control}
use Rattle.clocked.specs.declared.control.Control.TheVariants as control
use Rattle.clocked.specs.declared.processor.Processor.{Processor}
use Rattle.clocked.specs.declared.tick.Answer.{Answer}
use Rattle.clocked.specs.declared.tick.Answer.TheVariants.{On, Waiting, Ended}
use Rattle.clocked.specs.declared.tick.Tick.{Tick}
use Rattle.clocked.specs.Calls.{Did, PollsFrom}
use Rattle.clocked.specs.Entries.{DidRow}
use Rattle.clocked.specs.Refusals.{when_transfer}
use Rattle.clocked.specs.Promise.{Timing, Always, Answering, Starts, Running}
use Rattle.clocked.specs.Runs.{Config, Event, clocked, reset, drawn, set, given, tick_of, Entry, Run, none, more}
use Rattle.clocked.specs.Table.{Move, row_of, decodes, executes}
use Rattle.clocked.specs.Wrong.{Fails, IsInTime, IsAsked, Asks}
use Rattle.clocked.specs.WrongMachines.{AnyMachine, Makes, Clocks, IsDue, WaitsUnasked, NeverUsesTheCard, StaysInFetch0}
use Rattle.clocked.proofs.RefutedRuns.{entry, Ticked, ticked, none_due}
use Rattle.clocked.proofs.Resting.{running_refusal}
use Rattle.clocked.proofs.Steps.{some_none}
use Rattle.card.specs.declared.transfer.Transfer.{Transfer}
use Rattle.isa.specs.declared.fields.Instruction.{Instruction}
use Rattle.isa.specs.declared.opcodes.Class.{Class}
use Rattle.isa.specs.declared.opcodes.Class.TheVariants.{Arithmetic, ArithmeticQuick, Logical, Load, Store, Branch, BranchIndexed, Unknown}
use Rattle.isa.specs.declared.opcodes.Form.TheVariants.{Long, Quick}
use Rattle.machine.specs.declared.fault.Stage.{Stage}

-- The first clock of a machine that refuses one only where a refusal is due.
module _ (M : Entry → Type 0) (first : State) (start : Config) (at : Starts first start) (answers : Answering M start) where
  pub first_tick : (T : Tick → Config → Type 0) →
      ((r : Result Tick Refusal) (d : Config) → Run M start (entry start (clocked r) d ∷ []) d → Clocks (λ t. T t d) (λ x. IsDue start) (clocked r)) →
      Ticked M start T
  first_tick T kind = ticked M start start [] T (λ x. IsDue start) answers none (λ x due. due (none_due first start at)) kind

  -- In time, the first clock does the row of fetch_0.
  pub first_row : Always M start (Timing first) → (t : Tick) (d : Config) → M (entry start (clocked (Ok t)) d) →
      Did (row_of control.Fetch0 start.processor) start.processor start.card t.answer d.processor d.card
  first_row h t d m =
      subst (λ (k : Control). Did (row_of k start.processor) start.processor start.card t.answer d.processor d.card) at.boundary
      (h (entry start (clocked (Ok t)) d) [] (more _ [] none m)).row.1

pub waits_timing : Fails WaitsUnasked IsInTime
waits_timing m first start at s is h =
    let t = first_tick (Makes m) first start at is.answers (λ t d. t.answer ≡ Waiting) (λ r d run. is.each _ _ run) in
    let r = first_row (Makes m) first start at is.answers h t.tick t.after t.made in
    absurd (cc)

pub fetch_timing : Fails StaysInFetch0 IsInTime
fetch_timing m first start at s is h =
    let t = first_tick (Makes m) first start at is.answers (λ t d. (t.answer ≡ On) × (d.processor.control ≡ control.Fetch0)) (λ r d run. is.each _ _ run) in
    let r = first_row (Makes m) first start at is.answers h t.tick t.after t.made in
    let k = ap (λ (p : Processor). p.control) r.1 in
    absurd (cc)

-- After the row of fetch_0: in fetch_1, with no transfer in being.
pub record Second (c : Config) : Type 0 where
  pub running : Running c
  pub state : c.processor.control ≡ control.Fetch1
  pub idle : c.card.transfer ≡ None

pub second : (first : State) (start : Config) → Starts first start → (t : Answer) (c : Config) →
    Did (row_of control.Fetch0 start.processor) start.processor start.card t c.processor c.card → Second c
second first start at t c did =
    record {
      running =
          record {
            unhalted = ap (λ (p : Processor). p.fault) did.1 ∙ at.running.unhalted;
            unlocked = ap (λ (p : Processor). p.locked) did.1 ∙ at.running.unlocked;
          };
      state = ap (λ (p : Processor). p.control) did.1;
      idle = ap (λ (m : Meaning). m.transfer) did.2 ∙ at.idle;
    }

second_due : (c : Config) → Second c → IsDue c → ⊥
second_due c s due =
    due
    (running_refusal c.processor c.card s.running.unhalted s.running.unlocked
    ∙ ap (λ (x : Control). when_transfer (row_of x c.processor) c.card.transfer) s.state
    ∙ ap (when_transfer (row_of control.Fetch1 c.processor)) s.idle)

-- In time, a clock in fetch_1 answers on and begins a transfer.
pub second_row : (M : Entry → Type 0) (first : State) (start c : Config) (es : List Entry) → Second c → Run M start es c → Always M start (Timing first) →
    (t : Tick) (d : Config) → M (entry c (clocked (Ok t)) d) → Did (row_of control.Fetch1 c.processor) c.processor c.card t.answer d.processor d.card
second_row M first start c es s run h t d m =
    subst (λ (k : Control). Did (row_of k c.processor) c.processor c.card t.answer d.processor d.card) s.state
    (h (entry c (clocked (Ok t)) d) es (more _ es run m)).row.1

pub card_timing : Fails NeverUsesTheCard IsInTime
card_timing m first start at s is h =
    let t = first_tick (Makes m) first start at is.answers (λ t d. d.card.transfer ≡ start.card.transfer) (λ r d run. is.each _ _ run) in
    let c = t.after in
    let sec = second first start at t.tick.answer c (first_row (Makes m) first start at is.answers h t.tick t.after t.made) in
    let run : Run (Makes m) start (entry start (clocked (Ok t.tick)) c ∷ []) c = more _ [] none t.made in
    let u = ticked (Makes m) start c _ (λ t d. d.card.transfer ≡ c.card.transfer) (λ x. IsDue c) is.answers run (λ x due. second_due c sec due) (λ r d run. is.each _ _ run) in
    let r = second_row (Makes m) first start c _ sec run h u.tick u.after u.made in
    some_none _ (sym (ap (λ (m : Meaning). m.transfer) r.2.0) ∙ u.holds ∙ sec.idle)

-- With no transfer in being a row answers neither waiting nor halted.
module _ (x : Option Transfer) (i : Instruction) (p : Processor) where
  asked_decode : (k : Class) (b : Bool) → IsAsked (decodes k b i p).0 x
  asked_decode (Arithmetic op) b = tt
  asked_decode (ArithmeticQuick op) b = tt
  asked_decode (Logical op) b = tt
  asked_decode (Load Long) b = tt
  asked_decode (Load Quick) b = tt
  asked_decode (Store Long) b = tt
  asked_decode (Store Quick) b = tt
  asked_decode (Branch Long) true = tt
  asked_decode (Branch Long) false = tt
  asked_decode (Branch Quick) true = tt
  asked_decode (Branch Quick) false = tt
  asked_decode (BranchIndexed Long) true = tt
  asked_decode (BranchIndexed Long) false = tt
  asked_decode (BranchIndexed Quick) true = tt
  asked_decode (BranchIndexed Quick) false = tt
  asked_decode Unknown b = tt

  asked_execute : (k : Class) (b : Bool) (d : ℕ) → IsAsked (executes k b i d p).0 x
  asked_execute (Arithmetic op) b d = tt
  asked_execute (ArithmeticQuick op) b d = tt
  asked_execute (Logical op) b d = tt
  asked_execute (Load f) b d = tt
  asked_execute (Store f) b d = tt
  asked_execute (Branch f) true d = tt
  asked_execute (Branch f) false d = tt
  asked_execute (BranchIndexed f) true d = tt
  asked_execute (BranchIndexed f) false d = tt
  asked_execute Unknown b d = tt

asked_some : (t : Answer) (x : Transfer) → IsAsked t (Some x)
asked_some On x = tt
asked_some Waiting x = some_none x
asked_some (Ended Done) x = tt
asked_some (Ended Ignored) x = tt
asked_some (Ended Halted) x = some_none x

asked_poll : (take : ℕ → Move) (s : Stage) (a : ℕ) (p : Processor) (c : Meaning) (t : Answer) (q : Processor) (d : Meaning) (x : Option Transfer) →
    PollsFrom x take s a p c t q d → IsAsked t x
asked_poll take s a p c t q d None h = absurd h
asked_poll take s a p c t q d (Some x) h = asked_some t x

asked : (k : Control) (p : Processor) (c : Meaning) (t : Answer) (q : Processor) (d : Meaning) → Did (row_of k p) p c t q d → IsAsked t c.transfer
asked control.Fetch0 p c t q d h = subst (λ (t : Answer). IsAsked t c.transfer) (sym h.0) tt
asked control.Fetch1 p c t q d h = subst (λ (t : Answer). IsAsked t c.transfer) (sym h.0) tt
asked control.Fetch2 p c t q d h = asked_poll _ _ _ p c t q d c.transfer h
asked (control.Decode i) p c t q d h = subst (λ (t : Answer). IsAsked t c.transfer) (sym h.0) (asked_decode c.transfer i p _ _)
asked (control.DispFetch0 i) p c t q d h = subst (λ (t : Answer). IsAsked t c.transfer) (sym h.0) tt
asked (control.DispFetch1 i) p c t q d h = subst (λ (t : Answer). IsAsked t c.transfer) (sym h.0) tt
asked (control.DispFetch2 i) p c t q d h = asked_poll _ _ _ p c t q d c.transfer h
asked (control.Execute0 i v) p c t q d h = subst (λ (t : Answer). IsAsked t c.transfer) (sym h.0) (asked_execute c.transfer i p _ _ v)
asked (control.Execute1 a) p c t q d h = subst (λ (t : Answer). IsAsked t c.transfer) (sym h.0) tt
asked (control.Execute2 a) p c t q d h = asked_poll _ _ _ p c t q d c.transfer h

asks_event : (x : Event) (b a : Config) → DidRow (tick_of x) b a → Clocks (λ t. IsAsked t.answer b.card.transfer) (λ r. Unit {0}) x
asks_event (clocked (Ok t)) b a row = asked b.processor.control b.processor b.card t.answer a.processor a.card row.1
asks_event (clocked (Err e)) b a row = tt
asks_event (reset r) b a row = tt
asks_event (drawn r) b a row = tt
asks_event (set k n w r) b a row = tt
asks_event (given k r) b a row = tt

pub asks : (m : AnyMachine) (first : State) (start : Config) → IsInTime (Makes m) first start → Always (Makes m) start Asks
asks m first start h e es run = asks_event e.event e.before e.after (h e es run).row
