-- Runs of clocks of a machine that answers every call.
use Rattle.std.proofs.Common.{◌≡◌, ℕ, zero, suc, Bool, false, ◌||◌, ◌==◌, ◌≤◌, is_some, ◌+◌, ◌*◌, List, [], ◌∷◌, length, Ok, Err, Option, None, Result, refl, ap, ◌∙◌, subst, arith}
use Rattle.std.proofs.lemmas.Bool.{ne_eqb}
use Rattle.refusal.specs.declared.Refusal.{Refusal}
use Rattle.machine.specs.declared.machine.Outcome.{Outcome}
use Rattle.machine.specs.State.{State}
use Rattle.clocked.specs.declared.control.Control.{Control}
use Rattle.clocked.specs.declared.tick.Answer.{Answer}
use Rattle.clocked.specs.declared.tick.Answer.TheVariants.{On, Waiting, Ended}
use Rattle.clocked.specs.declared.tick.Tick.{Tick}
use Rattle.clocked.specs.Comparison.{clocks_since, since_by, compared, compared_by}
use Rattle.clocked.specs.Promise.{Always, Answered, Answering, Progress, Running, Starts, AreClocks, some_ends}
use Rattle.clocked.specs.Refusals.{clock_refusal, when_transfer}
use Rattle.clocked.specs.Runs.{Config, Event, clocked, reset, drawn, set, given, call_of, to_clock, to_reset, Entry, events, outcome_by, outcome_of, Run, none, more}
use Rattle.clocked.specs.Table.{row_of}
use Rattle.clocked.specs.WrongMachines.{Clocks}
use Rattle.clocked.proofs.Resting.{running_refusal}
use Rattle.clocked.proofs.Steps.{some_none, never_both}

abbrev pub entry : Config → Event → Config → Entry
entry b e a = record { before = b; event = e; after = a }

-- A clock, and a reset, that a machine makes at a configuration.
pub record Clock (M : Entry → Type 0) (c : Config) : Type 0 where
  pub answer : Result Tick Refusal
  pub after : Config
  pub made : M (entry c (clocked answer) after)

pub record ResetOf (M : Entry → Type 0) (c : Config) : Type 0 where
  pub answer : Result (Unit {0}) Refusal
  pub after : Config
  pub made : M (entry c (reset answer) after)

as_clock : (M : Entry → Type 0) (c b : Config) (x : Event) (d : Config) → M (entry b x d) → b ≡ c → call_of x ≡ to_clock → Clock M c
as_clock M c b (clocked r) d m here of = record { answer = r; after = d; made = subst (λ (z : Config). M (entry z (clocked r) d)) here m }
as_clock M c b (reset r) d m here of = absurd (cc)
as_clock M c b (drawn r) d m here of = absurd (cc)
as_clock M c b (set k n w r) d m here of = absurd (cc)
as_clock M c b (given k r) d m here of = absurd (cc)

as_reset : (M : Entry → Type 0) (c b : Config) (x : Event) (d : Config) → M (entry b x d) → b ≡ c → call_of x ≡ to_reset → ResetOf M c
as_reset M c b (clocked r) d m here of = absurd (cc)
as_reset M c b (reset r) d m here of = record { answer = r; after = d; made = subst (λ (z : Config). M (entry z (reset r) d)) here m }
as_reset M c b (drawn r) d m here of = absurd (cc)
as_reset M c b (set k n w r) d m here of = absurd (cc)
as_reset M c b (given k r) d m here of = absurd (cc)

pub clock_at : (M : Entry → Type 0) (c : Config) → Answered M c to_clock → Clock M c
clock_at M c a = as_clock M c a.entry.before a.entry.event a.entry.after a.made a.here a.of_call

pub reset_at : (M : Entry → Type 0) (c : Config) → Answered M c to_reset → ResetOf M c
reset_at M c a = as_reset M c a.entry.before a.entry.event a.entry.after a.made a.here a.of_call

-- Less is asked of a clock.
pub clocks_map : (T U : Tick → Type 0) (R S : Refusal → Type 0) → ((t : Tick) → T t → U t) → ((x : Refusal) → R x → S x) →
    (e : Event) → Clocks T R e → Clocks U S e
clocks_map T U R S f g (clocked (Ok t)) h = f t h
clocks_map T U R S f g (clocked (Err x)) h = g x h
clocks_map T U R S f g (reset r) h = tt
clocks_map T U R S f g (drawn r) h = tt
clocks_map T U R S f g (set k n w r) h = tt
clocks_map T U R S f g (given k r) h = tt

-- An accepted clock of which T holds.
pub record Ticked (M : Entry → Type 0) (c : Config) (T : Tick → Config → Type 0) : Type 0 where
  pub tick : Tick
  pub after : Config
  pub made : M (entry c (clocked (Ok tick)) after)
  pub holds : T tick after

accepted : (M : Entry → Type 0) (c : Config) (T : Tick → Config → Type 0) (R : Refusal → Type 0) (r : Result Tick Refusal) (d : Config) →
    M (entry c (clocked r) d) → ((x : Refusal) → R x → ⊥) → Clocks (λ t. T t d) R (clocked r) → Ticked M c T
accepted M c T R (Ok t) d m never h = record { tick = t; after = d; made = m; holds = h }
accepted M c T R (Err x) d m never h = absurd (never x h)

-- A machine that answers every call makes an accepted clock where its kind lets it refuse none.
pub ticked : (M : Entry → Type 0) (start c : Config) (es : List Entry) (T : Tick → Config → Type 0) (R : Refusal → Type 0) →
    Answering M start → Run M start es c → ((x : Refusal) → R x → ⊥) →
    ((r : Result Tick Refusal) (d : Config) → Run M start (entry c (clocked r) d ∷ es) d → Clocks (λ t. T t d) R (clocked r)) → Ticked M c T
ticked M start c es T R answers run never kind =
    let k = clock_at M c (answers c es run to_clock) in
    accepted M c T R k.answer k.after k.made never (kind k.answer k.after (more _ es run k.made))

-- No refusal of a clock is due at a start.
pub none_due : (first : State) (start : Config) → Starts first start → clock_refusal start.processor start.card ≡ None
none_due first start at =
    running_refusal start.processor start.card at.running.unhalted at.running.unlocked
    ∙ ap (λ (x : Control). when_transfer (row_of x start.processor) start.card.transfer) at.boundary

-- Of an entry that is a clock: it ends no instruction.
abbrev pub Endless : Event → Type 0
Endless e = Clocks (λ t. outcome_by t.answer ≡ None) (λ r. Unit {0}) e

-- Clocks, n of them, none of which ends an instruction.
record Idling (M : Entry → Type 0) (start : Config) (n : ℕ) : Type 0 where
  es : List Entry
  c : Config
  run : Run M start es c
  clocks : AreClocks (events es)
  long : length es ≡ n
  ends : some_ends (events es) ≡ false

ends_none : (r : Result Tick Refusal) → Endless (clocked r) → is_some (outcome_of (clocked r)) ≡ false
ends_none (Ok t) h = ap (λ (x : Option Outcome). is_some x) h
ends_none (Err e) h = refl

module _ (M : Entry → Type 0) (start : Config) (answers : Answering M start) where
  idling : Always M start (λ es e. Endless e.event) → (n : ℕ) → Idling M start n
  idling endless zero = record { es = []; c = start; run = none; clocks = tt; long = refl; ends = refl }
  idling endless (suc n) =
      let i = idling endless n in
      let k = clock_at M i.c (answers i.c i.es i.run to_clock) in
      let e : Entry = entry i.c (clocked k.answer) k.after in
      let run : Run M start (e ∷ i.es) k.after = more e i.es i.run k.made in
      record {
        es = e ∷ i.es;
        c = k.after;
        run = run;
        clocks = i.clocks;
        long = ap suc i.long;
        ends = ap (λ (b : Bool). b || some_ends (events i.es)) (ends_none k.answer (endless e i.es run)) ∙ i.ends;
      }

  -- A machine whose clocks end no instruction makes no progress.
  pub no_progress : Running start → Always M start (λ es e. Endless e.event) → Progress M start → ⊥
  no_progress runs endless progress =
      let i = idling endless (10 + 3 * start.card.patience) in
      never_both (some_ends (events i.es)) i.ends (progress start [] none runs i.c i.es i.run i.clocks i.long)

-- A clock that ends no instruction counts, and leaves the comparison machine.
on_counts : (t : Answer) → outcome_by t ≡ None → (n sum : ℕ) → since_by t n sum ≡ sum + n
on_counts On h n sum = refl
on_counts Waiting h n sum = refl
on_counts (Ended o) h n sum = absurd (some_none o h)

on_compares : (t : Answer) → outcome_by t ≡ None → (s : State) → compared_by t s ≡ s
on_compares On h s = refl
on_compares Waiting h s = refl
on_compares (Ended o) h s = absurd (some_none o h)

-- A clock that goes on: it ends no instruction, leaves the axis running, and begins no waits.
abbrev pub Goes : (Entry → Type 0) → Entry → Tick → Type 0
Goes W e t = (outcome_by t.answer ≡ None) × Running e.after × W e

-- Each of these entries has W.
abbrev pub Each : (Entry → Type 0) → List Entry → Type 0
Each W [] = Unit {0}
Each W (e ∷ es) = W e × Each W es

-- So many clocks from a start, none of which ended an instruction, each with W.
pub record Going (M : Entry → Type 0) (W : Entry → Type 0) (first : State) (start : Config) (n : ℕ) : Type 0 where
  pub es : List Entry
  pub c : Config
  pub run : Run M start es c
  pub running : Running c
  pub long : clocks_since (events es) ≡ n
  pub same : compared first (events es) ≡ first
  pub each : Each W es

module _ (M W : Entry → Type 0) (first : State) (start : Config) (n : ℕ) where
  -- There is an accepted clock, and it goes on, before n clocks.
  abbrev pub GoesBefore : Type 0
  GoesBefore =
      (c : Config) (es : List Entry) → Run M start es c → Running c → clocks_since (events es) == n ≡ false →
      Ticked M c (λ t d. Goes W (entry c (clocked (Ok t)) d) t)

  pub going : Running start → GoesBefore → (k : ℕ) → k ≤ n → Going M W first start k
  going runs goes zero below = record { es = []; c = start; run = none; running = runs; long = refl; same = refl; each = tt }
  going runs goes (suc k) below =
      let g = going runs goes k (omega arith) in
      let early : clocks_since (events g.es) == n ≡ false = ne_eqb (clocks_since (events g.es)) n (λ e. let l = g.long in absurd (omega arith)) in
      let t = goes g.c g.es g.run g.running early in
      let e : Entry = entry g.c (clocked (Ok t.tick)) t.after in
      record {
        es = e ∷ g.es;
        c = t.after;
        run = more e g.es g.run t.made;
        running = t.holds.1;
        long = on_counts t.tick.answer t.holds.0 1 (clocks_since (events g.es)) ∙ (let l = g.long in omega arith);
        same = on_compares t.tick.answer t.holds.0 (compared first (events g.es)) ∙ g.same;
        each = (t.holds.2, g.each);
      }
