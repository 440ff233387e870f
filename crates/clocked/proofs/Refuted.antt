-- Each wrong machine has a run by which a part of the promise fails: what is left, and all of them.
use Rattle.std.proofs.Common.{◌≡◌, [], Ok, Err, Some, None, Result, sym, ap, ◌∙◌}
use Rattle.refusal.specs.declared.Refusal.{Refusal}
use Rattle.clocked.specs.declared.control.Control.TheVariants as control
use Rattle.clocked.specs.declared.tick.Answer.TheVariants.{On, Waiting}
use Rattle.clocked.specs.declared.tick.Tick.{Tick}
use Rattle.clocked.specs.Entries.{refusal_due}
use Rattle.clocked.specs.Promise.{Refusing, Always}
use Rattle.clocked.specs.Runs.{Config, Event, clocked, reset, drawn, set, given, outcome_by, outcome_of, Entry, none, more, to_clock}
use Rattle.clocked.specs.Wrong.{Fails, IsRefusing, Progresses, Refuted}
use Rattle.clocked.specs.WrongMachines.{Makes, Clocks, IsDue, NeverEnds, WaitsUnasked, NeverUsesTheCard, StaysInFetch0, RefusesEveryClock}
use Rattle.clocked.proofs.RefutedKinds.{occurs}
use Rattle.clocked.proofs.RefutedRuns.{clocks_map, entry, Clock, clock_at, none_due, Endless, no_progress}
use Rattle.clocked.proofs.Steps.{some_none}
use Rattle.clocked.proofs.RefutedTiming.{waits_timing, fetch_timing, card_timing, asks}
use Rattle.clocked.proofs.RefutedCounts.{halts_timing, halts_agreement, counts_broken}
use Rattle.clocked.proofs.RefutedWork.{works_broken}

-- No progress, where a clock of the kind ends no instruction.
stuck : (T : Config → Tick → Config → Type 0) (R : Config → Refusal → Type 0) → ((b : Config) (t : Tick) (a : Config) → T b t a → outcome_by t.answer ≡ None) →
    Fails (λ es e. Clocks (λ t. T e.before t e.after) (λ x. R e.before x) e.event) Progresses
stuck T R on m first start at s is h =
    no_progress (Makes m) start is.answers at.running
    (λ e es run.
    clocks_map (λ t. T e.before t e.after) (λ t. outcome_by t.answer ≡ None) (λ x. R e.before x) (λ x. Unit {0})
    (λ t so. on e.before t e.after so) (λ x so. tt) e.event (is.each e es run))
    h

waits_progress : Fails WaitsUnasked Progresses
waits_progress = stuck (λ b t a. t.answer ≡ Waiting) (λ b x. IsDue b) (λ b t a so. ap outcome_by so)

fetch_progress : Fails StaysInFetch0 Progresses
fetch_progress = stuck (λ b t a. (t.answer ≡ On) × (a.processor.control ≡ control.Fetch0)) (λ b x. IsDue b) (λ b t a so. ap outcome_by so.0)

refuses_progress : (x : Refusal) → Fails (RefusesEveryClock x) Progresses
refuses_progress x = stuck (λ b t a. ⊥) (λ b y. y ≡ x) (λ b t a so. absurd so)

card_progress : Fails (NeverEnds NeverUsesTheCard) Progresses
card_progress m first start at s is h =
    no_progress (Makes m) start is.answers at.running
    (λ e es run. endless e.event (is.each e es run).1)
    h
  where
    endless : (e : Event) → outcome_of e ≡ None → Endless e
    endless (clocked (Ok t)) h = h
    endless (clocked (Err x)) h = tt
    endless (reset r) h = tt
    endless (drawn r) h = tt
    endless (set k n w r) h = tt
    endless (given k r) h = tt

refused : (M : Entry → Type 0) (start : Config) (x : Refusal) (k : Clock M start) → Clocks (λ t. ⊥) (λ r. r ≡ x) (clocked k.answer) →
    Always M start Refusing → refusal_due (clocked k.answer) start ≡ Some x
refused M start x k h refusing = by k.answer k.after k.made h
  where
    by : (r : Result Tick Refusal) (d : Config) → M (entry start (clocked r) d) → Clocks (λ t. ⊥) (λ r. r ≡ x) (clocked r) → refusal_due (clocked r) start ≡ Some x
    by (Ok t) d m h = absurd h
    by (Err y) d m h = sym (refusing (entry start (clocked (Err y)) d) [] (more _ [] none m)).refused ∙ ap Some h

refuses_refusing : (x : Refusal) → Fails (RefusesEveryClock x) IsRefusing
refuses_refusing x m first start at s is h =
    let k = clock_at (Makes m) start (is.answers start [] none to_clock) in
    some_none x (sym (refused (Makes m) start x k (is.each _ _ (more (entry start (clocked k.answer) k.after) [] none k.made)) h) ∙ none_due first start at)

pub refuted : Refuted
refuted =
    record {
      works = works_broken;
      asks = asks;
      waits = (waits_timing, waits_progress);
      counts = counts_broken;
      halts = λ n. (halts_agreement n, halts_timing n);
      card = (card_timing, card_progress);
      fetch = (fetch_timing, fetch_progress);
      refuses = λ x. (refuses_refusing x, refuses_progress x);
      occurs = occurs;
    }
