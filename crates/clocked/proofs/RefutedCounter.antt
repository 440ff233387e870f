-- A machine that ends each instruction after the same number of clocks, and uses no card.
use Rattle.std.proofs.Common.{◌≡◌, ℕ, ◌+◌, ◌==◌, Bool, false, true, List, ◌∷◌, Ok, Err, Option, Some, None, ◌⊎◌, inl, inr, Result, refl, sym, ap, ◌∙◌, subst}
use Rattle.refusal.specs.declared.Refusal.{Refusal}
use Rattle.refusal.specs.declared.Refusal.TheVariants as refused
use Rattle.card.specs.Meaning.{Meaning}
use Rattle.isa.specs.Fields.{instruction_of}
use Rattle.machine.specs.declared.fault.Fault.{Fault}
use Rattle.machine.specs.declared.machine.Outcome.{Outcome}
use Rattle.clocked.specs.declared.control.Control.{Control}
use Rattle.clocked.specs.declared.control.Control.TheVariants as control
use Rattle.clocked.specs.declared.key.Key.{Key}
use Rattle.clocked.specs.declared.key.NotTaken.{NotTaken}
use Rattle.clocked.specs.declared.processor.Processor.{Processor}
use Rattle.clocked.specs.declared.tick.Answer.TheVariants.{On, Ended}
use Rattle.clocked.specs.declared.tick.Tick.{Tick}
use Rattle.clocked.specs.Comparison.{clocks_since, since_after, begun, begun_in}
use Rattle.clocked.specs.Promise.{Running}
use Rattle.clocked.specs.Refusals.{reset_refusal, draw_refusal, key_refusal}
use Rattle.clocked.specs.Runs.{Config, Event, clocked, reset, drawn, set, given, Entry, events, Run, none, more, MadeBy}
use Rattle.clocked.specs.WrongMachines.{by_answer, Makes, Kind, Clocks, IsStopped}
use Rattle.clocked.specs.Wrong.{Exists}
use Rattle.clocked.proofs.RefutedMachine.{EntryIs, entry_is, does, exists, tick, with}
use Rattle.clocked.proofs.Steps.{some_none, never_both, begun_same}

none_or : (x : Option Refusal) → (x ≡ None) ⊎ ((e : Refusal) × (x ≡ Some e))
none_or None = inl refl
none_or (Some e) = inr (e, refl)

-- The clocks since the boundary, as the machine keeps them in its control state.
abbrev kept : Control → ℕ
kept (control.Execute0 i d) = d
kept _ = 0

-- The key's calls leave the control state.
control_drawn : (c d : Config) (r : Result Key Refusal) → MadeBy (drawn r) c d → d.processor.control ≡ c.processor.control
control_drawn c d r h =
    elim (none_or (draw_refusal c.processor)) [
      | inl e ↦ ap (λ (p : Processor). p.control) (rw e at h).0.1
      | inr (x, e) ↦ ap (λ (p : Processor). p.control) (rw e at h).0.1
    ]

control_set : (c d : Config) (k : Key) (n w : ℕ) (r : Result (Unit {0}) Refusal) → MadeBy (set k n w r) c d → d.processor.control ≡ c.processor.control
control_set c d k n w r h =
    elim (none_or (key_refusal k c.processor)) [
      | inl e ↦ ap (λ (p : Processor). p.control) (rw e at h).0.1
      | inr (x, e) ↦ ap (λ (p : Processor). p.control) (rw e at h).0.1
    ]

control_given : (c d : Config) (k : Key) (r : Result (Unit {0}) NotTaken) → MadeBy (given k r) c d → d.processor.control ≡ c.processor.control
control_given c d k r h =
    elim (none_or (key_refusal k c.processor)) [
      | inl e ↦ ap (λ (p : Processor). p.control) (rw e at h).0.1
      | inr (x, e) ↦ ap (λ (p : Processor). p.control) (rw e at h).0.1
    ]

-- What the machine keeps: the clocks since the boundary, and no transfer.
record Keeps (n : ℕ) (c : Config) : Type 0 where
  count : n ≡ kept c.processor.control
  idle : c.card.transfer ≡ None

same_keeps : (n : ℕ) (c d : Config) → d.processor.control ≡ c.processor.control → d.card ≡ c.card → Keeps n c → Keeps n d
same_keeps n c d k m h =
    record { count = h.count ∙ sym (ap kept k); idle = ap (λ (m : Meaning). m.transfer) m ∙ h.idle }

keeps_reset : (c d : Config) (r : Result (Unit {0}) Refusal) (n : ℕ) → MadeBy (reset r) c d → Keeps n c → Keeps (since_after (reset r) 1 n) d
keeps_reset c d r n made h =
    elim (none_or (reset_refusal c.processor)) [
      | inl e ↦
          let g = rw e at made in
          record {
            count = ap (λ (r : Result (Unit {0}) Refusal). since_after (reset r) 1 n) g.0 ∙ sym (ap (λ (p : Processor). kept p.control) g.1);
            idle = ap (λ (m : Meaning). m.transfer) g.2;
          }
      | inr (x, e) ↦
          let g = rw e at made in
          let refused : r ≡ Err x = cc in
          let same : d.processor ≡ c.processor = cc in
          let card : d.card ≡ c.card = cc in
          let k = same_keeps n c d (ap (λ (p : Processor). p.control) same) card h in
          record { count = ap (λ (r : Result (Unit {0}) Refusal). since_after (reset r) 1 n) refused ∙ k.count; idle = k.idle }
    ]

-- The machine ends an instruction with the outcome o after n clocks and one more; it refuses a clock of an axis that does not run.
module _ (n : ℕ) (o : Outcome) where
  abbrev count_one : Bool → Config → Result Tick Refusal × Config
  count_one true c = (Ok (tick c (Ended o)), with c control.Fetch0)
  count_one false c = (Ok (tick c On), with c (control.Execute0 (instruction_of 0) (kept c.processor.control + 1)))

  abbrev count_running : Option Fault → Bool → Config → Result Tick Refusal × Config
  count_running (Some f) l c = (Err refused.Halted, c)
  count_running None true c = (Err refused.KeyOut, c)
  count_running None false c = count_one (kept c.processor.control == n) c

  abbrev pub counting : Config → Result Tick Refusal × Config
  counting c = count_running c.processor.fault c.processor.locked c

  keeps_one : (b : Bool) (m : ℕ) (c : Config) → Keeps m c → Keeps (since_after (clocked (count_one b c).0) 1 m) (count_one b c).1
  keeps_one true m c h = record { count = refl; idle = h.idle }
  keeps_one false m c h = record { count = ap (λ (n : ℕ). n + 1) h.count; idle = h.idle }

  keeps_running : (f : Option Fault) (l : Bool) (m : ℕ) (c : Config) → Keeps m c → Keeps (since_after (clocked (count_running f l c).0) 1 m) (count_running f l c).1
  keeps_running (Some f) l m c h = h
  keeps_running None true m c h = h
  keeps_running None false m c h = keeps_one (kept c.processor.control == n) m c h

  keeps_entry : (x : Event) (c d : Config) (m : ℕ) → EntryIs counting x c d → Keeps m c → Keeps (since_after x 1 m) d
  keeps_entry (clocked r) c d m e h =
      subst (λ (r : Result Tick Refusal). Keeps (since_after (clocked r) 1 m) d) (sym e.0)
      (subst (λ (d : Config). Keeps (since_after (clocked (counting c).0) 1 m) d) (sym e.1) (keeps_running c.processor.fault c.processor.locked m c h))
  keeps_entry (reset r) c d m e h = keeps_reset c d r m e h
  keeps_entry (drawn r) c d m e h = same_keeps m c d (control_drawn c d r e) e.1 h
  keeps_entry (set k i w r) c d m e h = same_keeps m c d (control_set c d k i w r e) e.1 h
  keeps_entry (given k r) c d m e h = same_keeps m c d (control_given c d k r e) e.1 h

  keeps : {start : Config} {es : List Entry} {c : Config} → Keeps 0 start → Run (Makes (by_answer (does counting))) start es c → Keeps (clocks_since (events es)) c
  keeps h none = h
  keeps h (more e es r m) =
      keeps_entry e.event e.before e.after (clocks_since (events es)) (entry_is counting e.event e.before e.after m) (keeps h r)

  keeps_before : {start : Config} {e : Entry} {es : List Entry} {c : Config} → Keeps 0 start → Run (Makes (by_answer (does counting))) start (e ∷ es) c → Keeps (clocks_since (events es)) e.before
  keeps_before h (more e es r m) = keeps h r

-- A clock of it, by whether it is the last of an instruction.
abbrev pub CountsSo : Outcome → Bool → Tick → Config → Type 0
CountsSo o true t d = t.answer ≡ Ended o
CountsSo o false t d = (t.answer ≡ On) × Running d × (d.card.transfer ≡ None)

module _ (n : ℕ) (o : Outcome) (c : Config) (idle : c.card.transfer ≡ None) where
  abbrev Counting : Bool → Config → Tick → Type 0
  Counting b d t = CountsSo o b t d × (begun c.card.transfer d.card.transfer ≡ 0)

  so_one : (b : Bool) → Running c → Clocks (Counting b (count_one n o b c).1) (λ r. IsStopped c) (clocked (count_one n o b c).0)
  so_one true runs = (refl, begun_same c.card.transfer)
  so_one false runs = ((refl, record { unhalted = runs.unhalted; unlocked = runs.unlocked }, idle), begun_same c.card.transfer)

  so_running : (f : Option Fault) (l : Bool) → c.processor.fault ≡ f → c.processor.locked ≡ l →
      Clocks (Counting (kept c.processor.control == n) (count_running n o f l c).1) (λ r. IsStopped c) (clocked (count_running n o f l c).0)
  so_running (Some f) l fault lock = λ runs. some_none f (sym fault ∙ runs.unhalted)
  so_running None true fault lock = λ runs. never_both c.processor.locked runs.unlocked lock
  so_running None false fault lock = so_one (kept c.processor.control == n) (record { unhalted = fault; unlocked = lock })

  so_counting : (m : ℕ) → m ≡ kept c.processor.control → (x : Event) (d : Config) → EntryIs (counting n o) x c d →
      Clocks (Counting (m == n) d) (λ r. IsStopped c) x
  so_counting m count (clocked r) d e =
      subst (λ (k : ℕ). Clocks (Counting (k == n) d) (λ r. IsStopped c) (clocked r)) (sym count)
      (subst (λ (r : Result Tick Refusal). Clocks (Counting (kept c.processor.control == n) d) (λ r. IsStopped c) (clocked r)) (sym e.0)
      (subst (λ (d : Config). Clocks (Counting (kept c.processor.control == n) d) (λ r. IsStopped c) (clocked (counting n o c).0)) (sym e.1)
      (so_running c.processor.fault c.processor.locked refl refl)))
  so_counting m count (reset r) d e = tt
  so_counting m count (drawn r) d e = tt
  so_counting m count (set k i w r) d e = tt
  so_counting m count (given k r) d e = tt

pub counter_exists : (n : ℕ) (o : Outcome) (K : Kind) →
    ((e : Entry) (es : List Entry) → Clocks (λ t. CountsSo o (clocks_since (events es) == n) t e.after × (begun_in e ≡ 0)) (λ r. IsStopped e.before) e.event → K es e) →
    Exists K
counter_exists n o K so =
    exists (counting n o) K
    (λ first start at e es run is.
    let k = keeps_before n o (record { count = sym (ap kept at.boundary); idle = at.idle }) run in
    so e es (so_counting n o e.before k.idle (clocks_since (events es)) k.count e.event e.after is))
