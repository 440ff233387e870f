-- Machines that finish, or halt, after so many clocks.
use Rattle.std.proofs.Common.{◌≡◌, ℕ, Bool, false, true, ◌==◌, ◌+◌, List, [], ◌∷◌, Ok, Err, Option, Some, None, refl, sym, ap, ◌∙◌, subst, arith}
use Rattle.std.proofs.lemmas.Bool.Decides.{nat_tests}
use Rattle.card.specs.Meaning.{Meaning}
use Rattle.machine.specs.declared.machine.Outcome.{Outcome}
use Rattle.machine.specs.declared.machine.Outcome.TheVariants.{Done, Ignored, Halted}
use Rattle.machine.specs.State.{State}
use Rattle.machine.specs.Step.{step}
use Rattle.clocked.specs.declared.tick.Answer.{Answer}
use Rattle.clocked.specs.declared.tick.Answer.TheVariants.{On, Waiting, Ended}
use Rattle.clocked.specs.declared.tick.Tick.{Tick}
use Rattle.clocked.specs.Comparison.{begun_in, compared, clocks_since, clocks_due, since_after, since_by, waits_since}
use Rattle.clocked.specs.Entries.{Took, Answers}
use Rattle.clocked.specs.Promise.{Agreement, Timing, Counted, Always, Answering, Starts, Running}
use Rattle.clocked.specs.Runs.{Config, Event, clocked, reset, drawn, set, given, outcome_by, Entry, events, Run, none, more}
use Rattle.clocked.specs.Wrong.{FailsFrom, Fails, Agrees, IsInTime, IsCounted, DoesNotHalt, TakesOther}
use Rattle.clocked.specs.WrongMachines.{Makes, IsStopped, EndsUnhalted, FinishesIf, MakesUpItsCount, HaltsIf, HaltsBefore}
use Rattle.clocked.proofs.RefutedRuns.{entry, Ticked, ticked, GoesBefore, going, Each}
use Rattle.clocked.proofs.Steps.{some_none}
use Rattle.clocked.proofs.RefutedTiming.{first_row, Second, second, second_row}

same_number : (n : ℕ) → n == n ≡ true
same_number n = grind (arith, nat_tests)

-- A machine that halts so does not go on as the table does.
halts_row : (M : Entry → Type 0) (first : State) (start c : Config) (es : List Entry) → Second c → Run M start es c → Always M start (Timing first) →
    (b : Bool) (t : Tick) (d : Config) → M (entry c (clocked (Ok t)) d) → HaltsIf b t d → ⊥
halts_row M first start c es s run h true t d m halts = let on = (second_row M first start c es s run h t d m).0 in absurd (cc)
halts_row M first start c es s run h false t d m halts =
    some_none _ (sym (ap (λ (m : Meaning). m.transfer) (second_row M first start c es s run h t d m).2.0) ∙ halts.2)

module _ (M : Entry → Type 0) (first : State) (start : Config) (at : Starts first start) (n : ℕ) (answers : Answering M start) (each : Always M start (HaltsBefore n)) where
  -- A clock of a running axis.
  halts_tick : (c : Config) (es : List Entry) → Run M start es c → Running c → Ticked M c (λ t d. HaltsIf (clocks_since (events es) == n) t d)
  halts_tick c es run runs =
      ticked M start c es (λ t d. HaltsIf (clocks_since (events es) == n) t d) (λ x. IsStopped c) answers run (λ x stopped. stopped runs) (λ r d run. each _ _ run)

  halts_second : Always M start (Timing first) → (t : Tick) (c : Config) → M (entry start (clocked (Ok t)) c) → ⊥
  halts_second h t c m =
      let did = first_row M first start at answers h t c m in
      let sec = second first start at t.answer c did in
      let run : Run M start (entry start (clocked (Ok t)) c ∷ []) c = more _ [] none m in
      let u = halts_tick c _ run sec.running in
      halts_row M first start c _ sec run h _ u.tick u.after u.made u.holds

  halts_goes : GoesBefore M (λ e. Unit {0}) first start n
  halts_goes c es run runs early =
      let t = halts_tick c es run runs in
      let g : HaltsIf false t.tick t.after = subst (λ (b : Bool). HaltsIf b t.tick t.after) early t.holds in
      record { tick = t.tick; after = t.after; made = t.made; holds = (g.0, g.1, tt) }

  halts_last : Always M start (Agreement first) → (step first).0 ≡ Some Halted
  halts_last h =
      let g = going M (λ e. Unit {0}) first start n at.running halts_goes n (omega arith) in
      let t = halts_tick g.c g.es g.run g.running in
      let now : clocks_since (events g.es) == n ≡ true = subst (λ (k : ℕ). k == n ≡ true) (sym g.long) (same_number n) in
      let e : t.tick.answer ≡ Ended Halted = subst (λ (b : Bool). HaltsIf b t.tick t.after) now t.holds in
      let a = h (entry g.c (clocked (Ok t.tick)) t.after) g.es (more _ g.es g.run t.made) in
      let a : (step (compared first (events g.es))).0 ≡ Some Halted = subst (λ (x : Answer). Answers (outcome_by x) (compared first (events g.es))) e a.answers in
      subst (λ (s : State). (step s).0 ≡ Some Halted) g.same a

pub halts_timing : (n : ℕ) → Fails (HaltsBefore n) IsInTime
halts_timing n m first start at s is h =
    let t = halts_tick (Makes m) first start at n is.answers is.each start [] none at.running in
    halts_second (Makes m) first start at n is.answers is.each h t.tick t.after t.made

pub halts_agreement : (n : ℕ) → FailsFrom DoesNotHalt (HaltsBefore n) Agrees
halts_agreement n m first start at s is h = s (halts_last (Makes m) first start at n is.answers is.each h)

-- Where no clock begins waits there are none.
no_waits : (es : List Entry) → Each (λ e. begun_in e ≡ 0) es → waits_since es ≡ 0
no_waits [] h = refl
no_waits (e ∷ es) h = ap (λ (n : ℕ). since_after e.event n (waits_since es)) h.0 ∙ ap (λ (n : ℕ). since_after e.event 0 n) (no_waits es h.1) ∙ nothing e.event
  where
    by : (t : Answer) → since_by t 0 0 ≡ 0
    by On = refl
    by Waiting = refl
    by (Ended o) = refl

    nothing : (e : Event) → since_after e 0 0 ≡ 0
    nothing (clocked (Ok t)) = by t.answer
    nothing (clocked (Err x)) = refl
    nothing (reset (Ok u)) = refl
    nothing (reset (Err x)) = refl
    nothing (drawn r) = refl
    nothing (set k n w r) = refl
    nothing (given k r) = refl

-- A finish that took its count.
finish_took : (o : Option Outcome) → EndsUnhalted o → (s : State) (n w : ℕ) → Took o s n w → n + 1 ≡ clocks_due s + w
finish_took None f s n w h = absurd f
finish_took (Some Done) f s n w h = h
finish_took (Some Ignored) f s n w h = h
finish_took (Some Halted) f s n w h = absurd f

module _ (M : Entry → Type 0) (first : State) (start : Config) (at : Starts first start) (n : ℕ) (answers : Answering M start) (each : Always M start (MakesUpItsCount n)) where
  counts_tick : (c : Config) (es : List Entry) → Run M start es c → Running c →
      Ticked M c (λ t d. FinishesIf (clocks_since (events es) == n) t d × (begun_in (entry c (clocked (Ok t)) d) ≡ 0))
  counts_tick c es run runs =
      ticked M start c es (λ t d. FinishesIf (clocks_since (events es) == n) t d × (begun_in (entry c (clocked (Ok t)) d) ≡ 0)) (λ x. IsStopped c)
      answers run (λ x stopped. stopped runs) (λ r d run. each _ _ run)

  counts_goes : GoesBefore M (λ e. begun_in e ≡ 0) first start n
  counts_goes c es run runs early =
      let t = counts_tick c es run runs in
      let g : FinishesIf false t.tick t.after = subst (λ (b : Bool). FinishesIf b t.tick t.after) early t.holds.0 in
      record { tick = t.tick; after = t.after; made = t.made; holds = (g.0, g.1, t.holds.1) }

  counts_last : Always M start (Counted first) → clocks_due first ≡ n + 1
  counts_last h =
      let g = going M (λ e. begun_in e ≡ 0) first start n at.running counts_goes n (omega arith) in
      let t = counts_tick g.c g.es g.run g.running in
      let e : Entry = entry g.c (clocked (Ok t.tick)) t.after in
      let now : clocks_since (events g.es) == n ≡ true = subst (λ (k : ℕ). k == n ≡ true) (sym g.long) (same_number n) in
      let f : FinishesIf true t.tick t.after = subst (λ (b : Bool). FinishesIf b t.tick t.after) now t.holds.0 in
      let k = finish_took (outcome_by t.tick.answer) f (compared first (events g.es)) (clocks_since (events g.es)) (waits_since g.es + begun_in e) (h e g.es (more _ g.es g.run t.made)) in
      let same : clocks_due (compared first (events g.es)) ≡ clocks_due first = ap (λ (s : State). clocks_due s) g.same in
      let none : waits_since g.es ≡ 0 = no_waits g.es g.each in
      let here : begun_in e ≡ 0 = t.holds.1 in
      let long : clocks_since (events g.es) ≡ n = g.long in
      omega (arith, k, same, none, here, long)

pub counts_broken : (n : ℕ) → FailsFrom (TakesOther (n + 1)) (MakesUpItsCount n) IsCounted
counts_broken n m first start at s is h = s (counts_last (Makes m) first start at n is.answers is.each h)
