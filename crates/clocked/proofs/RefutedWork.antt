-- A machine that works at once, and a reset in decode.
use Rattle.std.proofs.Common.{◌≡◌, Bool, false, true, List, [], ◌∷◌, Ok, Err, None, Result, refl, sym, ap, ◌∙◌, subst}
use Rattle.refusal.specs.declared.Refusal.{Refusal}
use Rattle.card.specs.Meaning.{Meaning}
use Rattle.machine.specs.State.{State, restarted}
use Rattle.machine.specs.Step.{step}
use Rattle.clocked.specs.declared.control.ControlState.{ControlState}
use Rattle.clocked.specs.declared.control.ControlState.TheVariants.{Fetch0, Fetch1, Fetch2, Decode}
use Rattle.clocked.specs.declared.processor.Processor.{Processor}
use Rattle.clocked.specs.declared.tick.Answer.{Answer}
use Rattle.clocked.specs.declared.tick.Tick.{Tick}
use Rattle.clocked.specs.Comparison.{compared, compared_after, compared_by}
use Rattle.clocked.specs.Control.{named}
use Rattle.clocked.specs.Changes.{written_back, restarting}
use Rattle.clocked.specs.Refusals.{is_at_rest}
use Rattle.clocked.specs.Processor.{axis_state}
use Rattle.clocked.specs.Promise.{Agreement, Always, Answering, Starts, Running}
use Rattle.clocked.specs.Runs.{Config, clocked, reset, Entry, events, Run, none, more, MadeBy, to_reset}
use Rattle.clocked.specs.Wrong.{FailsFrom, AgreesInDecode, IsResetInDecode, ChangesMore}
use Rattle.clocked.specs.WrongMachines.{Makes, Clocks, IsStopped, GoesTo, Works, WorksAtOnce}
use Rattle.clocked.proofs.RefutedRuns.{entry, reset_at, Ticked, ticked}

-- A reset of an axis whose key is in.
reset_made : (c d : Config) (r : Result (Unit {0}) Refusal) → MadeBy (reset r) c d → c.processor.locked ≡ false →
    (r ≡ Ok tt) × (axis_state d.processor d.card.map ≡ restarted (axis_state c.processor c.card.map)) × (is_at_rest d.processor ≡ true)
reset_made c d r made unlocked =
    let p : Bool → Processor = λ b. record c.processor { locked = b } in
    let h = subst (λ (b : Bool). MadeBy (reset r) (record { processor = p b; card = c.card }) d) unlocked made in
    let q : d.processor ≡ restarting (written_back (p false)) = h.1 in
    (h.0, ap (λ (q : Processor). axis_state q d.card.map) q ∙ ap (λ (m : Meaning). axis_state (restarting (written_back (p false))) m.map) h.2, ap (λ (q : Processor). is_at_rest q) q)

-- A run of clocks answered on, by which the axis has come to a state and shows what an instruction leaves.
record Worked (M : Entry → Type 0) (first : State) (start : Config) (k : ControlState) : Type 0 where
  es : List Entry
  c : Config
  run : Run M start es c
  running : Running c
  state : named c.processor.control ≡ k
  shows : axis_state c.processor c.card.map ≡ (step first).1
  same : compared first (events es) ≡ first

module _ (M : Entry → Type 0) (first : State) (start : Config) (changes : ChangesMore first) (answers : Answering M start) (each : Always M start WorksAtOnce) where
  works_tick : (k : ControlState) (c : Config) (es : List Entry) → Run M start es c → Running c → named c.processor.control ≡ k → Ticked M c (Works k c)
  works_tick k c es run runs state =
      ticked M start c es (Works k c) (λ x. IsStopped c) answers run (λ x stopped. stopped runs) (λ r d run. by r d (each _ _ run))
    where
      by : (r : Result Tick Refusal) (d : Config) → WorksAtOnce es (entry c (clocked r) d) → Clocks (λ t. Works k c t d) (λ x. IsStopped c) (clocked r)
      by (Ok t) d h = subst (λ (k : ControlState). Works k c t d) state h
      by (Err x) d h = h

  -- One clock more.
  worked : (k : ControlState) (c d : Config) (es : List Entry) (t : Tick) → Run M start es c → Running c → compared first (events es) ≡ first →
      M (entry c (clocked (Ok t)) d) → GoesTo k (step first).1 c t d → Worked M first start k
  worked k c d es t run runs same made g =
      record {
        es = entry c (clocked (Ok t)) d ∷ es;
        c = d;
        run = more _ es run made;
        running = record { unhalted = ap (λ (s : State). s.fault) g.shows ∙ changes.unhalted; unlocked = g.lock ∙ runs.unlocked };
        state = g.next;
        shows = g.shows;
        same = ap (λ (a : Answer). compared_by a (compared first (events es))) g.on ∙ same;
      }

  at_fetch1 : Starts first start → Worked M first start Fetch1
  at_fetch1 at =
      let t = works_tick Fetch0 start [] none at.running (ap named at.boundary) in
      let f : (step first).1.fault ≡ None → GoesTo Fetch1 (step first).1 start t.tick t.after =
      subst (λ (s : State). (step s).1.fault ≡ None → GoesTo Fetch1 (step s).1 start t.tick t.after) at.agrees t.holds in
      let g = f changes.unhalted in
      worked Fetch1 start t.after [] t.tick none at.running refl t.made g

  at_fetch2 : Worked M first start Fetch1 → Worked M first start Fetch2
  at_fetch2 w =
      let t = works_tick Fetch1 w.c w.es w.run w.running w.state in
      let g = subst (λ (s : State). GoesTo Fetch2 s w.c t.tick t.after) w.shows t.holds in
      worked Fetch2 w.c t.after w.es t.tick w.run w.running w.same t.made g

  at_decode : Worked M first start Fetch2 → Worked M first start Decode
  at_decode w =
      let t = works_tick Fetch2 w.c w.es w.run w.running w.state in
      let g = subst (λ (s : State). GoesTo Decode s w.c t.tick t.after) w.shows t.holds in
      worked Decode w.c t.after w.es t.tick w.run w.running w.same t.made g

  -- The reset shows the work of an instruction that never ended.
  reset_in_decode : Worked M first start Decode → Always M start (λ es e. IsResetInDecode e → Agreement first es e) → restarted (step first).1 ≡ restarted first
  reset_in_decode w h =
      let k = reset_at M w.c (answers w.c w.es w.run to_reset) in
      let run : Run M start (entry w.c (reset k.answer) k.after ∷ w.es) k.after = more _ w.es w.run k.made in
      let made = reset_made w.c k.after k.answer (each _ w.es run) w.running.unlocked in
      let a = h _ w.es run (record { of_call = refl; state = w.state }) in
      sym (ap restarted w.shows)
      ∙ sym made.1
      ∙ a.shows made.2
      ∙ ap (λ (r : Result (Unit {0}) Refusal). compared_after (reset r) (compared first (events w.es))) made.0
      ∙ ap restarted w.same

pub works_broken : FailsFrom ChangesMore WorksAtOnce AgreesInDecode
works_broken m first start at changes is h =
    let w = at_fetch1 (Makes m) first start changes is.answers is.each at in
    let w = at_fetch2 (Makes m) first start changes is.answers is.each w in
    let w = at_decode (Makes m) first start changes is.answers is.each w in
    changes.more (reset_in_decode (Makes m) first start changes is.answers is.each w h)
