-- The machine of the five calls is determined: each of its entries is a function of the configuration, the call and the waits.
use Rattle.std.proofs.Common.{List, [], ◌∷◌, map, arith, ◌≡◌, ℕ, zero, suc, true, false, Some, None, Ok, Err, Option, Result, sym, refl, ap, ◌∙◌}
use Rattle.std.specs.Option.{option_map}
use Rattle.refusal.specs.declared.Refusal.{Refusal}
use Rattle.refusal.specs.Unless.{UnlessRefused}
use Rattle.card.specs.declared.transfer.Request.{Request}
use Rattle.card.specs.declared.transfer.Transfer.{Transfer}
use Rattle.card.specs.Ends.{End, end_of}
use Rattle.card.specs.Meaning.{Meaning, waiting, finished, idle}
use Rattle.machine.specs.Axes.{axis_number}
use Rattle.machine.specs.declared.fault.Stage.{Stage}
use Rattle.machine.specs.declared.machine.Outcome.TheVariants.{Halted}
use Rattle.clocked.specs.declared.key.Key.{Key}
use Rattle.clocked.specs.declared.key.NotTaken.{NotTaken}
use Rattle.clocked.specs.declared.processor.Processor.{Processor}
use Rattle.clocked.specs.declared.tick.Answer.{Answer}
use Rattle.clocked.specs.declared.tick.Answer.TheVariants.{On, Waiting, Ended}
use Rattle.clocked.specs.declared.tick.Tick.{Tick}
use Rattle.clocked.specs.Calls.{Did, Ends, Polls, PollsFrom, Accepted, not_taken}
use Rattle.clocked.specs.Changes.{written_back, halting, restarting, locking, setting}
use Rattle.clocked.specs.Comparison.{begun, begun_in}
use Rattle.clocked.specs.Control.{named}
use Rattle.clocked.specs.Determined.{Determined}
use Rattle.clocked.specs.Refusals.{when_transfer, clock_refusal, reset_refusal, draw_refusal, key_refusal}
use Rattle.clocked.specs.Runs.{Config, config, Call, call_of, to_clock, to_reset, to_draw, to_set, to_give_back, clocked, reset, drawn, set, given, Made, MadeBy, Event, Entry, Run, none, more}
use Rattle.clocked.specs.Table.{Move, Row, moves, begins, polls, row_of}
use Rattle.clocked.proofs.Calling.{no_lock, no_halt}
use Rattle.clocked.proofs.Steps.{some_none, begun_new}

-- What a row answers and leaves, where a transfer that it begins gets w waits.
abbrev Left : Type 0
Left = Answer × Config

abbrev ended : End → (ℕ → Move) → Stage → ℕ → Processor → Meaning → Left
ended (Ok v) take s a p d = ((take v).0, config (take v).1 d)
ended (Err why) take s a p d = (Ended Halted, config (halting s a why p) d)

abbrev polled : ℕ → Request → (ℕ → Move) → Stage → ℕ → Processor → Meaning → Left
polled zero b take s a p c = ended (end_of b.direction (c.map b.address)) take s a p (finished b c)
polled (suc w) b take s a p c = (Waiting, config p (waiting b w c))

-- Without a transfer there is no answer: it stands for a clock that is refused.
abbrev polled_from : Option Transfer → (ℕ → Move) → Stage → ℕ → Processor → Meaning → Left
polled_from None take s a p c = (Waiting, config p c)
polled_from (Some x) take s a p c = polled x.waits x.request take s a p c

abbrev left_by : Row → Processor → Meaning → ℕ → Left
left_by (moves m) p c w = (m.0, config m.1 c)
left_by (begins b n) p c w = (On, config n (waiting b w c))
left_by (polls take s a) p c w = polled_from c.transfer take s a p c

left_as : (t u : Answer) (q r : Processor) (d e : Meaning) → t ≡ u → q ≡ r → d ≡ e → ◌≡◌ {A = Left} (t, config q d) (u, config r e)
left_as t u q r d e tu qr de =
    ap (λ (x : Answer). (x, config q d)) tu ∙ ap (λ (x : Processor). (u, config x d)) qr ∙ ap (λ (x : Meaning). (u, config r x)) de

module _ (p : Processor) (c : Meaning) (t : Answer) (q : Processor) (d : Meaning) where
  by_end : (e : End) (take : ℕ → Move) (s : Stage) (a : ℕ) (b : Request) → Ends e take s a p t q → d ≡ finished b c →
      ◌≡◌ {A = Left} (t, config q d) (ended e take s a p (finished b c))
  by_end (Ok v) take s a b h after = left_as t _ q _ d _ h.0 h.1 after
  by_end (Err why) take s a b h after = left_as t _ q _ d _ h.0 h.1 after

  by_wait : (w : ℕ) (b : Request) (take : ℕ → Move) (s : Stage) (a : ℕ) → Polls w b take s a p c t q d →
      ◌≡◌ {A = Left} (t, config q d) (polled w b take s a p c)
  by_wait zero b take s a h = by_end (end_of b.direction (c.map b.address)) take s a b h.0 h.1
  by_wait (suc w) b take s a h = left_as t _ q _ d _ h.0 h.1 h.2

  by_transfer : (x : Option Transfer) (take : ℕ → Move) (s : Stage) (a : ℕ) → PollsFrom x take s a p c t q d →
      ◌≡◌ {A = Left} (t, config q d) (polled_from x take s a p c)
  by_transfer None take s a h = elim h [ ]
  by_transfer (Some x) take s a h = by_wait x.waits x.request take s a h

  free : (b : Request) (n : Processor) (x : Option Transfer) → when_transfer (begins b n) x ≡ None → x ≡ None
  free b n None e = refl
  free b n (Some x) e = elim (some_none _ e) [ ]

  by_row : (r : Row) → when_transfer r c.transfer ≡ None → Did r p c t q d →
      ◌≡◌ {A = Left} (t, config q d) (left_by r p c (begun c.transfer d.transfer))
  by_row (moves m) idle h = left_as t _ q _ d _ h.0 h.1 h.2
  by_row (begins b n) idle h =
      left_as t _ q _ d _ h.0 h.1
      (h.2.0 ∙ ap (λ (w : ℕ). waiting b w c) (sym (begun_new c.transfer d.transfer (free b n c.transfer idle))))
  by_row (polls take s a) idle h = by_transfer c.transfer take s a h

-- An event, and what is there afterwards, by the refusal that is due.
abbrev Response : Type 0
Response = Event × Config

abbrev ticked : Processor → Left → Response
ticked p x = (clocked (Ok (record { state = named p.control; answer = x.0 })), x.1)

abbrev clocks : Option Refusal → Processor → Meaning → ℕ → Response
clocks (Some e) p c w = (clocked (Err e), config p c)
clocks None p c w = ticked p (left_by (row_of p.control p) p c w)

abbrev resets : Option Refusal → Processor → Meaning → Response
resets (Some e) p c = (reset (Err e), config p c)
resets None p c = (reset (Ok tt), config (restarting (written_back p)) (idle c))

abbrev draws : Option Refusal → Processor → Meaning → Response
draws (Some e) p c = (drawn (Err e), config p c)
draws None p c = (drawn (Ok (record { axis = axis_number p.axis })), config (locking true (written_back p)) c)

abbrev sets : Option Refusal → Key → ℕ → ℕ → Processor → Meaning → Response
sets (Some e) k n v p c = (set k n v (Err e), config p c)
sets None k n v p c = (set k n v (Ok tt), config (setting n v p) c)

abbrev gives : Option Refusal → Key → Processor → Meaning → Response
gives (Some e) k p c = (given k (Err (not_taken k e)), config p c)
gives None k p c = (given k (Ok tt), config (locking false p) c)

abbrev made_in : Call → Config → ℕ → Response
made_in to_clock b w = clocks (clock_refusal b.processor b.card) b.processor b.card w
made_in to_reset b w = resets (reset_refusal b.processor) b.processor b.card
made_in to_draw b w = draws (draw_refusal b.processor) b.processor b.card
made_in (to_set k n v) b w = sets (key_refusal k b.processor) k n v b.processor b.card
made_in (to_give_back k) b w = gives (key_refusal k b.processor) k b.processor b.card

module _ (p : Processor) (c : Meaning) (q : Processor) (d : Meaning) where
  abbrev Same : Type 0
  Same = (q ≡ p) × (d ≡ c)

  accepted : (r : Result Tick Refusal) → clock_refusal p c ≡ None → Accepted r p c q d →
      ◌≡◌ {A = Response} (clocked r, config q d) (clocks None p c (begun c.transfer d.transfer))
  accepted (Err e) free h = elim h [ ]
  accepted (Ok t) free h =
      let idle = (no_halt p.fault _ (no_lock p.locked _ free).1).1 in
      ap (λ (x : Tick). (clocked (Ok x), config q d)) (ap (λ x. record { state = x; answer = t.answer }) h.0)
      ∙ ap (ticked p) (by_row p c t.answer q d (row_of p.control p) idle h.1)

  clock_made : (x : Option Refusal) (r : Result Tick Refusal) → clock_refusal p c ≡ x → UnlessRefused x r Same (Accepted r p c q d) →
      ◌≡◌ {A = Response} (clocked r, config q d) (clocks x p c (begun c.transfer d.transfer))
  clock_made (Some e) r is h = let same = h.0 in let p_same = h.1.0 in let c_same = h.1.1 in cc
  clock_made None r is h = accepted r is h

  reset_made : (x : Option Refusal) (r : Result (Unit {0}) Refusal) →
      UnlessRefused x r Same ((r ≡ Ok tt) × (q ≡ restarting (written_back p)) × (d ≡ idle c)) →
      ◌≡◌ {A = Response} (reset r, config q d) (resets x p c)
  reset_made (Some e) r h = let same = h.0 in let p_same = h.1.0 in let c_same = h.1.1 in cc
  reset_made None r h = let same = h.0 in let p_same = h.1 in let c_same = h.2 in cc

  draw_made : (x : Option Refusal) (r : Result Key Refusal) → d ≡ c →
      UnlessRefused x r (q ≡ p) ((r ≡ Ok (record { axis = axis_number p.axis })) × (q ≡ locking true (written_back p))) →
      ◌≡◌ {A = Response} (drawn r, config q d) (draws x p c)
  draw_made (Some e) r same h = let r_same = h.0 in let p_same = h.1 in cc
  draw_made None r same h = let r_same = h.0 in let p_same = h.1 in cc

  set_made : (x : Option Refusal) (k : Key) (n v : ℕ) (r : Result (Unit {0}) Refusal) → d ≡ c →
      UnlessRefused x r (q ≡ p) ((r ≡ Ok tt) × (q ≡ setting n v p)) →
      ◌≡◌ {A = Response} (set k n v r, config q d) (sets x k n v p c)
  set_made (Some e) k n v r same h = let r_same = h.0 in let p_same = h.1 in cc
  set_made None k n v r same h = let r_same = h.0 in let p_same = h.1 in cc

  given_made : (x : Option Refusal) (k : Key) (r : Result (Unit {0}) NotTaken) → d ≡ c →
      UnlessRefused (option_map (not_taken k) x) r (q ≡ p) ((r ≡ Ok tt) × (q ≡ locking false p)) →
      ◌≡◌ {A = Response} (given k r, config q d) (gives x k p c)
  given_made (Some e) k r same h = let r_same = h.0 in let p_same = h.1 in cc
  given_made None k r same h = let r_same = h.0 in let p_same = h.1 in cc

of_made : (e : Event) (b a : Config) → MadeBy e b a →
    ◌≡◌ {A = Response} (e, a) (made_in (call_of e) b (begun b.card.transfer a.card.transfer))
of_made (clocked r) b a h = clock_made b.processor b.card a.processor a.card (clock_refusal b.processor b.card) r refl h
of_made (reset r) b a h = reset_made b.processor b.card a.processor a.card (reset_refusal b.processor) r h
of_made (drawn r) b a h = draw_made b.processor b.card a.processor a.card (draw_refusal b.processor) r h.1 h.0
of_made (set k n v r) b a h = set_made b.processor b.card a.processor a.card (key_refusal k b.processor) k n v r h.1 h.0
of_made (given k r) b a h = given_made b.processor b.card a.processor a.card (key_refusal k b.processor) k r h.1 h.0

same_entry : (e f : Entry) → Made e → Made f → e.before ≡ f.before → call_of e.event ≡ call_of f.event → begun_in e ≡ begun_in f → e ≡ f
same_entry e f me mf same call waits =
    let x = of_made e.event e.before e.after me in
    let y = of_made f.event f.before f.after mf in
    let z : ◌≡◌ {A = Response} (e.event, e.after) (f.event, f.after) =
    x ∙ ap (λ (b : Config). made_in (call_of e.event) b (begun_in e)) same
    ∙ ap (λ (k : Call). made_in k f.before (begun_in e)) call ∙ ap (λ (w : ℕ). made_in (call_of f.event) f.before w) waits ∙ sym y in
    ap (λ (b : Config). record { before = b; event = e.event; after = e.after }) same
    ∙ ap (λ (v : Response). record { before = f.before; event = v.0; after = v.1 }) z

abbrev calls_in : List Entry → List Call
calls_in es = map (λ e. call_of e.event) es

-- Two runs end the same and are the same, if their calls and waits are.
abbrev Replays : Config → List Entry → Config → Type 0
Replays start es c =
    (fs : List Entry) (d : Config) → Run Made start fs d → calls_in es ≡ calls_in fs → map begun_in es ≡ map begun_in fs → (es ≡ fs) × (c ≡ d)

none_more : {X : Type 0} (x : X) (xs : List X) → ◌≡◌ {A = List X} [] (x ∷ xs) → ⊥
none_more x xs e = let y : ◌≡◌ {A = ℕ} 0 1 = cc in omega arith

heads : {X : Type 0} (x y : X) (xs ys : List X) → (x ∷ xs) ≡ (y ∷ ys) → (x ≡ y) × (xs ≡ ys)
heads x y xs ys e = (cc, cc)

module _ (start : Config) where
  replays_none : {fs : List Entry} {d : Config} → Run Made start fs d → calls_in [] ≡ calls_in fs → map begun_in [] ≡ map begun_in fs →
      ([] ≡ fs) × (start ≡ d)
  replays_none none calls waits = (refl, refl)
  replays_none (more f fs r k) calls waits = elim (none_more _ _ calls) [ ]

  replays_more : (e : Entry) (es : List Entry) → Made e → Replays start es e.before → {gs : List Entry} {d : Config} → Run Made start gs d →
      calls_in (e ∷ es) ≡ calls_in gs → map begun_in (e ∷ es) ≡ map begun_in gs → ((e ∷ es) ≡ gs) × (e.after ≡ d)
  replays_more e es m same none calls waits = elim (none_more _ _ (sym calls)) [ ]
  replays_more e es m same (more f fs r k) calls waits =
      let call = heads _ _ _ _ calls in
      let wait = heads _ _ _ _ waits in
      let rest = same fs f.before r call.1 wait.1 in
      let last = same_entry e f m k rest.1 call.0 wait.0 in
      (ap (λ (x : Entry). x ∷ es) last ∙ ap (λ (x : List Entry). f ∷ x) rest.0, ap (λ (x : Entry). x.after) last)

  replays : {es : List Entry} {c : Config} → Run Made start es c → Replays start es c
  replays none = λ fs d r. replays_none r
  replays (more e es r m) = λ fs d s. replays_more e es m (replays r) s

pub determined : Determined Made
determined =
    record {
      entry = same_entry;
      run = λ start c d es fs r s. replays start r fs d s;
    }
