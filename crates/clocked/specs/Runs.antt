-- Runs of an axis: its calls with their arguments and answers, one after the other, refused ones included.
-- A reader must believe: each call picks up where the last one ended, which is to say that nothing but these five calls
-- changes the processor, its card or what lies under it.
use Rattle.std.specs.Prelude.{◌≡◌, ℕ, List, [], ◌∷◌, map, Some, None, Ok, Err, Option, Result}
use Rattle.refusal.specs.declared.Refusal.{Refusal}
use Rattle.card.specs.Meaning.{Meaning}
use Rattle.clocked.specs.declared.key.Key.{Key}
use Rattle.clocked.specs.declared.key.NotTaken.{NotTaken}
use Rattle.clocked.specs.declared.processor.Processor.{Processor}
use Rattle.machine.specs.declared.machine.Outcome.{Outcome}
use Rattle.clocked.specs.declared.tick.Answer.{Answer}
use Rattle.clocked.specs.declared.tick.Answer.TheVariants.{On, Waiting, Ended}
use Rattle.clocked.specs.declared.tick.Tick.{Tick}
use Rattle.clocked.specs.Calls.{Clocked, Reset, Drawn, Set, Given}

-- A processor and the meaning of the card that is lent to its calls.
pub record Config : Type 0 where
  pub processor : Processor
  pub card : Meaning

abbrev pub config : Processor → Meaning → Config
config p c = record { processor = p; card = c }

-- A call with its arguments and its answer.
pub data Event : Type 0 where
  clocked : Result Tick Refusal → Event
  reset : Result (Unit {0}) Refusal → Event
  drawn : Result Key Refusal → Event
  set : Key → ℕ → ℕ → Result (Unit {0}) Refusal → Event
  given : Key → Result (Unit {0}) NotTaken → Event

-- The tick of an accepted clock; no other event has one.
abbrev pub tick_of : Event → Option Tick
tick_of (clocked (Ok t)) = Some t
tick_of (clocked (Err e)) = None
tick_of (reset r) = None
tick_of (drawn r) = None
tick_of (set k n w r) = None
tick_of (given k r) = None

-- The outcome of the instruction that an accepted clock ended.
abbrev pub outcome_by : Answer → Option Outcome
outcome_by On = None
outcome_by Waiting = None
outcome_by (Ended o) = Some o

abbrev pub outcome_in : Option Tick → Option Outcome
outcome_in None = None
outcome_in (Some t) = outcome_by t.answer

abbrev pub outcome_of : Event → Option Outcome
outcome_of e = outcome_in (tick_of e)

-- A call with its arguments.
pub data Call : Type 0 where
  to_clock : Call
  to_reset : Call
  to_draw : Call
  to_set : Key → ℕ → ℕ → Call
  to_give_back : Key → Call

abbrev pub call_of : Event → Call
call_of (clocked r) = to_clock
call_of (reset r) = to_reset
call_of (drawn r) = to_draw
call_of (set k n w r) = to_set k n w
call_of (given k r) = to_give_back k

pub record Entry : Type 0 where
  pub before : Config
  pub event : Event
  pub after : Config

abbrev pub events : List Entry → List Event
events es = map (λ e. e.event) es

-- A run of a machine M, which is given by its entries, from one configuration to another. The newest entry stands first.
pub data Run (M : Entry → Type 0) (start : Config) : List Entry → Config → Type 0 where
  none : Run M start [] start
  more : (e : Entry) (es : List Entry) → Run M start es e.before → M e → Run M start (e ∷ es) e.after

-- What the three calls that are not lent the card make of the processor: their contracts.
abbrev pub MadeWithoutCard : Event → Processor → Processor → Type 0
MadeWithoutCard (clocked r) p q = ⊥
MadeWithoutCard (reset r) p q = ⊥
MadeWithoutCard (drawn r) p q = Drawn p r q
MadeWithoutCard (set k n w r) p q = Set p k n w r q
MadeWithoutCard (given k r) p q = Given p k r q

-- What the five calls make of processor and card: the contracts of the clock and the reset, and of the others, which leave
-- the card.
abbrev pub MadeBy : Event → Config → Config → Type 0
MadeBy (clocked r) b a = Clocked b.processor b.card r a.processor a.card
MadeBy (reset r) b a = Reset b.processor b.card r a.processor a.card
MadeBy (drawn r) b a = MadeWithoutCard (drawn r) b.processor a.processor × (a.card ≡ b.card)
MadeBy (set k n w r) b a = MadeWithoutCard (set k n w r) b.processor a.processor × (a.card ≡ b.card)
MadeBy (given k r) b a = MadeWithoutCard (given k r) b.processor a.processor × (a.card ≡ b.card)

abbrev pub Made : Entry → Type 0
Made e = MadeBy e.event e.before e.after
