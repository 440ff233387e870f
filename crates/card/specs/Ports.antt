-- What the calls of a port answer and leave, by the transfer that it keeps.
-- A reader must believe: a begin is refused while a transfer is in being and a poll without one; a poll takes one wait off, and ends
-- a transfer that has none left.
use Rattle.std.specs.Prelude.{ℕ, zero, suc, Some, None, Ok, Err, Option, Result}
use Rattle.refusal.specs.declared.Refusal.{Refusal}
use Rattle.refusal.specs.declared.Refusal.TheVariants as refused
use Rattle.card.specs.declared.transfer.Request.{Request}
use Rattle.card.specs.declared.transfer.Transfer.{Transfer}

abbrev pub begin_answer : Option Transfer → ℕ → Result ℕ Refusal
begin_answer None w = Ok w
begin_answer (Some t) w = Err refused.Transfer

abbrev pub after_begin : Option Transfer → Request → ℕ → Option Transfer
after_begin None q w = Some (record { request = q; waits = w })
after_begin (Some t) q w = Some t

-- A transfer with one wait less, while it has one.
abbrev pub one_less : Request → ℕ → Option Transfer
one_less q zero = None
one_less q (suc w) = Some (record { request = q; waits = w })

abbrev pub after_wait : Transfer → Option Transfer
after_wait t = one_less t.request t.waits

-- The request of a transfer that ends at this poll.
abbrev pub ended : Request → ℕ → Option Request
ended q zero = Some q
ended q (suc w) = None

abbrev pub poll_answer : Option Transfer → Result (Option Request) Refusal
poll_answer None = Err refused.Transfer
poll_answer (Some t) = Ok (ended t.request t.waits)

abbrev pub after_poll : Option Transfer → Option Transfer
after_poll None = None
after_poll (Some t) = after_wait t
