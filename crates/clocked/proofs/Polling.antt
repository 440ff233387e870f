-- A poll: it waits, or it ends the transfer.
use Rattle.std.proofs.Common.{◌≡◌, ℕ, zero, suc, ◌+◌, Some, None, Option, refl, ap, ◌∙◌, subst, arith}
use Rattle.card.specs.declared.transfer.Request.{Request}
use Rattle.card.specs.declared.transfer.Transfer.{Transfer}
use Rattle.card.specs.Meaning.{Meaning, waiting, finished}
use Rattle.machine.specs.declared.fault.Stage.{Stage}
use Rattle.clocked.specs.declared.processor.Processor.{Processor}
use Rattle.clocked.specs.declared.tick.Answer.{Answer}
use Rattle.clocked.specs.declared.tick.Answer.TheVariants.{Waiting}
use Rattle.clocked.specs.Calls.{Ends, Polls, PollsFrom, waits_left}
use Rattle.clocked.specs.Comparison.{begun}
use Rattle.clocked.specs.Table.{Move}
use Rattle.clocked.proofs.Invariant.{Requests, end_in}

-- A transfer in being means that none was begun.
pub begun_busy : (t u : Option Transfer) (b : Request) → Requests t b → begun t u ≡ 0
begun_busy None u b h = elim h [ ]
begun_busy (Some t) u b h = refl

module _ (n w r z : ℕ) (b : Request) (take : ℕ → Move) (s : Stage) (a : ℕ) (p : Processor) (c : Meaning) (t : Answer) (q : Processor) (d : Meaning) where
  -- With so many waits left.
  pub data PollGives : ℕ → Type 0 where
    waits : (v : ℕ) → t ≡ Waiting → q ≡ p → d ≡ waiting b v c → n + 1 + v + r ≡ z + w → PollGives (v + 1)
    ends : Ends (end_in b c.map) take s a p t q → d ≡ finished b c → n + r ≡ z + w → PollGives 0

  polled_at : (v : ℕ) (x : Request) → x ≡ b → n + v + r ≡ z + w → Polls v x take s a p c t q d → PollGives v
  polled_at zero x e count h =
      ends (subst (λ (y : Request). Ends (end_in y c.map) take s a p t q) e h.0) (h.1 ∙ ap (λ (y : Request). finished y c) e)
      (omega arith)
  polled_at (suc v) x e count h =
      subst PollGives (omega arith) (waits v h.0 h.1 (h.2 ∙ ap (λ (y : Request). waiting y v c) e) (omega arith))

  polled_from : (x : Option Transfer) → Requests x b → n + waits_left x + r ≡ z + w → PollsFrom x take s a p c t q d →
      PollGives (waits_left x)
  polled_from None e count h = elim e [ ]
  polled_from (Some x) e count h = polled_at x.waits x.request e count h

  pub polled : Requests c.transfer b → n + waits_left c.transfer + r ≡ z + w → PollsFrom c.transfer take s a p c t q d →
      PollGives (waits_left c.transfer)
  polled e count h = polled_from c.transfer e count h
