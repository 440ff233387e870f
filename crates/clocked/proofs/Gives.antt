-- What one accepted clock gives: the invariant after it, the comparison machine's answer, the count, no lock,
-- and that the clocks left fall.
use Rattle.std.proofs.Common.{◌≡◌, ℕ, ◌+◌, ◌≤◌, false, sym, subst}
use Rattle.card.specs.Meaning.{Meaning}
use Rattle.machine.specs.State.{State}
use Rattle.clocked.specs.declared.control.Control.{Control}
use Rattle.clocked.specs.declared.processor.Processor.{Processor}
use Rattle.clocked.specs.declared.tick.Answer.{Answer}
use Rattle.clocked.specs.declared.tick.Answer.TheVariants.{On, Waiting, Ended}
use Rattle.clocked.specs.Calls.{waits_left}
use Rattle.clocked.specs.Comparison.{compared_by, since_by, begun}
use Rattle.clocked.specs.Entries.{Answers, Took}
use Rattle.clocked.specs.Runs.{outcome_by}
use Rattle.clocked.proofs.Invariant.{Inv, clocks_left, μ}

abbrev pub FallsBy : Answer → ℕ → ℕ → Type 0
FallsBy On x y = y + 1 ≤ x
FallsBy Waiting x y = y + 1 ≤ x
FallsBy (Ended o) x y = Unit {0}

-- From the control state k on the card c.
pub record Gives (A : State) (n w : ℕ) (k : Control) (c : Meaning) (t : Answer) (q : Processor) (d : Meaning) : Type 0 where
  pub inv : Inv (compared_by t A) (since_by t 1 n) (since_by t (begun c.transfer d.transfer) w) q d
  pub answers : Answers (outcome_by t) A
  pub took : Took (outcome_by t) A n (w + begun c.transfer d.transfer)
  pub unlocked : q.locked ≡ false
  pub falls : FallsBy t (clocks_left k (waits_left c.transfer) c.patience) (μ q d)

-- To give it for an answer, a processor and a card that equal these.
module _ (A : State) (n w : ℕ) (k : Control) (c : Meaning) (t u : Answer) (q r : Processor) (d e : Meaning) where
  pub given_as : t ≡ u → q ≡ r → d ≡ e → Gives A n w k c u r e → Gives A n w k c t q d
  given_as tu qr de g =
      subst (λ (x : Answer). Gives A n w k c x q d) (sym tu)
      (subst (λ (x : Processor). Gives A n w k c u x d) (sym qr)
      (subst (λ (x : Meaning). Gives A n w k c u r x) (sym de) g))
