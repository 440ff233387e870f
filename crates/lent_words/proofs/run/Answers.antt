use Rattle.std.proofs.Common.{ℕ, refl, ◌∙◌, ◌-◌, ◌+◌, ◌≡◌, sym, subst, arith}
use Rattle.card.specs.declared.transfer.Request.{Request}
use Rattle.clocked.specs.Runs.{Config}
use Rattle.lent_words.specs.Lending.{ClocksTo, none, accepted, refused}
use Rattle.lent_words.proofs.Steadying.{chosen_as, of_accepted}
use Rattle.lent_words.proofs.run.Goals as goal

-- The same number of clocks.
as_many : (f : Request → ℕ) (m n : ℕ) (a c : Config) → m ≡ n → ClocksTo f m a c → ClocksTo f n a c
as_many f m n a c e h = subst (λ k. ClocksTo f k a c) e h

pub clocks-init : goal.clocks-init
clocks-init g c = record { ran = λ d h. as_many _ _ _ _ d (omega arith) h; frame = refl }

pub clocks-preserved : goal.clocks-preserved
clocks-preserved g c =
    let taken = sym c.is_err.ensures.value ∙ c.if-is_err.false in
    let chosen = chosen_as _ _ (c.requires.waits _ c.clocks.invariant.frame) _ _ _ (of_accepted _ _ taken c.clock.ensures.chosen) in
    record {
      ran = λ d h. c.clocks.invariant.ran d
          (as_many _ _ _ _ d (omega arith) (accepted _ _ _ d c.clock.result taken c.clock.ensures.made chosen h));
      frame = c.clock.ensures.frame ∙ c.clocks.invariant.frame;
    }

pub returns-then-is_err-clause-ran : goal.returns-then-is_err-clause-ran
returns-then-is_err-clause-ran g c =
    let left = c.args.clocks - c.clocks.counter in
    let stopped = sym c.is_err.ensures.value ∙ c.if-is_err.true in
    c.clocks.invariant.ran _
    (as_many _ (left - 1 + 1) _ _ _ (omega arith) (refused _ _ _ c.clock.result stopped c.clock.ensures.made))

pub returns-clause-ran : goal.returns-clause-ran
returns-clause-ran g c = c.clocks.invariant.ran _ (as_many _ 0 _ _ _ (omega arith) (none _))
