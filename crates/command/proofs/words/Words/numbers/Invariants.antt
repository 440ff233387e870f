-- The words that are left decide alike whether all are numbers.
use Rattle.std.proofs.Common.{◌≡◌, ◌+◌, length}
use Rattle.std.specs.Result.{result_err}
use Rattle.command.specs.Numbers.{numbers_of}
use Rattle.command.proofs.words.Words.numbers.Given as goal

abbrev pub invariant-loop-word : goal.invariant-loop-word
invariant-loop-word l =
    (l.words ≡ l.fn.self) × (result_err (numbers_of l.fn.self) ≡ result_err (numbers_of l.self))
    × (l.count + length l.self ≡ length l.fn.self)

abbrev pub decreases-loop-word : goal.decreases-loop-word
decreases-loop-word l = length l.self
