-- What is left decides alike, unless a bad byte was passed.
use Rattle.std.proofs.Common.{◌≡◌, ◌||◌, drop}
use Rattle.command.specs.Words.{any_bad}
use Rattle.command.proofs.line.has_bad_byte.Given as goal

abbrev pub invariant-loop-b : goal.invariant-loop-b
invariant-loop-b l = any_bad l.text ≡ (l.bad || any_bad (drop l.b-index l.text))
