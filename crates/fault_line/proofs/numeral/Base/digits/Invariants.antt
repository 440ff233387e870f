-- What is left has its digits before those that stand in the array already.
use Rattle.std.proofs.Common.{◌≡◌, ◌++◌, length, drop}
use Rattle.fault_line.specs.Numeral.{digits}
use Rattle.fault_line.proofs.numeral.Base.digits.Given as goal

abbrev pub invariant-loop-place : goal.invariant-loop-place
invariant-loop-place g l =
    (length l.text ≡ g.row.N)
    × (digits l.radix g.row.N l.fn.n ≡ digits l.radix l.place l.left ++ drop l.place l.text)
