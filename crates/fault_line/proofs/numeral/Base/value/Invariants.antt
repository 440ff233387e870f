-- The number so far has the digits that were read.
use Rattle.std.proofs.Common.{◌≡◌, ◌^◌, ◌<◌, take}
use Rattle.fault_line.specs.Numeral.{digits, radix}
use Rattle.fault_line.proofs.numeral.Base.value.Given as goal

abbrev pub invariant-loop-character : goal.invariant-loop-character
invariant-loop-character l =
    (l.n < radix l.self ^ l.character-index)
    × (take l.character-index l.text ≡ digits (radix l.self) l.character-index l.n)
