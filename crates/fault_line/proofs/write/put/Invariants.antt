-- The texts so far stand over the front of the buffer.
use Rattle.std.proofs.Common.{◌≡◌, length, take}
use Rattle.fault_line.specs.Buffer.{Begins, joined}
use Rattle.fault_line.proofs.write.put.Given as goal

abbrev pub invariant-loop-part : goal.invariant-loop-part
invariant-loop-part l =
    (l.at ≡ length (joined (take l.part-index l.parts)))
    × Begins (joined (take l.part-index l.parts)) l.fn.line l.line
