use Rattle.command.proofs.Bases.{SoFar}
use Rattle.command.proofs.number.in_base.Given as goal

abbrev pub invariant-loop-b : goal.invariant-loop-b
invariant-loop-b l = SoFar l.radix l.word l.b-index l.n
