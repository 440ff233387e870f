use Rattle.image.specs.Check.{bytes_of}
use Rattle.image.specs.Placing.{AllOpen}
use Rattle.image.proofs.image.Image.first_closed.Given as goal

abbrev pub invariant-loop-n : goal.invariant-loop-n
invariant-loop-n g l = AllOpen (bytes_of l.self) l.n (g.C.Cells.meaning l.card).map
