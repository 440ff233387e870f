use Rattle.std.proofs.Common.{◌≡◌}
use Rattle.image.specs.Check.{bytes_of}
use Rattle.image.specs.Placing.{Laid}
use Rattle.image.proofs.image.Image.lay.Given as goal

abbrev pub invariant-loop-n : goal.invariant-loop-n
invariant-loop-n g l = record {
  laid : Laid (bytes_of l.self) l.n (g.C.Cells.meaning l.initial.card) (g.C.Cells.meaning l.card);
  frame : g.C.Cells.frame l.card ≡ g.C.Cells.frame l.initial.card;
}
