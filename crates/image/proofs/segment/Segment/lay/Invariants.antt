use Rattle.std.proofs.Common.{◌≡◌}
use Rattle.card.specs.Meaning.{mapped}
use Rattle.image.specs.Words.{laid}
use Rattle.image.proofs.segment.Segment.lay.Given as goal

abbrev pub invariant-loop-k : goal.invariant-loop-k
invariant-loop-k g l =
    let before = g.C.Cells.meaning l.initial.card in record {
      laid : g.C.Cells.meaning l.card ≡ mapped (laid l.self.offset l.self.words.now l.k before.map) before;
      frame : g.C.Cells.frame l.card ≡ g.C.Cells.frame l.initial.card;
    }
