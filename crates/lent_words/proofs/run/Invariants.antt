-- Whatever the clocks that are left lead to, all of them lead there from the start.
use Rattle.std.proofs.Common.{◌≡◌, ◌-◌}
use Rattle.clocked.specs.Runs.{Config, config}
use Rattle.lent_words.specs.Lending.{ClocksTo}
use Rattle.lent_words.proofs.run.Given as goal

abbrev pub invariant-clocks : goal.invariant-clocks
invariant-clocks g l = record {
  ran : (c : Config) → ClocksTo (g.C.Card.choice l.initial.card) (l.clocks - l.counter) (config l.processor (g.C.Cells.meaning l.card)) c
      → ClocksTo (g.C.Card.choice l.initial.card) l.clocks (config l.initial.processor (g.C.Cells.meaning l.initial.card)) c;
  frame : g.C.Cells.frame l.card ≡ g.C.Cells.frame l.initial.card;
}
