-- The card stays as it was where the loop began, but for the waits left, which fall with each turn.
use Rattle.std.proofs.Common.{◌≡◌}
use Rattle.machine.proofs.access.complete.Given as goal
use Rattle.machine.proofs.Waits.{Pending, waits_left}

abbrev pub invariant-loop-end : goal.invariant-loop-end
invariant-loop-end g l =
    Pending (g.C.Cells.meaning l.initial.card) (g.C.Cells.meaning l.card) × (g.C.Cells.frame l.card ≡ g.C.Cells.frame l.initial.card)

abbrev pub decreases-loop-end : goal.decreases-loop-end
decreases-loop-end g l = waits_left (g.C.Cells.meaning l.card).transfer
