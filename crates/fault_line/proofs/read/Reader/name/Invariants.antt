-- No name so far stands next.
use Rattle.std.proofs.Common.{◌≡◌, ℕ, ◌<◌, List, [], ◌++◌, get_or}
use Rattle.fault_line.specs.Line.{texts}
use Rattle.fault_line.proofs.read.Reader.name.Given as goal

abbrev pub invariant-loop-i : goal.invariant-loop-i
invariant-loop-i l =
    (l.self.left.now ≡ l.initial.self.left.now)
    × ((k : ℕ) → k < l.i → (rest : List ℕ) → l.initial.self.left.now ≡ get_or (texts l.names) k [] ++ rest → ⊥)
