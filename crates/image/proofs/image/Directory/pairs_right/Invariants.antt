use Rattle.std.proofs.Common.{◌≡◌}
use Rattle.image.specs.Directory.{floor_of, RightPairs}
use Rattle.image.proofs.image.Directory.pairs_right.Given as goal

abbrev pub invariant-loop-bytes : goal.invariant-loop-bytes
invariant-loop-bytes l =
    (l.floor ≡ floor_of l.self.bytes.now l.bytes-index) × RightPairs l.self.bytes.now l.bytes-index
