use Rattle.std.proofs.Common.{◌≡◌, ◌*◌, ◌^◌, ◌≤◌}
use Rattle.image.specs.Directory.{words_before}
use Rattle.image.proofs.image.Directory.words_before.Given as goal

abbrev pub invariant-loop-bytes : goal.invariant-loop-bytes
invariant-loop-bytes l =
    (l.words ≡ words_before l.self.bytes.now l.bytes-index) × (l.words ≤ 2 ^ 32 * l.bytes-index)
