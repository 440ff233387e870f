use Rattle.std.proofs.Common.{rules}
use Rattle.image.specs.Directory.{number}
use Rattle.image.proofs.image.Directory.empty.Goals as goal

pub invariant_of-result : goal.invariant_of-result
unfolding number
invariant_of-result c = search rules
