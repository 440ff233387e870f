use Rattle.std.proofs.Common.{rules}
use Rattle.image.specs.Directory.{number}
use Rattle.image.proofs.image.PairFromArrayU88.from.Goals as goal

pub returns : goal.returns
unfolding number
returns c = search rules
