use Rattle.std.proofs.Common.{rules}
use Rattle.image.proofs.Pairs.{pair_offset, pair_length}
use Rattle.image.proofs.image.Directory.pair.Goals as goal

pub returns-clause-offset : goal.returns-clause-offset
returns-clause-offset c = search (rules, pair_offset)

pub returns-clause-length : goal.returns-clause-length
returns-clause-length c = search (rules, pair_length)
