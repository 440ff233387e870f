use Rattle.std.proofs.Common.{rules}
use Rattle.image.specs.Check.{wrong_pair, wrong_total}
use Rattle.image.proofs.image.check.ImageTryFromRefSliceU8.try_from.Goals as goal

pub returns-then-not-pairs_right : goal.returns-then-not-pairs_right
returns-then-not-pairs_right c = let d = c.in_ok-directory.ensures in search (rules, wrong_pair)

pub returns-then-bytes-start : goal.returns-then-bytes-start
returns-then-bytes-start c = let d = c.in_ok-directory.ensures in search (rules, wrong_total)
