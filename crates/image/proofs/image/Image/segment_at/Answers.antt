use Rattle.std.proofs.Common.{rules}
use Rattle.image.specs.Check.{bytes_of}
use Rattle.image.proofs.Pairs.{part_within}
use Rattle.image.proofs.image.Image.segment_at.Goals as goal

pub overflow_add-end : goal.overflow_add-end
overflow_add-end c =
    let part = part_within (bytes_of c.args.self.now) c.args.self.now.right c.args.n c.requires in search rules

pub slice_bounds-result-end : goal.slice_bounds-result-end
slice_bounds-result-end c =
    let part = part_within (bytes_of c.args.self.now) c.args.self.now.right c.args.n c.requires in search rules
