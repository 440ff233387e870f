use Rattle.std.proofs.Common.{rules, below_more, arith, ◌<◌, []}
use Rattle.image.specs.Directory.{pair_count, RightPair}
use Rattle.image.proofs.Pairs.{pair_offset, pair_length, floor_more}
use Rattle.image.proofs.image.Directory.pairs_right.Goals as goal

pub returns-then-pair-eq0 : goal.returns-then-pair-eq0
returns-then-pair-eq0 c right =
    let within : c.loop-bytes.bytes-index < pair_count c.args.self.now.bytes.now =
    omega (arith, c.loop-bytes-test.true, c.args.self.now.counted) in
    let offset = pair_offset c.args.self.now c.loop-bytes.bytes-index [] within in
    let length = pair_length c.args.self.now c.loop-bytes.bytes-index [] within in
    let here = right c.loop-bytes.bytes-index within in
    search rules

pub loop-bytes-preserved : goal.loop-bytes-preserved
loop-bytes-preserved c =
    let within : c.loop-bytes.bytes-index < pair_count c.args.self.now.bytes.now =
    omega (arith, c.loop-bytes-test.true, c.args.self.now.counted) in
    let offset = pair_offset c.args.self.now c.loop-bytes.bytes-index [] within in
    let length = pair_length c.args.self.now c.loop-bytes.bytes-index [] within in
    (search (rules, floor_more), below_more (RightPair c.args.self.now.bytes.now) _ c.loop-bytes.invariant.1 (search rules))
