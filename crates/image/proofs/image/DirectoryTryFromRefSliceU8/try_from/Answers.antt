use Rattle.std.proofs.Common.{◌≡◌, ◌≤◌, ◌/◌, ◌∙◌, length, take, drop, ap, arith}
use Rattle.std.specs.Simd.{first_chunks}
use Rattle.image.specs.Directory.{number, pair_count}
use Rattle.image.proofs.Chunks.{take-first_chunks}
use Rattle.image.proofs.image.DirectoryTryFromRefSliceU8.try_from.Goals as goal

pub invariant_of-result-clause-paired : goal.invariant_of-result-clause-paired
unfolding number
invariant_of-result-clause-paired c =
    let count : c.from_be_bytes-count.result ≡ pair_count c.args.bytes.now = grind arith in
    let rest : c.in_ok-count.rest.now ≡ drop 4 c.args.bytes.now = grind arith in
    let enough : c.from_be_bytes-count.result ≤ length c.in_ok-count.rest.now / 8 = grind arith in
    let cut : c.in_ok-pairs.pairs.now ≡ take c.from_be_bytes-count.result c.as_chunks.result.0.now = grind arith in
    let first : c.in_ok-pairs.pairs.now ≡ first_chunks 8 c.from_be_bytes-count.result c.in_ok-count.rest.now =
    cut
    ∙ ap (take c.from_be_bytes-count.result) c.as_chunks.ensures.front
    ∙ take-first_chunks 8 c.from_be_bytes-count.result (length c.in_ok-count.rest.now / 8) c.in_ok-count.rest.now enough in
    first ∙ ap (λ n. first_chunks 8 n c.in_ok-count.rest.now) count ∙ ap (first_chunks 8 (pair_count c.args.bytes.now)) rest
