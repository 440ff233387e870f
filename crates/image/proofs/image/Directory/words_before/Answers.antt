use Rattle.std.proofs.Common.{rules, arith, ◌<◌, []}
use Rattle.std.proofs.lemmas.List.{get_or-take}
use Rattle.image.proofs.Pairs.{pair_length, words_more}
use Rattle.image.proofs.image.Directory.words_before.Goals as goal

pub loop-bytes-preserved : goal.loop-bytes-preserved
loop-bytes-preserved c =
    let within : c.loop-bytes.bytes-index < c.args.n = search rules in
    let read = pair_length c.args.self.now c.loop-bytes.bytes-index [] (omega (arith, within, c.requires)) in
    let taken = get_or-take c.args.n c.args.self.now.pairs.now c.loop-bytes.bytes-index [] within in
    search (rules, words_more)
