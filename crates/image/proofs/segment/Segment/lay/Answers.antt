use Rattle.std.proofs.Common.{◌≡◌, ◌<◌, ◌∙◌, get_or, [], ap, arith}
use Rattle.image.specs.Directory.{number}
use Rattle.image.specs.Words.{words_in, word_in}
use Rattle.image.proofs.Chunks.{number_of_four, word_read}
use Rattle.image.proofs.Laying.{laid_step}
use Rattle.image.proofs.segment.Segment.lay.Goals as goal

pub loop-k-preserved : goal.loop-k-preserved
loop-k-preserved g c =
    let part = c.args.self.now.words.now in
    let k = c.loop-k.k in
    let within : k < words_in part = omega (arith, c.loop-k-test.true, c.as_chunks.ensures.front_len) in
    let word : c.from_be_bytes.result ≡ word_in part k =
    c.from_be_bytes.ensures
    ∙ number_of_four (get_or c.as_chunks.result.0.now k [])
    ∙ ap (λ chunks. number (get_or chunks k []) 0) c.as_chunks.ensures.front
    ∙ word_read part (words_in part) k [] within in
    let opened = c.requires.open _ (omega arith) (omega (arith, within)) in
    record {
      laid = laid_step c.args.self.now.offset part k c.from_be_bytes.result _ _ _ _ opened c.loop-k.invariant.laid word
          c.place.ensures.placed;
      frame = c.place.ensures.frame ∙ c.loop-k.invariant.frame;
    }
