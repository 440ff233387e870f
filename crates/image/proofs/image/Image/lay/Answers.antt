use Rattle.std.proofs.Common.{rules, ◌∙◌}
use Rattle.image.proofs.Laying.{segment_here, open_still, laid_more}
use Rattle.image.proofs.image.Image.lay.Goals as goal

pub lay-requires-clause-open : goal.lay-requires-clause-open
lay-requires-clause-open g c =
    let here = segment_here c.args.self.now c.loop-n.n c.segment_at.result c.segment_at.ensures in
    open_still here _ _ (search rules) c.loop-n.invariant.laid.0

pub loop-n-preserved : goal.loop-n-preserved
loop-n-preserved g c =
    let here = segment_here c.args.self.now c.loop-n.n c.segment_at.result c.segment_at.ensures in
    record {
      laid = laid_more here _ _ _ c.loop-n.invariant.laid c.lay.ensures.laid;
      frame = c.lay.ensures.frame ∙ c.loop-n.invariant.frame;
    }
