use Rattle.std.proofs.Common.{Some, None}
use Rattle.image.proofs.Closed.{closed_found}
use Rattle.image.proofs.Laying.{segment_here, open_more, first_closed_at}
use Rattle.image.proofs.image.Image.first_closed.Goals as goal

pub returns-in-Some : goal.returns-in-Some
returns-in-Some g c =
    let here = segment_here c.args.self.now c.loop-n.n c.segment_at.result c.segment_at.ensures in
    first_closed_at here _ _ c.loop-n.invariant (closed_found _ _ _ (Some c.in-Some.address) c.in-Some.ensures)

pub loop-n-preserved : goal.loop-n-preserved
loop-n-preserved g c =
    let here = segment_here c.args.self.now c.loop-n.n c.segment_at.result c.segment_at.ensures in
    open_more here _ c.loop-n.invariant (closed_found _ _ _ None c.in_default.ensures)
