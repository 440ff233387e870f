use Rattle.std.proofs.Common.{rules, refl, ap}
use Rattle.std.specs.Borrow.{GName}
use Rattle.card.specs.declared.transfer.Request.{Request}
use Rattle.card.specs.Meaning.{Meaning}
use Rattle.layer.specs.declared.kind.Kind.TheVariants.{Offset, Slow}
use Rattle.layer.specs.Shown.{layered}
use Rattle.layer.specs.Waits.{waits_of}
use Rattle.lent_words.specs.Lending.{under}
use Rattle.lent_words.proofs.Layers.{ran_below}
use Rattle.lent_words.proofs.Steadying.{slow_waits, offset_layers, reran}
use Rattle.lent_words.proofs.run_over.Goals as goal

pub returns-clause-ran : goal.returns-clause-ran
returns-clause-ran g c =
    let m = g.C.Cells.meaning c.args.card.now in
    let f = g.C.Card.choice c.args.card.now in
    let b = c.args.base in
    let below_m = g.C.Cells.meaning c.new-offset.result.below.now in
    let first = layered c.new-offset.result.kind below_m c.new-offset.result.port.transfer in
    let framed = ap (λ (y : GName × g.C.Cells.Frame). y.1) c.new-offset.ensures.frame in
    let below = λ (q : Request). offset_layers below_m m _ f (c.requires.waits _ framed) (c.requires.patience _ framed) q
    _ (Offset b) b c.new-offset.ensures.kind refl in
    let patience = ap (λ (x : Meaning). x.patience) c.new-offset.ensures.made in
    let ran = reran _ (waits_of (Slow c.args.waits) (under (Offset b) m) (waits_of (Offset b) m f))
    (λ q. slow_waits first (under (Offset b) m) _ (waits_of (Offset b) m f) below patience q c.args.waits) c.run_slowed.ensures.ran in
    ran_below _ _ _ _ _ m _ _ _ _ c.new-offset.ensures.made ran (search rules)
