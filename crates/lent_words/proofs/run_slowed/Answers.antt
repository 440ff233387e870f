use Rattle.std.proofs.Common.{rules, ◌∙◌, refl, ap}
use Rattle.std.specs.Borrow.{GName}
use Rattle.layer.specs.declared.kind.Kind.{Kind}
use Rattle.layer.specs.declared.kind.Kind.TheVariants.{Slow}
use Rattle.layer.specs.Waits.{waits_of}
use Rattle.machine.specs.Axes.{axis_of}
use Rattle.lent_words.proofs.Layers.{known_axis, ran_on_layer}
use Rattle.lent_words.proofs.Steadying.{slow_layers, rechosen}
use Rattle.lent_words.proofs.run_slowed.Goals as goal

pub returns-clause-ran : goal.returns-clause-ran
returns-clause-ran g c =
    let m = g.C.Cells.meaning c.args.card.now in
    let framed = ap (λ (y : Kind × (GName × g.C.Cells.Frame)). y.1.1) c.power_up.ensures.frame
    ∙ ap (λ (y : GName × g.C.Cells.Frame). y.1) c.new-slow.ensures.frame in
    let kind = ap (λ (y : Kind × (GName × g.C.Cells.Frame)). y.0) c.power_up.ensures.frame ∙ c.new-slow.ensures.kind in
    let known = ap axis_of c.from.ensures ∙ known_axis c.args.axis in
    let ran = rechosen _ (waits_of (Slow c.args.waits) m (g.C.Card.choice c.args.card.now))
    (λ q. slow_layers _ m _ (g.C.Card.choice c.args.card.now) (c.requires.waits _ framed) (c.requires.patience _ framed) q
    _ (Slow c.args.waits) c.args.waits kind refl) c.run.ensures.ran in
    ran_on_layer _ _ _ _ (Slow c.args.waits) m _ _ _ _ _ _ known c.new-slow.ensures.made
    (rw c.unwrap-processor.ensures at c.power_up.ensures.powered) ran (search rules)
