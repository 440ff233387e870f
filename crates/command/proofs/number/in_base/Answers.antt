use Rattle.std.proofs.Common.{◌*◌, ◌+◌, ◌<◌, ◌∙◌, ap, subst}
use Rattle.command.proofs.Bases.{capped, one_more}
use Rattle.command.proofs.number.in_base.Goals as goal

pub loop-b-preserved : goal.loop-b-preserved
loop-b-preserved c =
    let digit = c.digit-digit.ensures in
    let below = subst (λ d. d < c.args.radix) digit c.if-digit-radix.false in
    let sum =
    c.min-n.ensures ∙ ap (λ r. capped (c.loop-b.n * r + c.from-in-loop-b.result)) c.from.ensures
    ∙ ap (λ d. capped (c.loop-b.n * c.args.radix + d)) c.from-in-loop-b.ensures in
    one_more c.loop-b.invariant _ _ c.loop-b-test.true c.requires.0 below digit sum
