-- The table's rule, at the byte.
use Rattle.std.proofs.Common.{◌∙◌, arith}
use Rattle.std.proofs.lemmas.List.FromFn.{get_or-map-range_with_len}
use Rattle.std.specs.Char.{digit_value}
use Rattle.command.proofs.number.digit.Goals as goal

pub returns : goal.returns
returns c =
    let same = c.from.ensures in
    c.from-2.ensures
    ∙ rw c.digit_values.ensures
    (get_or-map-range_with_len digit_value 0 256 c.from.result c.args.byte _ (omega (arith, same)) (omega (arith, same)))
