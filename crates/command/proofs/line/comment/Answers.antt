use Rattle.std.proofs.Common.{◌≡◌, ◌==◌, length, ap, ◌∙◌, rules, tests}
use Rattle.std.specs.List.{position}
use Rattle.std.specs.Option.{unwrap_or}
use Rattle.std.proofs.lemmas.Iterator.{YieldsList-from_slice}
use Rattle.std.proofs.lemmas.Iterator.Search.{position_from_yields_List}
use Rattle.command.proofs.Positions.{or_length, first_byte}
use Rattle.command.proofs.line.comment.Goals as goal

pub returns-then-line-lt32 : goal.returns-then-line-lt32
returns-then-line-lt32 c =
    let xs = c.args.line.now in
    let at : c.position.result ≡ position (λ b. b == 35) xs = position_from_yields_List (λ b. b == 35) _ _ c.position.result c.position.ensures.ran (YieldsList-from_slice xs (cc)) (λ x b q k. search (rules, tests)) in
    ap (λ o. unwrap_or o (length xs)) at ∙ or_length (λ b. b == 35) xs

pub returns : goal.returns
returns c = first_byte 35 c.args.line.now c.memchr.result c.memchr.ensures
