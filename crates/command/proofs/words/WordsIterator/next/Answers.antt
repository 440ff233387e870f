use Rattle.std.proofs.Common.{◌≡◌, ◌-◌, ◌<◌, arith, length, take, drop, sym, ap, ◌∙◌, rules, tests}
use Rattle.std.specs.List.{position}
use Rattle.std.specs.Option.{unwrap_or}
use Rattle.std.proofs.lemmas.Iterator.{YieldsList-from_slice}
use Rattle.std.proofs.lemmas.Iterator.Search.{position_from_yields_List}
use Rattle.std.proofs.lemmas.List.{take_rest}
use Rattle.command.specs.Words.{blank, words_of}
use Rattle.command.proofs.Positions.{not_blank, not_found, no_words, cut_at}
use Rattle.command.proofs.words.WordsIterator.next.Goals as goal

pub returns-in_err-start-clause-steps : goal.returns-in_err-start-clause-steps
returns-in_err-start-clause-steps c =
    let xs = c.self.inside.left.now in
    let at : c.position.result ≡ position not_blank xs = position_from_yields_List not_blank _ _ c.position.result c.position.ensures.ran (YieldsList-from_slice xs (cc)) (λ x b q k. search (rules, tests)) in
    let none = sym c.self.view_is ∙ no_words xs (not_found not_blank xs (sym at ∙ c.in_err-start.was)) in
    rw c.from_residual.ensures (none, none)

pub returns-clause-steps : goal.returns-clause-steps
returns-clause-steps c =
    let xs = c.self.inside.left.now in
    let start = c.in_ok-start.start in
    let at : c.position.result ≡ position not_blank xs = position_from_yields_List not_blank _ _ c.position.result c.position.ensures.ran (YieldsList-from_slice xs (cc)) (λ x b q k. search (rules, tests)) in
    let text = take (length xs - start) (drop start xs) in
    let until : c.position-2.result ≡ position blank text = position_from_yields_List blank _ _ c.position-2.result c.position-2.ensures.ran (YieldsList-from_slice text (cc)) (λ x b q k. search (rules, tests)) in
    sym c.self.view_is
    ∙ cut_at xs text start c.unwrap_or-end.result _ _ (sym at ∙ c.in_ok-start.was) (take_rest xs start)
    (c.unwrap_or-end.ensures ∙ ap (λ o. unwrap_or o (length text)) until) c.split_at.ensures.front c.split_at.ensures.back

pub returns-clause-goes : goal.returns-clause-goes
returns-clause-goes c =
    let fewer : length (words_of c.split_at.result.1.now) < length c.args.self.now = omega (arith, ap length (returns-clause-steps c)) in
    record { on = λ _. (tt, tt, fewer); keeps = tt; rests = λ _. tt }
