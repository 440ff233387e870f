use Rattle.std.proofs.Common.{◌≡◌, ℕ, List, ◌∷◌, Ok, Err, Some, Option, sym, ap, ◌∙◌, arith}
use Rattle.std.specs.Option.{ok_or}
use Rattle.std.specs.Result.{result_map_both}
use Rattle.std.proofs.lemmas.Result.{err_from_is_err_and}
use Rattle.command.specs.Keywords.{keyword_of}
use Rattle.command.specs.Lines.{operands_of, after, command_of}
use Rattle.command.specs.declared.keyword.Keyword.{Keyword}
use Rattle.command.specs.declared.Wrong.TheVariants.{UnknownCommand}
use Rattle.command.proofs.grammar.command.Goals as goal

found : (o : Option Keyword) (k : Keyword) → ok_or o UnknownCommand ≡ Ok k → o ≡ Some k
found o k e = grind arith

whole : (words rest : List (List ℕ)) (word : List ℕ) (k : Keyword) → words ≡ word ∷ rest → keyword_of word ≡ Some k
    → command_of words ≡ result_map_both Some (λ e. e) (operands_of k rest)
whole words rest word k first key = ap command_of first ∙ ap (λ o. after o rest) key

pub returns-in_err-complete : goal.returns-in_err-complete
returns-in_err-complete c =
    let p = err_from_is_err_and c.from_residual-in_err-complete.result c.from_residual-in_err-complete.ensures.1 in
    let key = found _ _ (sym c.try_from.ensures ∙ c.in_ok-keyword.was) in
    p.1 ∙ ap Err p.2 ∙ ap (result_map_both Some (λ e. e)) c.in_err-complete.ensures ∙ sym (whole _ _ _ _ c.in-Some.ensures.steps key)

pub returns : goal.returns
returns c =
    let key = found _ _ (sym c.try_from.ensures ∙ c.in_ok-keyword.was) in
    ap (result_map_both Some (λ e. e)) c.in_ok-complete.ensures ∙ sym (whole _ _ _ _ c.in-Some.ensures.steps key)
