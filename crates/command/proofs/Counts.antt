-- How many words a text has, and how many numbers.
use Rattle.std.proofs.Common.{◌≡◌, ℕ, suc, ◌+◌, ◌≤◌, true, false, List, [], ◌∷◌, ◌++◌, length, Ok, Err, Result, refl, ap, ⊎_elim, arith, rules}
use Rattle.std.specs.Result.{IsOk, result_unwrap_or}
use Rattle.std.proofs.lemmas.Bool.{cases_Bool, cond-true, cond-false}
use Rattle.command.specs.Numbers.{number_of, listed, numbers_of}
use Rattle.command.specs.Words.{blank, ended, words_after, words_of}
use Rattle.command.specs.declared.Wrong.{Wrong}

at_most_one_more : (w : List ℕ) (ws : List (List ℕ)) → length (ended w ws) ≤ suc (length ws)
at_most_one_more [] ws = omega arith
at_most_one_more (b ∷ w) ws = omega arith

ended_with : (w : List ℕ) (ws : List (List ℕ)) → length (ended w ws) ≡ length (ended w []) + length ws
ended_with [] ws = omega arith
ended_with (b ∷ w) ws = omega arith

words_within : (w bs : List ℕ) → length (words_after w bs) ≤ length (ended w []) + length bs
words_within w [] = omega arith
words_within w (b ∷ bs) =
    ⊎_elim
    (λ (e : blank b ≡ true).
    let is = cond-true (blank b) (ended w (words_after [] bs)) (words_after (w ++ b ∷ []) bs) e in
    omega (arith, ap length is, ended_with w (words_after [] bs), words_within [] bs))
    (λ (e : blank b ≡ false).
    let is = cond-false (blank b) (ended w (words_after [] bs)) (words_after (w ++ b ∷ []) bs) e in
    omega (arith, ap length is, words_within (w ++ b ∷ []) bs, at_most_one_more (w ++ b ∷ []) []))
    (cases_Bool (blank b))

pub few_words : (bs : List ℕ) → length (words_of bs) ≤ length bs
few_words bs = omega (arith, words_within [] bs)

listed_one_more : (n : Result ℕ Wrong) (r : Result (List ℕ) Wrong) → IsOk (listed n r)
    → IsOk r × (length (result_unwrap_or (listed n r) []) ≡ suc (length (result_unwrap_or r [])))
listed_one_more (Ok n) (Ok ns) ok = (refl, omega arith)
listed_one_more (Ok n) (Err e) ok = search rules
listed_one_more (Err e) r ok = search rules

pub numbers_count : (ws : List (List ℕ)) → IsOk (numbers_of ws) → length (result_unwrap_or (numbers_of ws) []) ≡ length ws
numbers_count [] ok = refl
numbers_count (w ∷ ws) ok =
    let more = listed_one_more (number_of w) (numbers_of ws) ok in omega (arith, more.1, numbers_count ws more.0)
