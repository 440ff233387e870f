-- What `position` finds in a text, and the words on both sides of that.
use Rattle.std.proofs.Common.{◌≡◌, ℕ, suc, ◌+◌, ◌<◌, ◌≤◌, Bool, true, false, not, cond, ◌==◌, List, [], ◌∷◌, ◌++◌, length, take, drop, Option, Some, None, sym, refl, ap, ◌∙◌, append_assoc, append-nil, ⊎_elim, arith}
use Rattle.std.specs.List.{position, position_or_len}
use Rattle.std.specs.Option.{unwrap_or}
use Rattle.std.proofs.lemmas.Bool.{cases_Bool, cond-true, cond-false}
use Rattle.std.proofs.lemmas.Bool.Decides.{nat_tests}
use Rattle.std.proofs.lemmas.List.{at_drop_all}
use Rattle.std.proofs.lemmas.List.Quantifiers.{position-Some}
use Rattle.std.proofs.lemmas.List.Sums.{prefix_len-le-length, position_or_len_is}
use Rattle.memchr.specs.Find.{IsFirstByte, is_byte}
use Rattle.command.specs.Words.{blank, ended, words_after, words_of}

not_true : {b : Bool} → ¬ (b ≡ true) → b ≡ false
not_true {b = true} h = absurd (h refl)
not_true {b = false} h = refl

module _ {X : Type 0} (p : X → Bool) (xs : List X) where
  pub found : (i : ℕ) → position p xs ≡ Some i → i ≡ position_or_len p xs
  found i e = grind (arith, nat_tests)

  pub not_found : position p xs ≡ None → length xs ≤ position_or_len p xs
  not_found e = grind (arith, nat_tests)

  pub or_length : unwrap_or (position p xs) (length xs) ≡ position_or_len p xs
  or_length = grind (arith, nat_tests, prefix_len-le-length (λ x. not (p x)) xs)

-- the answer of a search for a byte
pub first_byte : (a : ℕ) (xs : List ℕ) (r : Option ℕ) → IsFirstByte (is_byte a) xs r
    → unwrap_or r (length xs) ≡ position_or_len (λ b. b == a) xs
first_byte a xs None none =
    sym (position_or_len_is _ xs (length xs) 0 (omega arith) (λ k low. not_true (none k (omega arith) low)) (λ h. absurd (omega arith)))
first_byte a xs (Some k) told =
    sym (position_or_len_is _ xs k 0 (omega (arith, told.0.high)) (λ j low. not_true (told.0.before j (omega arith) low)) (λ h. told.1))

abbrev pub not_blank : ℕ → Bool
not_blank b = not (blank b)

module _ (b : ℕ) (bs : List ℕ) where
  not_blank_here : blank b ≡ false → position_or_len not_blank (b ∷ bs) ≡ 0
  not_blank_here e = ap (λ t. cond (not (not t)) (1 + position_or_len not_blank bs) 0) e

  not_blank_later : blank b ≡ true → position_or_len not_blank (b ∷ bs) ≡ suc (position_or_len not_blank bs)
  not_blank_later e = ap (λ t. cond (not (not t)) (1 + position_or_len not_blank bs) 0) e ∙ omega arith

  blank_here : blank b ≡ true → position_or_len blank (b ∷ bs) ≡ 0
  blank_here e = ap (λ t. cond (not t) (1 + position_or_len blank bs) 0) e

  blank_later : blank b ≡ false → position_or_len blank (b ∷ bs) ≡ suc (position_or_len blank bs)
  blank_later e = ap (λ t. cond (not t) (1 + position_or_len blank bs) 0) e ∙ omega arith

skip_blanks : (bs : List ℕ) → words_of (drop (position_or_len not_blank bs) bs) ≡ words_of bs
skip_blanks [] = refl
skip_blanks (b ∷ bs) =
    ⊎_elim
    (λ (e : blank b ≡ true).
    ap (λ n. words_of (drop n (b ∷ bs))) (not_blank_later b bs e) ∙ skip_blanks bs ∙ sym (cond-true _ _ _ e))
    (λ (e : blank b ≡ false). ap (λ n. words_of (drop n (b ∷ bs))) (not_blank_here b bs e))
    (cases_Bool (blank b))

pub no_words : (bs : List ℕ) → length bs ≤ position_or_len not_blank bs → words_of bs ≡ []
no_words bs h = sym (skip_blanks bs) ∙ at_drop_all words_of bs _ h

-- the bytes before the first blank end the word that w begins
first_word : (w bs : List ℕ) → words_after w bs
    ≡ ended (w ++ take (position_or_len blank bs) bs) (words_of (drop (position_or_len blank bs) bs))
first_word w [] = ap (λ w. ended w []) (sym (append-nil w))
first_word w (b ∷ bs) =
    let cut : ℕ → List (List ℕ) = λ n. ended (w ++ take n (b ∷ bs)) (words_of (drop n (b ∷ bs))) in
    ⊎_elim
    (λ (e : blank b ≡ true).
    cond-true _ _ _ e ∙ ap (λ v. ended v (words_of bs)) (sym (append-nil w))
    ∙ ap (ended (w ++ [])) (sym (cond-true _ _ _ e)) ∙ ap cut (sym (blank_here b bs e)))
    (λ (e : blank b ≡ false).
    cond-false _ _ _ e ∙ first_word (w ++ b ∷ []) bs
    ∙ ap (λ v. ended v (words_of (drop (position_or_len blank bs) bs)))
    (append_assoc w (b ∷ []) (take (position_or_len blank bs) bs)) ∙ ap cut (sym (blank_later b bs e)))
    (cases_Bool (blank b))

-- a text that begins with a word, in two at the end of that
abbrev pub cut : List ℕ → List (List ℕ)
cut bs = take (position_or_len blank bs) bs ∷ words_of (drop (position_or_len blank bs) bs)

pub next_word : (bs : List ℕ) → position_or_len not_blank bs < length bs → words_of bs ≡ cut (drop (position_or_len not_blank bs) bs)
next_word [] h = absurd (omega arith)
next_word (b ∷ bs) h =
    ⊎_elim
    (λ (e : blank b ≡ true).
    cond-true _ _ _ e ∙ next_word bs (omega (arith, not_blank_later b bs e))
    ∙ ap (λ n. cut (drop n (b ∷ bs))) (sym (not_blank_later b bs e)))
    (λ (e : blank b ≡ false).
    first_word [] (b ∷ bs)
    ∙ ap (λ n. ended (take n (b ∷ bs)) (words_of (drop n (b ∷ bs)))) (blank_later b bs e)
    ∙ ap (λ n. take n (b ∷ bs) ∷ words_of (drop n (b ∷ bs))) (sym (blank_later b bs e))
    ∙ ap (λ n. cut (drop n (b ∷ bs))) (sym (not_blank_here b bs e)))
    (cases_Bool (blank b))

-- one step of the iterator
pub cut_at : (xs text : List ℕ) (start end : ℕ) (word left : List ℕ) → position not_blank xs ≡ Some start → text ≡ drop start xs
    → end ≡ unwrap_or (position blank text) (length text) → word ≡ take end text → left ≡ drop end text
    → words_of xs ≡ word ∷ words_of left
cut_at xs text start end word left at rest until front back =
    let first = found not_blank xs start at in
    next_word xs (omega (arith, (position-Some not_blank xs start 0 at).0)) ∙ ap (λ n. cut (drop n xs)) (sym first) ∙ ap cut (sym rest)
    ∙ ap (λ n. take n text ∷ words_of (drop n text)) (sym (until ∙ or_length blank text))
    ∙ (λ i. sym front i ∷ words_of (sym back i))
