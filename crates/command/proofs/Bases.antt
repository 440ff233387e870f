-- A word of digits, read from the left into a number that stops at the first one past a `u32`.
use Rattle.std.proofs.Common.{◌≡◌, ℕ, ◌+◌, ◌*◌, ◌^◌, ◌<◌, ◌≤◌, min, ◌&&◌, List, length, get_or, take, drop, sym, refl, ap, ◌∙◌, ⊎_elim, le-mul_of_pos_right, arith}
use Rattle.std.specs.Str.Parse.{digits_value}
use Rattle.std.specs.Char.{digit_value}
use Rattle.std.proofs.lemmas.Int.Digits.{digits_value_more}
use Rattle.std.proofs.lemmas.List.{at_drop_more}
use Rattle.std.proofs.lemmas.Bool.{lt-ltb, cases_lt}
use Rattle.command.specs.Numbers.{all_digits}

abbrev pub capped : ℕ → ℕ
capped n = min n (2 ^ 32)

-- one more digit
digit_more : (v r d : ℕ) → 2 ≤ r → capped (capped v * r + d) ≡ capped (v * r + d)
digit_more v r d two =
    ⊎_elim
    (λ (h : v < 2 ^ 32). let e : capped v ≡ v = omega arith in rw e refl)
    (λ (h : 2 ^ 32 ≤ v).
    let e : capped v ≡ 2 ^ 32 = omega arith in
    rw e (omega (arith, le-mul_of_pos_right {m = r} v (omega arith))))
    (cases_lt v (2 ^ 32))

-- the first i bytes are digits, and n their number
pub record SoFar (r : ℕ) (xs : List ℕ) (i n : ℕ) : Type 0 where
  pub digits : all_digits r xs ≡ all_digits r (drop i xs)
  pub sum : n ≡ capped (digits_value r (take i xs))

module _ {r : ℕ} {xs : List ℕ} {i n : ℕ} (so : SoFar r xs i n) where
  pub one_more : (d m : ℕ) → i < length xs → 2 ≤ r → digit_value (get_or xs i 0) < r
      → d ≡ digit_value (get_or xs i 0) → m ≡ capped (n * r + d) → SoFar r xs (i + 1) m
  one_more d m h two low digit total =
      let v = digits_value r (take i xs) in
      let b = digit_value (get_or xs i 0) in
      record {
        digits =
            so.digits ∙ at_drop_more (all_digits r) xs i 0 h
            ∙ ap (λ t. t && all_digits r (drop (i + 1) xs)) (lt-ltb _ _ low);
        sum =
            total ∙ ap (λ k. capped (n * r + k)) digit ∙ ap (λ a. capped (a * r + b)) so.sum
            ∙ digit_more v r b two ∙ ap capped (sym (digits_value_more r xs i h));
      }
