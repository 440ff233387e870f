-- Laws of the digits of a number.
-- Assumes nothing.
use Rattle.std.proofs.Common.{◌≡◌, ℕ, zero, suc, ◌+◌, ◌-◌, ◌*◌, ◌/◌, ◌%◌, ◌^◌, ◌<◌, ◌≤◌, cond, ltb, List, [], ◌∷◌, ◌++◌, length, get_or, drop, set, codes, sym, refl, ap, ◌∙◌, subst, pow-suc, zero-add, add-one, sub-one, arith, rules}
use native.Mathlib.Nat.{pow-zero, pow-le-pow_right}
use Rattle.std.specs.List.{AllByRecursion as All}
use Rattle.std.proofs.lemmas.List.{append_assoc, drop-set, get_or-map, length_push, same_from_push}
use Rattle.std.proofs.lemmas.Nat.{div-add-mod', div_below, div-mul-add, mod-mul-add, mod_below, mul-add-lt}
use Rattle.std.proofs.lemmas.List.FromFn.{get_or-range_with_len}
use Rattle.std.proofs.ByRecursion.{All-push, All-get_or}
use Rattle.fault_line.specs.declared.numeral.Base.{Base}
use Rattle.fault_line.specs.declared.numeral.Base.TheVariants.{Decimal, Hexadecimal}
use Rattle.fault_line.specs.Numeral.{digit, digits, radix}

-- of the two bases
pub radix_bounds : (base : Base) → (2 ≤ radix base) × (radix base ≤ 16)
radix_bounds Decimal = (omega arith, omega arith)
radix_bounds Hexadecimal = (omega arith, omega arith)

digits_last : (b k n : ℕ) → 0 < k → digits b k n ≡ digits b (k - 1) (n / b) ++ (digit (n % b) ∷ [])
unfolding digits
digits_last b zero n h = absurd (omega arith)
digits_last b (suc k) n h = rw sub-one

pub length_digits : (b k n : ℕ) → length (digits b k n) ≡ k
unfolding digits
length_digits b zero n = refl
length_digits b (suc k) n =
    length_push (digits b k (n / b)) (digit (n % b)) ∙ rw (length_digits b k (n / b), add-one)

-- one more digit written, before those that stand there
pub one_written : (b k n : ℕ) (text : List ℕ) → 0 < k → k ≤ length text
    → digits b k n ++ drop k text ≡ digits b (k - 1) (n / b) ++ drop (k - 1) (set text (k - 1) (digit (n % b)))
one_written b k n text h l =
    let i : k - 1 < length text = omega arith in
    let e : k - 1 + 1 ≡ k = omega arith in
    rw (digits_last b k n h, append_assoc, drop-set text (k - 1) (digit (n % b)) i, e)

-- one more digit read, after those that were
pub one_read : (b k n d : ℕ) → d < b → digits b k n ++ (digit d ∷ []) ≡ digits b (k + 1) (n * b + d)
unfolding digits
one_read b k n d h = rw (add-one, div-mul-add n b d h, mod-mul-add n b d h)

pub below_more : (b k n d : ℕ) → d < b → n < b ^ k → n * b + d < b ^ (k + 1)
below_more b k n d h l = rw (add-one, pow-suc) (omega (arith, mul-add-lt n b d (b ^ k) l h))

-- a number that is being read stays below what all places together can hold
pub below_all : (b i k n d : ℕ) → i < k → d < b → n < b ^ i → n * b + d < b ^ k
below_all b i k n d p h l =
    let q : b ^ (i + 1) ≤ b ^ k = pow-le-pow_right (search rules) (omega arith) in
    omega (arith, below_more b i n d h l)

-- each character of a text of digits is a digit's
abbrev Digit : ℕ → ℕ → Type 0
Digit b c = (d : ℕ) × (d < b) × (c ≡ digit d)

all_digits : (b k n : ℕ) → 0 < b → All (Digit b) (digits b k n)
unfolding digits
all_digits b zero n h = tt
all_digits b (suc k) n h =
    All-push (Digit b) (digits b k (n / b)) (digit (n % b)) (all_digits b k (n / b) h) (n % b, mod_below n b h, refl)

pub no_digit : (b i n : ℕ) (text : List ℕ) → 0 < b → i < length text
    → ((d : ℕ) → d < b → get_or text i 0 ≡ digit d → ⊥) → text ≡ digits b (length text) n → ⊥
no_digit b i n text h l none e =
    let p = All-get_or (Digit b) text i 0 l (subst (All (Digit b)) (sym e) (all_digits b (length text) n h)) in
    none p.0 p.1 p.2

-- a digit, and so a number, can be told from its text
abbrev value : ℕ → ℕ
value c = cond (ltb c 58) (c - 48) (c - 87)

value_digit : (d : ℕ) → d < 16 → value (digit d) ≡ d
value_digit d h = sym (get_or-map value (codes "0123456789abcdef") d 0 0 h) ∙ get_or-range_with_len 0 16 d 0 h ∙ zero-add d

pub digit_tells : (c d : ℕ) → c < 16 → d < 16 → digit c ≡ digit d → c ≡ d
digit_tells c d h l e = sym (value_digit c h) ∙ ap value e ∙ value_digit d l

pub digits_tell : (b k m n : ℕ) → 2 ≤ b → b ≤ 16 → m < b ^ k → n < b ^ k → digits b k m ≡ digits b k n → m ≡ n
unfolding digits
digits_tell b zero m n p q im in' e = omega (arith, pow-zero b)
digits_tell b (suc k) m n p q im in' e =
    let s = same_from_push (digits b k (m / b)) (digits b k (n / b)) (digit (m % b)) (digit (n % b)) e in
    let below : (i : ℕ) → i < b ^ suc k → i / b < b ^ k =
    λ i h. div_below i b (b ^ k) (omega arith) (rw pow-suc at h) in
    let high : m / b ≡ n / b = digits_tell b k (m / b) (n / b) p q (below m im) (below n in') s.0 in
    let low : m % b ≡ n % b =
    digit_tells (m % b) (n % b) (omega (arith, mod_below m b)) (omega (arith, mod_below n b)) s.1 in
    sym (div-add-mod' m b) ∙ rw (high, low) (div-add-mod' n b)
