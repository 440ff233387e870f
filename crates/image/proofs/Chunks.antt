-- Chunks of a list, and numbers read from a part of it.
use Rattle.std.proofs.Common.{◌≡◌, ℕ, zero, suc, ◌+◌, ◌*◌, ◌<◌, ◌≤◌, List, ◌∷◌, take, drop, get_or, slice_index, refl, ap, ◌∙◌, arith, mul-zero, mul-suc}
use Rattle.std.proofs.Math.Seq.{drop-drop}
use Rattle.std.proofs.lemmas.List.{get_or-take, get_or-drop}
use Rattle.std.specs.Simd.{first_chunks}
use Rattle.image.specs.Directory.{number}

-- The first j of k chunks.
pub take-first_chunks : {X : Type 0} (n j k : ℕ) (xs : List X) → j ≤ k → take j (first_chunks n k xs) ≡ first_chunks n j xs
take-first_chunks n zero k xs h = refl
take-first_chunks n (suc j) zero xs h = absurd (omega arith)
take-first_chunks n (suc j) (suc k) xs h = ap (λ r. take n xs ∷ r) (take-first_chunks n j k (drop n xs) (omega arith))

-- Chunk i is the part of n elements from n * i on.
pub chunk_at : {X : Type 0} (n k : ℕ) (xs : List X) (i : ℕ) (d : List X) → i < k
    → get_or (first_chunks n k xs) i d ≡ take n (drop (n * i) xs)
chunk_at n zero xs i d h = absurd (omega arith)
chunk_at n (suc k) xs zero d h = rw mul-zero
chunk_at n (suc k) xs (suc i) d h =
    chunk_at n k (drop n xs) i d (omega arith) ∙ ap (take n) (drop-drop (n * i) n xs ∙ ap (λ j. drop j xs) (omega (arith, mul-suc n i)))

-- What `from_be_bytes` answers of four bytes.
pub number_of_four : (x : List ℕ)
    → slice_index x 0 * 16777216 + slice_index x 1 * 65536 + slice_index x 2 * 256 + slice_index x 3 ≡ number x 0
unfolding number
number_of_four x = refl

-- A number read from a part of the bytes.
pub number_in : (bs : List ℕ) (o k p : ℕ) → p + 4 ≤ k → number (take k (drop o bs)) p ≡ number bs (o + p)
unfolding number
number_in bs o k p h = grind (arith, get_or-take, get_or-drop)

-- Word k of a segment, read from its chunk of four bytes.
pub word_read : (part : List ℕ) (n k : ℕ) (x : List ℕ) → k < n
    → number (get_or (first_chunks 4 n part) k x) 0 ≡ number part (4 * k)
word_read part n k x l =
    ap (λ b. number b 0) (chunk_at 4 n part k x l)
    ∙ number_in part (4 * k) 4 0 (omega arith)
    ∙ ap (number part) (omega arith)
