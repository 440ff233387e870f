-- The pairs of a directory, one after another.
use Rattle.std.proofs.Common.{◌≡◌, ℕ, zero, suc, ◌+◌, ◌*◌, ◌<◌, ◌≤◌, List, length, ap, inl, inr, add-one, arith, length-drop, length-take, take, drop, get_or, ◌∙◌}
use Rattle.std.proofs.Math.Seq.{drop-drop}
use Rattle.std.proofs.lemmas.Bool.{cases_lt}
use Rattle.image.specs.declared.image.Directory.{Directory}
use Rattle.image.specs.Directory.{number, pair_count, offset_of, length_of, end_of, floor_of, words_before, start_of, part_of}
use Rattle.image.specs.Directory.{RightPairs, Right}
use Rattle.image.specs.Words.{words_in}
use Rattle.image.proofs.Chunks.{chunk_at, number_in}

-- The numbers of pair n, read from its bytes.
module _ (d : Directory) (n : ℕ) (x : List ℕ) (l : n < pair_count d.bytes.now) where
  pair_at : get_or d.pairs.now n x ≡ take 8 (drop (4 + 8 * n) d.bytes.now)
  pair_at =
      ap (λ ps. get_or ps n x) d.paired
      ∙ chunk_at 8 (pair_count d.bytes.now) (drop 4 d.bytes.now) n x l
      ∙ ap (take 8) (drop-drop (8 * n) 4 d.bytes.now)

  pub pair_offset : number (get_or d.pairs.now n x) 0 ≡ offset_of d.bytes.now n
  pair_offset = ap (λ b. number b 0) pair_at ∙ number_in d.bytes.now (4 + 8 * n) 8 0 (omega arith) ∙ ap (number d.bytes.now) (omega arith)

  pub pair_length : number (get_or d.pairs.now n x) 4 ≡ length_of d.bytes.now n
  pair_length = ap (λ b. number b 4) pair_at ∙ number_in d.bytes.now (4 + 8 * n) 8 4 (omega arith) ∙ ap (number d.bytes.now) (omega arith)

pub words_more : (bs : List ℕ) (n : ℕ) → words_before bs (n + 1) ≡ words_before bs n + length_of bs n
words_more bs n = rw add-one

pub floor_more : (bs : List ℕ) (n : ℕ) → floor_of bs (n + 1) ≡ end_of bs n
floor_more bs n = rw add-one

pub words_grow : (bs : List ℕ) (m n : ℕ) → m < n → words_before bs m + length_of bs m ≤ words_before bs n
words_grow bs m zero h = omega arith
words_grow bs m (suc n) h =
    elim (cases_lt m n) [
      | inl l ↦ omega (arith, words_grow bs m n l)
      | inr g ↦ let e : m ≡ n = omega arith in omega (arith, ap (λ k. words_before bs k + length_of bs k) e)
    ]

-- Right pairs are sorted, and their segments lie apart.
pub apart : (bs : List ℕ) (count : ℕ) → RightPairs bs count
    → (m n : ℕ) → m < n → n < count → end_of bs m ≤ offset_of bs n
apart bs count right m zero h l = omega arith
apart bs count right m (suc n) h l =
    elim (cases_lt m n) [
      | inl k ↦ omega (arith, apart bs count right m n k (omega arith), right (suc n) l)
      | inr g ↦ let e : m ≡ n = omega arith in omega (arith, ap (end_of bs) e, right (suc n) l)
    ]

module _ (bs : List ℕ) (right : Right bs) (n : ℕ) (l : n < pair_count bs) where
  pub part_within : start_of bs n + 4 * length_of bs n ≤ length bs
  part_within = omega (arith, words_grow bs n (pair_count bs) l)

  pub part_words : words_in (part_of bs n) ≡ length_of bs n
  part_words = let h = part_within in simp (length-take, length-drop) (omega arith)
