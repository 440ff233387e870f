-- Segments that are looked at, and laid, one after another.
use Rattle.std.proofs.Common.{◌≡◌, ℕ, ◌+◌, ◌^◌, ◌<◌, ◌≤◌, true, false, List, Some, Result, sym, ap, ◌∙◌, subst, inl, inr, arith, rules}
use Rattle.std.proofs.lemmas.Bool.{cases_lt}
use Rattle.std.proofs.lemmas.Grind.{common_steps}
use Rattle.std.proofs.lemmas.Bool.Decides.{nat_tests}
use Rattle.card.specs.declared.cell.Cell.TheVariants.{Open}
use Rattle.card.specs.Cells.{Map, cell_is_open}
use Rattle.card.specs.Meaning.{Meaning, mapped, Placed}
use Rattle.refusal.specs.declared.Refusal.{Refusal}
use Rattle.image.specs.declared.image.Image.{Image}
use Rattle.image.specs.declared.segment.Segment.{Segment}
use Rattle.image.specs.Directory.{pair_count, offset_of, length_of, end_of, part_of, Right}
use Rattle.image.specs.Words.{words_in, word_in, OpenFrom, laid}
use Rattle.image.specs.Check.{bytes_of}
use Rattle.image.specs.Segments.{Shown}
use Rattle.image.specs.Placing.{Holds, AllOpen, FirstClosed, Lays, Laid}
use Rattle.image.proofs.Pairs.{apart, part_words}

-- Segment n of a right image has the offset o and the bytes part.
pub record Here (bs : List ℕ) (n o : ℕ) (part : List ℕ) : Type 0 where
  pub right : Right bs
  pub within : n < pair_count bs
  pub begins : o ≡ offset_of bs n
  pub reads : part ≡ part_of bs n

pub segment_here : (i : Image) (n : ℕ) (s : Segment) → Shown (bytes_of i) n (Some s)
    → Here (bytes_of i) n s.offset s.words.now
segment_here i n s (l, e, p) = record { right = i.right; within = l; begins = e; reads = p }

laid_in : (o : ℕ) (part : List ℕ) (k : ℕ) (f : Map) (j : ℕ) → j < k → laid o part k f (o + j) ≡ Open (word_in part j)
laid_in o part k f j l = grind (arith, nat_tests)

laid_other : (o : ℕ) (part : List ℕ) (k : ℕ) (f : Map) (a : ℕ) → (o ≤ a → a < o + k → ⊥) → laid o part k f a ≡ f a
laid_other o part k f a out = grind (arith, nat_tests)

-- One more word of a segment at its place, which is open.
pub laid_step : (o : ℕ) (part : List ℕ) (k w : ℕ) (first before after : Meaning) (r : Result (Unit {0}) Refusal)
    → cell_is_open (first.map (o + k)) ≡ true → before ≡ mapped (laid o part k first.map) first → w ≡ word_in part k
    → Placed before (o + k) w r after → after ≡ mapped (laid o part (k + 1) first.map) first
laid_step o part k w first before after r opened so_far word placed = grind (arith, common_steps)

module _ {bs : List ℕ} {n o : ℕ} {part : List ℕ} (h : Here bs n o part) where
  ends : o + words_in part ≡ end_of bs n
  ends = omega (arith, ap words_in h.reads, part_words bs h.right n h.within, h.begins)

  pub below : o + words_in part ≤ 2 ^ 32
  below = omega (arith, ends, h.right.1 n h.within)

  earlier : (m : ℕ) → m < n → end_of bs m ≤ o
  earlier m i = omega (arith, apart bs (pair_count bs) h.right.1 m n i h.within, h.begins)

  -- No earlier segment has an address of this one.
  fresh : (a : ℕ) → o ≤ a → Holds bs n a → ⊥
  fresh a low (m, i, from, to) = omega (arith, earlier m i)

  pub open_more : (f : Map) → AllOpen bs n f → OpenFrom f o (o + words_in part) → AllOpen bs (n + 1) f
  open_more f all here a (m, i, low, high) =
      elim (cases_lt m n) [
        | inl k ↦ all a (m, k, low, high)
        | inr k ↦ let e : m ≡ n = omega arith in
            here a (omega (arith, ap (offset_of bs) e, h.begins)) (omega (arith, ap (end_of bs) e, ends))
      ]

  pub first_closed_at : (f : Map) (a : ℕ) → AllOpen bs n f
      → (o ≤ a) × (a < o + words_in part) × (cell_is_open (f a) ≡ false) × OpenFrom f o a → FirstClosed bs f a
  first_closed_at f a all (low, high, closed, here) = record {
    held = (n, h.within, omega (arith, h.begins), omega (arith, ends));
    closed = closed;
    first = λ b less held.
        elim (cases_lt held.0 n) [
          | inl k ↦ all b (held.0, k, held.2, held.3)
          | inr k ↦ elim (cases_lt n held.0) [
            | inl j ↦ absurd (omega (arith, apart bs (pair_count bs) h.right.1 n held.0 j held.1, ends))
            | inr j ↦ let e : held.0 ≡ n = omega arith in here b (omega (arith, ap (offset_of bs) e, h.begins)) less
          ]
        ];
  }

  -- What is open before any segment is laid is open still when this one is.
  pub open_still : (f g : Map) → AllOpen bs (pair_count bs) f → Lays bs n f g → OpenFrom g o (o + words_in part)
  open_still f g all before a low high =
      ap cell_is_open (before.rest a (fresh a low)) ∙ all a (n, h.within, omega (arith, h.begins), omega (arith, ends))

  lays_more : (f g : Map) → Lays bs n f g → Lays bs (n + 1) f (laid o part (words_in part) g)
  lays_more f g before = record {
    words = λ m k i j.
        elim (cases_lt m n) [
          | inl x ↦
              laid_other o part (words_in part) g (offset_of bs m + k) (λ low high. omega (arith, earlier m x))
              ∙ before.words m k x j
          | inr x ↦ let e : m ≡ n = omega arith in
              ap (λ x. laid o part (words_in part) g (x + k)) (ap (offset_of bs) e ∙ sym h.begins)
              ∙ laid_in o part (words_in part) g k (omega (arith, ap (length_of bs) e, ends, h.begins))
              ∙ ap (λ p. Open (word_in p k)) (h.reads ∙ ap (part_of bs) (sym e))
        ];
    rest = λ a out.
        laid_other o part (words_in part) g a
        (λ low high. out (n, omega arith, omega (arith, h.begins), omega (arith, ends)))
        ∙ before.rest a (λ held. out (held.0, omega arith, held.2, held.3));
  }

  pub laid_more : (first before after : Meaning) → Laid bs n first before
      → after ≡ mapped (laid o part (words_in part) before.map) before → Laid bs (n + 1) first after
  laid_more first before after (lays, same) e = (
    subst (Lays bs (n + 1) first.map) (ap (λ m. m.map) (sym e)) (lays_more first.map before.map lays),
    search rules,
  )
