-- The first address of a segment that is not open: what `closed_in` finds.
use Rattle.std.proofs.Common.{◌≡◌, ℕ, zero, suc, ◌+◌, ◌<◌, ◌≤◌, Bool, true, false, cond, not, List, Option, None, Some, find, map, refl, sym, ap, ◌∙◌, subst, inl, inr, arith}
use Rattle.std.specs.List.{range_with_len}
use Rattle.std.proofs.lemmas.Bool.{cases_lt}
use Rattle.card.specs.Cells.{Map, cell_is_open}
use Rattle.image.specs.Words.{words_in, OpenFrom, closed_in}

-- The first address that is not open, from the first one on, up to and without the last.
abbrev pub FirstClosedIn : Map → ℕ → ℕ → Option ℕ → Type 0
FirstClosedIn f first last None = OpenFrom f first last
FirstClosedIn f first last (Some a) = (first ≤ a) × (a < last) × (cell_is_open (f a) ≡ false) × OpenFrom f first a

-- The same for the addresses of a segment at the offset.
abbrev pub ClosedIn : Map → ℕ → List ℕ → Option ℕ → Type 0
ClosedIn f offset part r = FirstClosedIn f offset (offset + words_in part) r

open_more_below : (f : Map) (first last : ℕ) → cell_is_open (f first) ≡ true → OpenFrom f (first + 1) last
    → OpenFrom f first last
open_more_below f first last e rest a low high =
    elim (cases_lt first a) [
      | inl x ↦ rest a (omega arith) high
      | inr x ↦ let same : a ≡ first = omega arith in ap (λ b. cell_is_open (f b)) same ∙ e
    ]

closed_step : (f : Map) (first last : ℕ) (opened : Bool) (r : Option ℕ) → first < last
    → cell_is_open (f first) ≡ opened → FirstClosedIn f (first + 1) last r
    → FirstClosedIn f first last (cond (not opened) (Some first) r)
closed_step f first last false r l e rest = (omega arith, l, e, λ a low high. absurd (omega arith))
closed_step f first last true None l e rest = open_more_below f first last e rest
closed_step f first last true (Some x) l e (low, high, closed, before) =
    (omega arith, high, closed, open_more_below f first x e before)

closed_from : (f : Map) (offset k n last : ℕ) → offset + k + n ≡ last → FirstClosedIn f (offset + k) last
    (find (λ a. not (cell_is_open (f a))) (map (λ j. offset + j) (range_with_len k n)))
closed_from f offset k zero last e = λ a low high. absurd (omega arith)
closed_from f offset k (suc n) last e =
    closed_step f (offset + k) last (cell_is_open (f (offset + k))) _ (omega arith) refl
    (subst (λ first. FirstClosedIn f first last
    (find (λ a. not (cell_is_open (f a))) (map (λ j. offset + j) (range_with_len (k + 1) n)))) (omega arith)
    (closed_from f offset (k + 1) n last (omega arith)))

pub closed_found : (f : Map) (offset : ℕ) (part : List ℕ) (r : Option ℕ) → r ≡ closed_in f offset part
    → ClosedIn f offset part r
closed_found f offset part r e =
    let last = offset + words_in part in
    let from : FirstClosedIn f offset last (closed_in f offset part) =
    subst (λ first. FirstClosedIn f first last (closed_in f offset part)) (omega arith)
    (closed_from f offset 0 (words_in part) last (omega arith)) in
    subst (FirstClosedIn f offset last) (sym e) from
