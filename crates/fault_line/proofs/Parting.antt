-- A text that begins with a mark and a piece, once its mark is taken off.
-- Assumes nothing.
use Rattle.std.proofs.Common.{◌≡◌, ℕ, ◌<◌, ◌≤◌, List, ◌++◌, length, take, drop, Option, Some, None, sym, refl, ap, ◌∙◌, arith}
use Rattle.std.proofs.lemmas.List.{append_assoc, append_cancel_left, length-append, take_at, take-append-drop}
use Rattle.fault_line.specs.Numeral.{digits}
use Rattle.fault_line.specs.Reading.{NumberRead, NumeralRead}
use Rattle.fault_line.proofs.Digits.{length_digits}

module _ (mark text tail piece rest : List ℕ) (m : text ≡ mark ++ tail) (e : text ≡ (mark ++ piece) ++ rest) where
  unmarked : tail ≡ piece ++ rest
  unmarked = append_cancel_left mark tail (piece ++ rest) (sym m ∙ e ∙ append_assoc mark piece rest)

  unmarked_fits : length piece ≤ length tail
  unmarked_fits = omega (arith, simp length-append at (ap length unmarked))

  unmarked_front : take (length piece) tail ≡ piece
  unmarked_front = ap (take (length piece)) unmarked ∙ take_at piece rest (length piece) refl

-- a number after a mark: its digits are read, or the text is too short for them
pub after_mark : (mark text tail front rest : List ℕ) (b k : ℕ) (r : Option ℕ) → text ≡ mark ++ tail → front ≡ take k tail
    → length front ≡ k → rest ≡ drop k tail → NumberRead b front r → NumeralRead mark b k text r rest
after_mark mark text tail front rest b k None m f l d h =
    λ n after in' e.
    let t = unmarked_front mark text tail (digits b k n) after m e in
    let long = length_digits b k n in
    h n (rw (l, f) (sym (ap (λ i. take i tail) long) ∙ t))
after_mark mark text tail front rest b k (Some n) m f l d h =
    let t = take-append-drop k tail in
    let a = append_assoc mark (digits b k n) rest in
    let s = rw l at h in
    (s.0, cc)

pub too_short : (mark text tail rest : List ℕ) (b k : ℕ) (r : Option ℕ) → text ≡ mark ++ tail → length tail < k → r ≡ None
    → NumeralRead mark b k text r rest
too_short mark text tail rest b k r m l e =
    rw e (λ n after in' w.
    let long = length_digits b k n in
    omega (arith, unmarked_fits mark text tail (digits b k n) after m w))
