-- The line that the texts of its parts make, once each is the text of its field.
-- Assumes nothing.
use Rattle.std.proofs.Common.{◌≡◌, ℕ, ◌≤◌, List, [], ◌∷◌, ◌++◌, length, codes, Ok, sym, refl, ap, ◌∙◌, subst, arith}
use Rattle.fault_line.specs.declared.Fields.{Fields}
use Rattle.fault_line.specs.Answer.{LineAnswered}
use Rattle.fault_line.specs.Buffer.{Begins}
use Rattle.fault_line.specs.Line.{InRange, line_of, name, stages, causes}
use Rattle.fault_line.specs.Numeral.{digits}
use Rattle.fault_line.proofs.Lines.{line_bounds}

-- the texts of the fields with what stands between them
abbrev written : List ℕ → List ℕ → List ℕ → List ℕ → List ℕ → List ℕ → List ℕ → List ℕ
written a s i x c o l =
    codes "A" ++ (a ++ (codes " " ++ (s ++ (codes " " ++ (i ++ (codes " " ++ (x ++
    (codes " " ++ (c ++ (codes " " ++ (o ++ (codes " L" ++ (l ++ (10 ∷ []))))))))))))))

module _
    (f : Fields) (v : InRange f) {a s i x c o l : List ℕ} (ea : a ≡ digits 10 1 f.axis) (es : s ≡ name stages f.stage)
    (ei : i ≡ digits 16 8 f.instruction) (ex : x ≡ digits 16 8 f.access) (ec : c ≡ name causes f.cause)
    (eo : o ≡ digits 16 8 f.origin) (el : l ≡ digits 10 3 f.layer) where
  line_is : written a s i x c o l ≡ line_of f
  line_is = rw (ea, es, ei, ex, ec, eo, el) refl

  pub fits : (before : List ℕ) → 48 ≤ length before → length (written a s i x c o l) ≤ length before
  fits before long = subst (λ t. length t ≤ length before) (sym line_is) (omega (arith, line_bounds f v))

  pub wrote : (before after : List ℕ) (r : ℕ) → 48 ≤ length before → r ≡ length (written a s i x c o l)
      → Begins (written a s i x c o l) before after → LineAnswered f before (Ok r) after
  wrote before after r long end puts =
      let b = line_bounds f v in
      record {
        unfit = λ out. absurd (out v);
        short = λ w h. absurd (omega arith);
        written = λ w h. (ap Ok (end ∙ ap length line_is), b.0, b.1, subst (λ t. Begins t before after) line_is puts);
      }
