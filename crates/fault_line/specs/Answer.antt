-- What a call for a fault line answers, and what its buffer holds then.
-- A reader must believe that these are the three ways that such a call can go, and that C is told a refusal as minus its
-- number.
use Rattle.std.specs.Prelude.{◌≡◌, ℕ, ◌<◌, ◌≤◌, List, length, Result, Ok, Err, ℤ, pos, neg_ℤ}
use Rattle.std.specs.Borrow.{MutBor}
use Rattle.refusal.specs.declared.Refusal.{Refusal}
use Rattle.refusal.specs.declared.Refusal.TheVariants.{Buffer, Field}
use Rattle.refusal.specs.Numbers.{number_of}
use Rattle.fault_line.specs.declared.Fields.{Fields}
use Rattle.fault_line.specs.Buffer.{Begins}
use Rattle.fault_line.specs.Line.{InRange, line_of}

abbrev pub fault : ℕ → ℕ → ℕ → ℕ → ℕ → ℕ → ℕ → Fields
fault a s i x c o l =
    record { axis = a; stage = s; instruction = i; access = x; cause = c; origin = o; layer = l }

-- `answer` is how a caller is told the length of the line, or the refusal
abbrev pub Refused : {R : Type 0} → (Result ℕ Refusal → R) → Refusal → List ℕ → R → List ℕ → Type 0
Refused answer refusal before r after = (r ≡ answer (Err refusal)) × (after ≡ before)

-- the line with its byte 10, over the front of the buffer; the rest stays
abbrev pub Written : {R : Type 0} → (Result ℕ Refusal → R) → Fields → List ℕ → R → List ℕ → Type 0
Written answer f before r after =
    (r ≡ answer (Ok (length (line_of f))))
    × (46 ≤ length (line_of f))
    × (length (line_of f) ≤ 48)
    × Begins (line_of f) before after

-- the fields are tested before the buffer, which must do for the longest line
pub record AnsweredAs {R : Type 0} (answer : Result ℕ Refusal → R) (f : Fields) (before : List ℕ) (r : R) (after : List ℕ)
    : Type 0 where
  pub unfit : (InRange f → ⊥) → Refused answer Field before r after
  pub short : InRange f → length before < 48 → Refused answer Buffer before r after
  pub written : InRange f → 48 ≤ length before → Written answer f before r after

-- the library's own answer
abbrev pub LineAnswered : Fields → List ℕ → Result ℕ Refusal → List ℕ → Type 0
LineAnswered = AnsweredAs (λ r. r)

-- C has no `Result`: it is told the length, or minus the refusal's number
abbrev pub c_answer : Result ℕ Refusal → ℤ
c_answer (Ok n) = pos n
c_answer (Err refusal) = neg_ℤ (pos (number_of refusal))

abbrev pub CLineAnswered : Fields → MutBor (List ℕ) → ℤ → MutBor (List ℕ) → Type 0
CLineAnswered f before r after = AnsweredAs c_answer f before.now r after.now
