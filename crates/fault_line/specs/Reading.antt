-- What reading a fault line gives, and that no two faults share one.
-- A reader must believe that `Read` is what a reader of lines owes, and that `OneFault` is why a line tells its fault.
use Rattle.std.specs.Prelude.{◌≡◌, ℕ, ◌^◌, ◌<◌, List, ◌++◌, length, Some, codes, Option, MatchOption, ◌≢◌}
use Rattle.std.specs.Borrow.{Bor}
use Rattle.fault_line.specs.declared.Fields.{Fields}
use Rattle.fault_line.specs.Line.{Counts, InRange, line_of, name, texts}
use Rattle.fault_line.specs.Numeral.{digit, digits}

abbrev pub OneFault : Type 0
OneFault = (f g : Fields) → InRange f → InRange g → line_of f ≡ line_of g → f ≡ g

-- a fault whose line the bytes are, with nothing before or after; or that there is none
abbrev pub Found : List ℕ → Option Fields → Type 0
Found line r = MatchOption r ((f : Fields) → InRange f → line ≢ line_of f) (λ f. InRange f × (line ≡ line_of f))

pub record Read (line : List ℕ) (r : Option Fields) : Type 0 where
  pub found : Found line r
  -- what was written is read as the fault that it was written of
  pub same : (f : Fields) → InRange f → line ≡ line_of f → r ≡ Some f

-- on the way: a digit, a number all of whose digits are there, what follows a mark
abbrev pub DigitRead : ℕ → ℕ → Option ℕ → Type 0
DigitRead b c r = MatchOption r ((d : ℕ) → d < b → c ≢ digit d) (λ d. (d < b) × (c ≡ digit d))

abbrev pub NumberRead : ℕ → List ℕ → Option ℕ → Type 0
NumberRead b text r =
    MatchOption r ((n : ℕ) → text ≢ digits b (length text) n)
    (λ n. (n < b ^ length text) × (text ≡ digits b (length text) n))

-- `after` is what is left of a text
abbrev pub MarkRead : List ℕ → List ℕ → Option Unit → List ℕ → Type 0
MarkRead mark text r after =
    MatchOption r (((rest : List ℕ) → text ≢ mark ++ rest) × (after ≡ text)) (λ _. text ≡ mark ++ after)

-- one field at the front of a text, and what follows it; or that no number in its range stands there
abbrev pub FieldRead : (ℕ → Type 0) → (ℕ → List ℕ) → List ℕ → Option ℕ → List ℕ → Type 0
FieldRead In piece text r after =
    MatchOption r ((n : ℕ) (rest : List ℕ) → In n → text ≢ piece n ++ rest)
    (λ n. In n × (text ≡ piece n ++ after))

abbrev pub NumeralRead : List ℕ → ℕ → ℕ → List ℕ → Option ℕ → List ℕ → Type 0
NumeralRead mark b k = FieldRead (λ n. n < b ^ k) (λ n. mark ++ digits b k n)

abbrev pub NameRead : List (Bor (List ℕ)) → List ℕ → Option ℕ → List ℕ → Type 0
NameRead names = FieldRead (Counts (length names)) (λ n. codes " " ++ name (texts names) n)
