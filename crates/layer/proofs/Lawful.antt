-- The laws of layers.
use Rattle.std.proofs.Common.{◌≡◌, ℕ, ◌+◌, ◌-◌, ◌<◌, ◌≤◌, Bool, true, false, ◌||◌, sym, refl, ◌∙◌, ⊎_elim, arith}
use Rattle.std.proofs.lemmas.Bool.{le-leb, lt-leb, cases_lt}
use Rattle.card.specs.declared.cell.Cell.{Cell}
use Rattle.card.specs.declared.cell.Cell.TheVariants.{Absent, Fixed, Open}
use Rattle.card.specs.Cells.{Map}
use Rattle.layer.specs.declared.kind.Kind.TheVariants.{Offset, Guard}
use Rattle.layer.specs.Kinds.{guards}
use Rattle.layer.specs.Laws.{Laws, bare, SameCells}
use Rattle.layer.specs.Shown.{shown, lifted}

-- What a cell is without its origin survives two lifts.
twice : (g h : Bool) (a b : ℕ) (c : Cell) → bare (lifted g a (lifted h b c)) ≡ bare (lifted (g || h) a c)
twice g h a b (Absent o) = refl
twice g h a b (Fixed w o) = refl
twice true true a b (Open w) = refl
twice true false a b (Open w) = refl
twice false true a b (Open w) = refl
twice false false a b (Open w) = refl

swapped : (g h : Bool) (a : ℕ) (c : Cell) → bare (lifted (g || h) a c) ≡ bare (lifted (h || g) a c)
swapped true true a c = refl
swapped true false a c = refl
swapped false true a c = refl
swapped false false a c = refl

unguarded : (a : ℕ) (c : Cell) → bare (lifted false a c) ≡ bare c
unguarded a (Absent o) = refl
unguarded a (Fixed w o) = refl
unguarded a (Open w) = refl

sums : (b c a : ℕ) → b ≤ a → c ≤ a - b → a - b - c ≡ a - (b + c)
sums b c a p q = omega arith

-- By whether the address lies below the upper base, below both, or above.
offsets : (b c : ℕ) (f : Map) → SameCells (shown (Offset b) (shown (Offset c) f)) (shown (Offset (b + c)) f)
offsets b c f a =
    ⊎_elim
    (λ low. let over : a < b + c = omega arith in rw (lt-leb b a low, lt-leb (b + c) a over) refl)
    (λ high. ⊎_elim
    (λ low. let over : a < b + c = omega arith in rw (le-leb b a high, lt-leb c (a - b) low, lt-leb (b + c) a over) refl)
    (λ top. let over : b + c ≤ a = omega arith in
    rw (le-leb b a high, le-leb c (a - b) top, le-leb (b + c) a over, sums b c a high top)
    (twice false false a (a - b) (f (a - (b + c)))))
    (cases_lt (a - b) c))
    (cases_lt a b)

pub lawful : Laws
lawful =
    record {
      offsets = offsets;
      ranges = λ p q r s f a. twice (guards (Guard p q) a) (guards (Guard r s) a) a a (f a);
      order = λ p q r s f a.
          twice (guards (Guard p q) a) (guards (Guard r s) a) a a (f a)
          ∙ (swapped (guards (Guard p q) a) (guards (Guard r s) a) a (f a)
          ∙ sym (twice (guards (Guard r s) a) (guards (Guard p q) a) a a (f a)));
      slow = λ w f a. unguarded a (f a);
      highest = refl;
      slowest = refl;
    }
