-- No two faults share a line: each field can be told from what stands at the front of a text.
-- Assumes nothing.
use Rattle.std.proofs.Common.{◌≡◌, ℕ, zero, suc, ◌^◌, ◌<◌, ◌≤◌, cond, eqb, Bool, true, false, List, [], ◌∷◌, ◌++◌, length, take, drop, Some, None, codes, Option, Decides, sym, refl, ap, ◌∙◌, subst, arith}
use Rattle.std.specs.Bool.{then_some}
use Rattle.std.proofs.lemmas.Bool.{false≢true}
use Rattle.std.proofs.lemmas.List.{append_assoc, append_cancel_left, length-append, take_at, drop_at}
use Rattle.fault_line.specs.declared.Fields.{Fields}
use Rattle.fault_line.specs.Answer.{fault}
use Rattle.fault_line.specs.Line.{Counts, InRange, line_of, name, stages, causes}
use Rattle.fault_line.specs.Line.{axis_text, stage_text, address_text, cause_text, layer_text}
use Rattle.fault_line.specs.Numeral.{digits}
use Rattle.fault_line.specs.Reading.{OneFault, Read}
use Rattle.fault_line.proofs.Digits.{length_digits, digits_tell}

-- a field that its text tells, whatever follows
abbrev pub Tells : (ℕ → Type 0) → (ℕ → List ℕ) → Type 0
Tells In piece = (m n : ℕ) (xs ys : List ℕ) → In m → In n → piece m ++ xs ≡ piece n ++ ys → (m ≡ n) × (xs ≡ ys)

number_tells : (mark : List ℕ) (b k : ℕ) → 2 ≤ b → b ≤ 16 → Tells (λ n. n < b ^ k) (λ n. mark ++ digits b k n)
number_tells mark b k p q m n xs ys im in' e =
    let d = append_cancel_left mark (digits b k m ++ xs) (digits b k n ++ ys)
    (sym (append_assoc mark (digits b k m) xs) ∙ e ∙ append_assoc mark (digits b k n) ys) in
    let l = length_digits b k m in
    let r = length_digits b k n in
    let s = sym (take_at (digits b k m) xs k l) ∙ ap (take k) d ∙ take_at (digits b k n) ys k r in (
      digits_tell b k m n p q im in' s,
      sym (drop_at (digits b k m) xs k l) ∙ ap (drop k) d ∙ drop_at (digits b k n) ys k r,
    )

abbrev letter : List ℕ → ℕ
letter [] = 0
letter (c ∷ cs) = c

-- names that differ in their first letter
name_tells : (names : List (List ℕ)) (last : ℕ) (which : ℕ → ℕ)
    → ((n : ℕ) → 1 ≤ n → n ≤ last → (xs : List ℕ) → which (letter (name names n ++ xs)) ≡ n)
    → Tells (Counts last) (λ n. codes " " ++ name names n)
name_tells names last which is m n xs ys im in' e =
    let d = append_cancel_left (codes " ") (name names m ++ xs) (name names n ++ ys) e in
    let s : m ≡ n = sym (is m im.0 im.1 xs) ∙ ap (λ t. which (letter t)) d ∙ is n in'.0 in'.1 ys in
    (s, append_cancel_left (name names n) xs ys (ap (λ k. name names k ++ xs) (sym s) ∙ d))

abbrev stage_by : ℕ → ℕ
stage_by c = cond (eqb c 102) 1 (cond (eqb c 100) 2 (cond (eqb c 108) 3 4))

stage_is : (n : ℕ) → 1 ≤ n → n ≤ 4 → (xs : List ℕ) → stage_by (letter (name stages n ++ xs)) ≡ n
stage_is zero l h xs = absurd (omega arith)
stage_is (suc zero) l h xs = refl
stage_is (suc (suc zero)) l h xs = refl
stage_is (suc (suc (suc zero))) l h xs = refl
stage_is (suc (suc (suc (suc zero)))) l h xs = refl
stage_is (suc (suc (suc (suc (suc n))))) l h xs = absurd (omega arith)

abbrev cause_by : ℕ → ℕ
cause_by c = cond (eqb c 97) 1 2

cause_is : (n : ℕ) → 1 ≤ n → n ≤ 2 → (xs : List ℕ) → cause_by (letter (name causes n ++ xs)) ≡ n
cause_is zero l h xs = absurd (omega arith)
cause_is (suc zero) l h xs = refl
cause_is (suc (suc zero)) l h xs = refl
cause_is (suc (suc (suc n))) l h xs = absurd (omega arith)

-- how long the line of a fault is
stage_length : (n : ℕ) → 1 ≤ n → n ≤ 4 → (4 ≤ length (name stages n)) × (length (name stages n) ≤ 5)
stage_length zero l h = absurd (omega arith)
stage_length (suc zero) l h = (omega arith, omega arith)
stage_length (suc (suc zero)) l h = (omega arith, omega arith)
stage_length (suc (suc (suc zero))) l h = (omega arith, omega arith)
stage_length (suc (suc (suc (suc zero)))) l h = (omega arith, omega arith)
stage_length (suc (suc (suc (suc (suc n))))) l h = absurd (omega arith)

cause_length : (n : ℕ) → 1 ≤ n → n ≤ 2 → (5 ≤ length (name causes n)) × (length (name causes n) ≤ 6)
cause_length zero l h = absurd (omega arith)
cause_length (suc zero) l h = (omega arith, omega arith)
cause_length (suc (suc zero)) l h = (omega arith, omega arith)
cause_length (suc (suc (suc n))) l h = absurd (omega arith)

pub line_bounds : (f : Fields) → InRange f → (46 ≤ length (line_of f)) × (length (line_of f) ≤ 48)
line_bounds f v =
    let s = stage_length f.stage v.stage_in.0 v.stage_in.1 in
    let c = cause_length f.cause v.cause_in.0 v.cause_in.1 in (
      simp (length-append, length_digits) (omega (arith, s, c)),
      simp (length-append, length_digits) (omega (arith, s, c)),
    )

axis_tells : Tells (λ n. n < 10) axis_text
axis_tells = number_tells (codes "A") 10 1 (omega arith) (omega arith)

stage_tells : Tells (Counts 4) stage_text
stage_tells = name_tells stages 4 stage_by stage_is

address_tells : Tells (λ n. n < 2 ^ 32) address_text
address_tells = number_tells (codes " ") 16 8 (omega arith) (omega arith)

cause_tells : Tells (Counts 2) cause_text
cause_tells = name_tells causes 2 cause_by cause_is

layer_tells : Tells (λ n. n < 1000) layer_text
layer_tells = number_tells (codes " L") 10 3 (omega arith) (omega arith)

-- a field that was read at the front of a text
abbrev pub Front : (ℕ → Type 0) → (ℕ → List ℕ) → List ℕ → ℕ → List ℕ → Type 0
Front In piece text n rest = In n × (text ≡ piece n ++ rest)

-- where a text begins with a field of a fault, that is what is read, and what follows it is left
told : (In : ℕ → Type 0) (piece : ℕ → List ℕ) → Tells In piece → (text : List ℕ) (m n : ℕ) (rest tail : List ℕ)
    → Front In piece text n rest → In m → text ≡ piece m ++ tail → (n ≡ m) × (rest ≡ tail)
told In piece tells text m n rest tail h im e = tells n m rest tail h.0 im (sym h.1 ∙ e)

-- what follows each field in the line of a fault
abbrev pub after_layer : Fields → List ℕ
after_layer f = 10 ∷ []

abbrev pub after_origin : Fields → List ℕ
after_origin f = layer_text f.layer ++ after_layer f

abbrev pub after_cause : Fields → List ℕ
after_cause f = address_text f.origin ++ after_origin f

abbrev pub after_access : Fields → List ℕ
after_access f = cause_text f.cause ++ after_cause f

abbrev pub after_instruction : Fields → List ℕ
after_instruction f = address_text f.access ++ after_access f

abbrev pub after_stage : Fields → List ℕ
after_stage f = address_text f.instruction ++ after_instruction f

abbrev pub after_axis : Fields → List ℕ
after_axis f = stage_text f.stage ++ after_stage f

-- one field after the other, in the line of a fault
module _ (f : Fields) (v : InRange f) {line : List ℕ} (e : line ≡ line_of f) where
  module _ {n1 : ℕ} {r1 : List ℕ} (h1 : Front (λ n. n < 10) axis_text line n1 r1) where
    pub told_axis : (n1 ≡ f.axis) × (r1 ≡ after_axis f)
    told_axis = told _ axis_text axis_tells line _ _ _ _ h1 (omega (arith, v.axis_in.1)) e

    module _ {n2 : ℕ} {r2 : List ℕ} (h2 : Front (Counts 4) stage_text r1 n2 r2) where
      pub told_stage : (n2 ≡ f.stage) × (r2 ≡ after_stage f)
      told_stage = told _ stage_text stage_tells r1 _ _ _ _ h2 v.stage_in told_axis.1

      module _ {n3 : ℕ} {r3 : List ℕ} (h3 : Front (λ n. n < 2 ^ 32) address_text r2 n3 r3) where
        pub told_instruction : (n3 ≡ f.instruction) × (r3 ≡ after_instruction f)
        told_instruction = told _ address_text address_tells r2 _ _ _ _ h3 v.instruction_in told_stage.1

        module _ {n4 : ℕ} {r4 : List ℕ} (h4 : Front (λ n. n < 2 ^ 32) address_text r3 n4 r4) where
          pub told_access : (n4 ≡ f.access) × (r4 ≡ after_access f)
          told_access = told _ address_text address_tells r3 _ _ _ _ h4 v.access_in told_instruction.1

          module _ {n5 : ℕ} {r5 : List ℕ} (h5 : Front (Counts 2) cause_text r4 n5 r5) where
            pub told_cause : (n5 ≡ f.cause) × (r5 ≡ after_cause f)
            told_cause = told _ cause_text cause_tells r4 _ _ _ _ h5 v.cause_in told_access.1

            module _ {n6 : ℕ} {r6 : List ℕ} (h6 : Front (λ n. n < 2 ^ 32) address_text r5 n6 r6) where
              pub told_origin : (n6 ≡ f.origin) × (r6 ≡ after_origin f)
              told_origin = told _ address_text address_tells r5 _ _ _ _ h6 v.origin_in told_cause.1

              module _ {n7 : ℕ} {r7 : List ℕ} (h7 : Front (λ n. n < 1000) layer_text r6 n7 r7) where
                told_layer : (n7 ≡ f.layer) × (r7 ≡ after_layer f)
                told_layer = told _ layer_text layer_tells r6 _ _ _ _ h7 (omega (arith, v.layer_in)) told_origin.1

                pub told_all : (fault n1 n2 n3 n4 n5 n6 n7 ≡ f) × (r7 ≡ after_layer f)
                told_all = (
                  λ i.
                      fault (told_axis.0 i) (told_stage.0 i) (told_instruction.0 i) (told_access.0 i)
                      (told_cause.0 i) (told_origin.0 i) (told_layer.0 i),
                  told_layer.1,
                )

pub one_fault : OneFault
one_fault f g v w e =
    let t : (f ≡ g) × (after_layer f ≡ after_layer g) =
    told_all g w e (omega (arith, v.axis_in.1), refl) (v.stage_in, refl) (v.instruction_in, refl)
    (v.access_in, refl) (v.cause_in, refl) (v.origin_in, refl) (omega (arith, v.layer_in), refl) in
    t.0

-- the fields read one after the other, up to the end, make the line of a fault
pub whole : (a s i x c o l : ℕ) {line r1 r2 r3 r4 r5 r6 r7 : List ℕ} → line ≡ axis_text a ++ r1 → r1 ≡ stage_text s ++ r2
    → r2 ≡ address_text i ++ r3 → r3 ≡ address_text x ++ r4 → r4 ≡ cause_text c ++ r5 → r5 ≡ address_text o ++ r6
    → r6 ≡ layer_text l ++ r7 → r7 ≡ 10 ∷ [] → line ≡ line_of (fault a s i x c o l)
whole a s i x c o l h1 h2 h3 h4 h5 h6 h7 end = rw (h1, h2, h3, h4, h5, h6, h7, end)

pub none : (line : List ℕ) (r : Option Fields) → r ≡ None → ((f : Fields) → InRange f → line ≡ line_of f → ⊥)
    → Read line r
none line r e h = rw e (record { found = h; same = λ f v l. absurd (h f v l) })

-- what is read is given where a test holds
pub if_not : (line : List ℕ) (g : Fields) (test : Bool) → test ≡ false
    → ((f : Fields) → InRange f → line ≡ line_of f → ⊥) → Read line (then_some test g)
if_not line g test e h = rw e (none line None refl h)

pub if_in_range : (line : List ℕ) (g : Fields) (test in_range : Bool) → test ≡ in_range → Decides in_range (InRange g)
    → line ≡ line_of g → ((f : Fields) → InRange f → line ≡ line_of f → g ≡ f) → Read line (then_some test g)
if_in_range line g test true e d h is =
    rw e (record { found = (d.0 refl, h); same = λ f v l. ap Some (is f v l) })
if_in_range line g test false e d h is =
    if_not line g test e (λ f v l. false≢true (d.1 (subst InRange (sym (is f v l)) v)))
