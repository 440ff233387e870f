use Rattle.std.proofs.Common.{◌≡◌, ℕ, ◌<◌, ◌≤◌, ltb, Bool, true, false, sym, refl, ◌∙◌, arith}
use Rattle.std.specs.Bool.{then_some}
use Rattle.std.proofs.lemmas.Bool.{ltb-true, ltb-false}
use Rattle.fault_line.specs.Numeral.{digit, radix}
use Rattle.fault_line.specs.Reading.{DigitRead}
use Rattle.fault_line.proofs.Digits.{digit_tells, radix_bounds}
use Rattle.fault_line.proofs.numeral.Base.digit.Goals as goal

-- a hexadecimal digit that is kept where it is below the base
kept : (b c d : ℕ) → b ≤ 16 → d < 16 → c ≡ digit d → (test : Bool) → test ≡ ltb d b → DigitRead b c (then_some test d)
kept b c d h l e true t = (ltb-true d b (sym t), e)
kept b c d h l e false t = λ n m w.
    omega (arith, ltb-false d b (sym t), digit_tells d n l (omega arith) (sym e ∙ w))

pub returns : goal.returns
returns c =
    let read = c.in_ok-d.ensures in
    let b = (radix_bounds c.args.self).1 in
    rw (c.then_some.ensures, c.from.ensures)
    (kept (radix c.args.self) c.args.character c.in_ok-d.d b read.0 read.1 _ refl)
