use Rattle.std.proofs.Common.{length, refl, arith, rules}
use native.Mathlib.Nat.{pow-zero}
use Rattle.std.proofs.lemmas.List.{take_more}
use Rattle.fault_line.specs.Numeral.{digits, radix}
use Rattle.fault_line.proofs.Digits.{one_read, below_more, below_all, no_digit, radix_bounds}
use Rattle.fault_line.proofs.numeral.Base.value.Goals as goal

pub loop-character-init : goal.loop-character-init
unfolding digits
loop-character-init c = (rw pow-zero (omega arith), refl)

pub overflow_mul-n : goal.overflow_mul-n
overflow_mul-n c =
    let k = length c.args.text.now in
    let b = radix_bounds c.args.self in
    search (rules, below_all (radix c.args.self) c.loop-character.character-index k c.loop-character.n 0)

pub overflow_add-n : goal.overflow_add-n
overflow_add-n c =
    let h = below_all (radix c.args.self) _ _ _ _ c.loop-character-test.true c.in_ok-n.ensures.0
    c.loop-character.invariant.0 in
    search rules

pub returns-in_err-n : goal.returns-in_err-n
returns-in_err-n c =
    rw c.from_residual.ensures (λ n e.
    no_digit (radix c.args.self) _ n c.args.text.now (omega (arith, radix_bounds c.args.self)) c.loop-character-test.true
    c.in_err-n.ensures e)

pub loop-character-preserved : goal.loop-character-preserved
loop-character-preserved c = search (rules, below_more, one_read, take_more)
