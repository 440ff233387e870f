use Rattle.std.proofs.Common.{rules}
use Rattle.std.proofs.lemmas.List.{length-set}
use Rattle.fault_line.specs.Numeral.{digits}
use Rattle.fault_line.proofs.Digits.{one_written}
use Rattle.fault_line.proofs.numeral.Base.digits.Goals as goal

pub loop-place-preserved : goal.loop-place-preserved
loop-place-preserved g c = search (rules, one_written, length-set)

pub returns : goal.returns
unfolding digits
returns g c = search rules
