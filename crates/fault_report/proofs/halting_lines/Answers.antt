use Rattle.std.proofs.Common.{refl}
use Rattle.fault_line.specs.Numeral.{digits}
use Rattle.isa.specs.Opcodes.{class_of}
use Rattle.fault_report.proofs.halting_lines.Goals as goal

pub returns-clause-halting : goal.returns-clause-halting
unfolding class_of digits
returns-clause-halting c =
    ((_, refl, refl), ((_, refl, refl), ((_, refl, refl), ((_, refl, refl), ((_, refl, refl), tt)))))
