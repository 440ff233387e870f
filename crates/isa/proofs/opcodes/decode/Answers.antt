-- The table's rule, at the opcode.
use Rattle.std.proofs.Common.{arith}
use Rattle.std.proofs.lemmas.List.FromFn.{get_or-map-range_with_len}
use Rattle.isa.specs.Opcodes.{entry_of}
use Rattle.isa.proofs.opcodes.decode.Goals as goal

pub returns : goal.returns
returns c =
    let same = c.from.ensures in
    rw c.entries.ensures
    (get_or-map-range_with_len entry_of 0 256 c.from.result c.args.opcode _ (omega (arith, same)) (omega (arith, same)))
