use Rattle.std.proofs.Common.{rules}
use Rattle.std.proofs.lemmas.Slice.Eq.{text_from_reads}
use Rattle.command.proofs.MachineKindTryFromRefSliceU8.try_from.Goals as goal

pub returns-in-instruction : goal.returns-in-instruction
returns-in-instruction c = search (rules, text_from_reads)
