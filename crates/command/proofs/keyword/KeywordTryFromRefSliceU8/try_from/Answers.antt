use Rattle.std.proofs.Common.{rules}
use Rattle.std.proofs.lemmas.Slice.Eq.{text_from_reads}
use Rattle.command.proofs.keyword.KeywordTryFromRefSliceU8.try_from.Goals as goal

pub returns-in-memory : goal.returns-in-memory
returns-in-memory c = search (rules, text_from_reads)

pub returns-in-registers : goal.returns-in-registers
returns-in-registers c = search (rules, text_from_reads)

pub returns-in-instruction : goal.returns-in-instruction
returns-in-instruction c = search (rules, text_from_reads)

pub returns-in-layer : goal.returns-in-layer
returns-in-layer c = search (rules, text_from_reads)

pub returns-in-power : goal.returns-in-power
returns-in-power c = search (rules, text_from_reads)

pub returns-in-place : goal.returns-in-place
returns-in-place c = search (rules, text_from_reads)

pub returns-in-clock : goal.returns-in-clock
returns-in-clock c = search (rules, text_from_reads)

pub returns-in-reset : goal.returns-in-reset
returns-in-reset c = search (rules, text_from_reads)

pub returns-in-flags : goal.returns-in-flags
returns-in-flags c = search (rules, text_from_reads)

pub returns-in-fault : goal.returns-in-fault
returns-in-fault c = search (rules, text_from_reads)
