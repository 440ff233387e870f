-- The text that is printed for each kind of mistake in a line.
-- A reader must believe that the text fits the mistake.
use Rattle.std.specs.Prelude.{ℕ, List, codes}
use Rattle.command.specs.declared.Wrong.{Wrong}
use Rattle.command.specs.declared.Wrong.TheVariants.{BadByte, UnknownCommand, UnknownCard, UnknownLayer, UnknownMachine}
use Rattle.command.specs.declared.Wrong.TheVariants.{MissingOperand, ExtraOperand, NotANumber, NumberTooLarge}
use Rattle.command.specs.declared.Wrong.TheVariants.{CardTooLarge, SlowTooLarge, RegisterTooLarge, PastLastAddress}

abbrev pub text_of : Wrong → List ℕ
text_of BadByte = codes "a carriage return or a byte outside ASCII"
text_of UnknownCommand = codes "no such command"
text_of UnknownCard = codes "no such card, only word and boot"
text_of UnknownLayer = codes "no such layer, only offset, guard and slow"
text_of UnknownMachine = codes "no such machine, only clock and instruction"
text_of MissingOperand = codes "an operand is missing"
text_of ExtraOperand = codes "an operand too many"
text_of NotANumber = codes "not a number"
text_of NumberTooLarge = codes "the number is past 4294967295"
text_of CardTooLarge = codes "the card is over 65536 words"
text_of SlowTooLarge = codes "the waits are over 255"
text_of RegisterTooLarge = codes "the register is over 255"
text_of PastLastAddress = codes "a cell is past address 0xffffffff"
