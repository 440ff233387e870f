-- The whole grammar: which command a line is, or what is wrong with it.
-- The tests come in this order: the bytes before the comment, the first word, the operands from left to right,
-- words too many. A reader must believe that the definitions below and those that they cite are the bench's format.
use Rattle.std.specs.Prelude.{ℕ, List, [], ◌∷◌, Some, None, Ok, Err, Option, Result, if◌then◌else◌}
use Rattle.std.specs.Result.{result_map_both}
use Rattle.command.specs.declared.Command.{Command}
use Rattle.command.specs.declared.Command.TheVariants as the
use Rattle.command.specs.declared.Wrong.{Wrong}
use Rattle.command.specs.declared.Wrong.TheVariants.{BadByte, UnknownCommand}
use Rattle.command.specs.declared.keyword.Keyword.{Keyword}
use Rattle.command.specs.declared.keyword.Keyword.TheVariants.{Card, Words, Layer, Load, Power, Clock, Instruction, Reset, Draw, Set, Give}
use Rattle.command.specs.declared.keyword.Keyword.TheVariants.{Registers, Flags, Pc, Fault, Look, Memory, Place}
use Rattle.command.specs.Keywords.{keyword_of}
use Rattle.command.specs.Commands.{only}
use Rattle.command.specs.Commands.{card_of, store_of, layer_of, load_of, power_of, clock_of, instruction_of, set_of}
use Rattle.command.specs.Commands.{look_of, memory_of, place_of}
use Rattle.command.specs.Words.{before_comment, any_bad, words_of}

-- the command of a keyword and the words after it
abbrev pub operands_of : Keyword → List (List ℕ) → Result Command Wrong
operands_of Card ws = card_of ws
operands_of Words ws = store_of ws
operands_of Layer ws = layer_of ws
operands_of Load ws = load_of ws
operands_of Power ws = power_of ws
operands_of Clock ws = clock_of ws
operands_of Instruction ws = instruction_of ws
operands_of Reset ws = only ws the.Reset
operands_of Draw ws = only ws the.Draw
operands_of Set ws = set_of ws
operands_of Give ws = only ws the.Give
operands_of Registers ws = only ws the.Registers
operands_of Flags ws = only ws the.Flags
operands_of Pc ws = only ws the.Pc
operands_of Fault ws = only ws the.Fault
operands_of Look ws = look_of ws
operands_of Memory ws = memory_of ws
operands_of Place ws = place_of ws

-- the same; any other first word begins no command
abbrev pub after : Option Keyword → List (List ℕ) → Result (Option Command) Wrong
after None ws = Err UnknownCommand
after (Some k) ws = result_map_both Some (λ e. e) (operands_of k ws)

abbrev pub command_of : List (List ℕ) → Result (Option Command) Wrong
command_of [] = Ok None
command_of (w ∷ ws) = after (keyword_of w) ws

-- a bad byte comes before all else
abbrev pub line_of : List ℕ → Result (Option Command) Wrong
line_of line = if any_bad (before_comment line) then Err BadByte else command_of (words_of (before_comment line))
