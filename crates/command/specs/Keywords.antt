-- The word that each command begins with, in small letters; any other word begins none.
-- A reader must believe the spelling of each.
use Rattle.std.specs.Prelude.{ℕ, List, Some, None, Option, if◌then◌else◌}
use Rattle.command.specs.Words.{spells}
use Rattle.command.specs.declared.keyword.Keyword.{Keyword}
use Rattle.command.specs.declared.keyword.Keyword.TheVariants.{Card, Words, Layer, Load, Power, Clock, Instruction, Reset, Draw, Set, Give}
use Rattle.command.specs.declared.keyword.Keyword.TheVariants.{Registers, Flags, Pc, Fault, Look, Memory, Place}

abbrev pub keyword_of : List ℕ → Option Keyword
keyword_of w =
    if spells w "card" then Some Card
    else if spells w "words" then Some Words
    else if spells w "layer" then Some Layer
    else if spells w "load" then Some Load
    else if spells w "power" then Some Power
    else if spells w "clock" then Some Clock
    else if spells w "instruction" then Some Instruction
    else if spells w "reset" then Some Reset
    else if spells w "draw" then Some Draw
    else if spells w "set" then Some Set
    else if spells w "give" then Some Give
    else if spells w "registers" then Some Registers
    else if spells w "flags" then Some Flags
    else if spells w "pc" then Some Pc
    else if spells w "fault" then Some Fault
    else if spells w "look" then Some Look
    else if spells w "memory" then Some Memory
    else if spells w "place" then Some Place
    else None
