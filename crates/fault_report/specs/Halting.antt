-- Axes that halt at their first instruction, each with its line byte by byte: the stages and causes that a bottom card can show.
-- A reader must believe: each row is one that the rules of instructions, cards and lines ask for.
use Rattle.std.specs.Prelude.{◌≡◌, ℕ, List, [], ◌∷◌, ◌++◌, Some, codes, replicate}
use Rattle.std.specs.List.{AllByRecursion}
use Rattle.card.specs.Bottom.{fixed_cells, open_cells}
use Rattle.card.specs.Cells.{Map}
use Rattle.fault_line.specs.Line.{line_of}
use Rattle.machine.specs.declared.axis.Axis.{Axis}
use Rattle.machine.specs.declared.axis.Axis.TheVariants.{One, Two, Three}
use Rattle.machine.specs.declared.fault.Fault.{Fault}
use Rattle.machine.specs.declared.machine.Outcome.TheVariants.{Halted}
use Rattle.machine.specs.State.{State, powered_up}
use Rattle.machine.specs.Step.{failed, step}
use Rattle.fault_report.specs.Report.{fields_of}

-- An axis after power-up on a card with these cells, and the line that it halts with.
pub record Row : Type 0 where
  pub start : State
  pub line : List ℕ

abbrev pub row : Axis → Map → List ℕ → Row
row axis cells text = record { start = powered_up axis cells; line = text ++ (10 ∷ []) }

-- The example is a load past the end of a card of 4,096 words.
abbrev pub example : Row
example =
    row One (open_cells (0x20010000 ∷ 0x00001000 ∷ replicate 4094 0))
    (codes "A1 load 00000000 00001000 absent 00001000 L000")

abbrev pub rows : List Row
rows =
    row Two (open_cells []) (codes "A2 fetch 00000000 00000000 absent 00000000 L000")
    ∷ row Three (open_cells (0x20010000 ∷ [])) (codes "A3 displ 00000000 00000001 absent 00000001 L000")
    ∷ example
    ∷ row One (open_cells (0x310100ff ∷ [])) (codes "A1 store 00000000 ffffffff absent ffffffff L000")
    ∷ row One (fixed_cells (0x31010000 ∷ [])) (codes "A1 store 00000000 00000000 fixed 00000000 L000")
    ∷ []

-- The first instruction halts the axis and changes nothing but the fault, whose line is that of the row.
abbrev pub HaltsWithLine : Row → Type 0
HaltsWithLine r = (f : Fault) × (step r.start ≡ (Some Halted, failed r.start f)) × (line_of (fields_of f) ≡ r.line)

abbrev pub AllHalt : Type 0
AllHalt = AllByRecursion HaltsWithLine rows
