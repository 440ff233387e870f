-- The fault line: which faults have one, and the bytes that it is made of.
-- A reader must believe that `InRange` is what a fault's seven numbers can be, and that `line_of` is the layout that
-- panels are told: axis, stage, instruction, access, cause, origin and layer, parted by single spaces, and byte 10.
use Rattle.std.specs.Prelude.{ℕ, ◌-◌, ◌^◌, ◌<◌, ◌≤◌, List, [], ◌∷◌, ◌++◌, map, codes, slice_index_or}
use Rattle.std.specs.Borrow.{Bor}
use Rattle.std.specs.List.{flat_map}
use Rattle.fault_line.specs.declared.Fields.{Fields}
use Rattle.fault_line.specs.Numeral.{digits}

-- the names of the stages and of the causes, numbered from 1
abbrev pub stages : List (List ℕ)
stages = codes "fetch" ∷ codes "displ" ∷ codes "load" ∷ codes "store" ∷ []

abbrev pub causes : List (List ℕ)
causes = codes "absent" ∷ codes "fixed" ∷ []

abbrev pub name : List (List ℕ) → ℕ → List ℕ
name names n = slice_index_or names (n - 1) []

abbrev pub Counts : ℕ → ℕ → Type 0
Counts last n = (1 ≤ n) × (n ≤ last)

-- an address is any word of 32 bits
pub record InRange (f : Fields) : Type 0 where
  pub axis_in : Counts 3 f.axis
  pub stage_in : Counts 4 f.stage
  pub instruction_in : f.instruction < 2 ^ 32
  pub access_in : f.access < 2 ^ 32
  pub cause_in : Counts 2 f.cause
  pub origin_in : f.origin < 2 ^ 32
  pub layer_in : f.layer ≤ 255

-- each field with what stands before it
abbrev pub axis_text : ℕ → List ℕ
axis_text n = codes "A" ++ digits 10 1 n

abbrev pub stage_text : ℕ → List ℕ
stage_text n = codes " " ++ name stages n

abbrev pub address_text : ℕ → List ℕ
address_text n = codes " " ++ digits 16 8 n

abbrev pub cause_text : ℕ → List ℕ
cause_text n = codes " " ++ name causes n

abbrev pub layer_text : ℕ → List ℕ
layer_text n = codes " L" ++ digits 10 3 n

-- as `A1 load 00000000 00001000 absent 00001000 L000` and byte 10
abbrev pub line_of : Fields → List ℕ
line_of f =
    flat_map (λ text. text)
    (axis_text f.axis
    ∷ stage_text f.stage
    ∷ address_text f.instruction
    ∷ address_text f.access
    ∷ cause_text f.cause
    ∷ address_text f.origin
    ∷ layer_text f.layer
    ∷ (10 ∷ [])
    ∷ [])

-- what a list of lent texts holds
abbrev pub texts : List (Bor (List ℕ)) → List (List ℕ)
texts lent = map (λ t. t.now) lent
