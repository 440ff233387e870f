-- The words of a line. A `#` starts a comment, and spaces and tabs part the words before it.
-- A reader must believe that 35 is `#`, 32 the space, 9 the tab and 13 the carriage return.
use Rattle.std.specs.Prelude.{ℕ, Bool, ◌||◌, List, [], ◌∷◌, ◌++◌, codes, ◌==◌, nat_le, if◌then◌else◌}
use Prim.Native.String.{String}
use Rattle.std.specs.List.{before_first, list_any}
use Rattle.std.specs.Str.{bytes_eq}

-- what stands before the comment
abbrev pub before_comment : List ℕ → List ℕ
before_comment bs = before_first (λ b. b == 35) bs

abbrev pub blank : ℕ → Bool
blank b = b == 32 || b == 9

-- a carriage return, or no ASCII: such a byte may stand in a comment only
abbrev pub bad : ℕ → Bool
bad b = b == 13 || nat_le 128 b

abbrev pub any_bad : List ℕ → Bool
any_bad bs = list_any bad bs

-- a word ends here; no word is empty
abbrev pub ended : List ℕ → List (List ℕ) → List (List ℕ)
ended [] ws = ws
ended (b ∷ w) ws = (b ∷ w) ∷ ws

-- the words of a text whose first word goes on from w
abbrev pub words_after : List ℕ → List ℕ → List (List ℕ)
words_after w [] = ended w []
words_after w (b ∷ bs) = if blank b then ended w (words_after [] bs) else words_after (w ++ b ∷ []) bs

abbrev pub words_of : List ℕ → List (List ℕ)
words_of bs = words_after [] bs

-- w is just this text
abbrev pub spells : List ℕ → String → Bool
spells w text = bytes_eq w (codes text)
