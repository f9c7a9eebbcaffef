-- The lines of a script: a line ends with a line feed (10), and the last one need not.
use Rattle.std.specs.Prelude.{ℕ, cond, List, [], ◌∷◌, ◌==◌}
use Rattle.scripts.specs.declared.lines.Script.{Script}

-- the byte b put in front of the first line
abbrev pub longer : ℕ → List (List ℕ) → List (List ℕ)
longer b [] = (b ∷ []) ∷ []
longer b (l ∷ ls) = (b ∷ l) ∷ ls

unfoldable pub lines_of : List ℕ → List (List ℕ)
lines_of [] = []
lines_of (b ∷ bs) = cond (b == 10) ([] ∷ lines_of bs) (longer b (lines_of bs))

-- those that are not read yet
abbrev pub lines_ahead : Script → List (List ℕ)
lines_ahead s = lines_of s.rest.now
