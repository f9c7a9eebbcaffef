-- How lists of literals print.
use Rattle.std.specs.Prelude.{ℕ, List, ◌∷◌, ℤ, flat_map}
use Rattle.std.specs.Fmt.{signed_decimal}

-- each literal in base ten, with a space before it
abbrev pub spaced_text : List ℤ → List ℕ
spaced_text ls = flat_map (λ l. 32 ∷ signed_decimal l) ls
