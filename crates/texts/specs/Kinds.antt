-- The two kinds of text, told apart by their first word.
use Rattle.std.specs.Prelude.{ℕ, Bool, false, not, List, find, Some, None, Option, nat_eq}
use Rattle.texts.specs.Lexemes.{blank}

-- the first byte other than space and line feed
abbrev pub first_solid : List ℕ → Option ℕ
first_solid text = find (λ b. not (blank b)) text

-- a gate text begins with `a`; every other text, the empty one too, is a clause text
abbrev pub gate_text : List ℕ → Bool
gate_text text = elim (first_solid text) [ None ↦ false | Some b ↦ nat_eq b 97 ]
