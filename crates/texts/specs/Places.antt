-- Where the faults of a text stand.
use Rattle.std.specs.Prelude.{◌≡◌, ℕ, ◌⊎◌, List, [], ◌∷◌}
use Rattle.faults.specs.declared.TextFault.{TextFault}
use Rattle.faults.specs.declared.TextFault.TheVariants.{Shape, Limit}
use Rattle.texts.specs.Lexemes.{Lexeme, word, line_end, end}

abbrev pub fault_place : TextFault → ℕ
fault_place (Shape p) = p
fault_place (Limit p) = p

abbrev pub place : Lexeme → ℕ
place (word w p) = p
place (line_end p) = p
place (end p) = p

-- a word begins at p, or a line feed or the end is there
abbrev pub Stands : ℕ → List Lexeme → Type 0
Stands p [] = ⊥
Stands p (t ∷ ts) = (place t ≡ p) ⊎ Stands p ts
