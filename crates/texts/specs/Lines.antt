-- The lines of a text, by their words.
use Rattle.std.specs.Prelude.{◌≡◌, ℕ, ◌+◌, List, [], ◌∷◌}
use Rattle.texts.specs.Lexemes.{Lexeme, word, line_end, end}

-- ts begins with these words, and goes on with rest
abbrev pub Words : List (List ℕ) → List Lexeme → List Lexeme → Type 0
Words [] ts rest = ts ≡ rest
Words (w ∷ ws) ts rest = (p : ℕ) × (us : List Lexeme) × (ts ≡ word w p ∷ us) × Words ws us rest

-- ts begins with lines of these words, and goes on with rest; a and b are the places behind the line feeds before and after them
abbrev pub Lines : List (List (List ℕ)) → ℕ → List Lexeme → ℕ → List Lexeme → Type 0
Lines [] a ts b rest = (a ≡ b) × (ts ≡ rest)
Lines (ws ∷ lines) a ts b rest = (q : ℕ) × (us : List Lexeme) × Words ws ts (line_end q ∷ us) × Lines lines (q + 1) us b rest

-- the end of the text is what comes, at place b
abbrev pub Ends : ℕ → List Lexeme → Type 0
Ends b [] = ⊥
Ends b (word w p ∷ ts) = ⊥
Ends b (line_end p ∷ ts) = ⊥
Ends b (end p ∷ ts) = p ≡ b
