-- The words of a line.
use Rattle.std.specs.Prelude.{ℕ, List, [], ◌∷◌, Some, None, Option}
use Rattle.texts.specs.declared.Words.{Words}
use Rattle.texts.specs.Lexemes.{Lexeme, word, line_end, end, ahead, lexemes_from}

-- the words up to the end of a line
abbrev pub words : List Lexeme → List (List ℕ)
words [] = []
words (word w p ∷ ts) = w ∷ words ts
words (line_end p ∷ ts) = []
words (end p ∷ ts) = []

-- those of a line, and those that are not read yet
abbrev pub words_of : List ℕ → List (List ℕ)
words_of line = words (lexemes_from 0 line)

abbrev pub words_ahead : Words → List (List ℕ)
words_ahead s = words (ahead s)

-- a word before the others, if there was one
abbrev pub with_first : Option (List ℕ) → List (List ℕ) → List (List ℕ)
with_first None ws = []
with_first (Some w) ws = w ∷ ws

-- the one word, if there is just one
abbrev pub only_word : List (List ℕ) → Option (List ℕ)
only_word [] = None
only_word (w ∷ []) = Some w
only_word (w ∷ v ∷ ws) = None
