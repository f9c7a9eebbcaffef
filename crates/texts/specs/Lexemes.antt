-- The words, line feeds and end of a text, each with its place.
use Rattle.std.specs.Prelude.{ℕ, ◌+◌, ◌^◌, ◌<◌, Bool, false, cond, not, ◌||◌, List, [], ◌∷◌, drop, ◌==◌}
use Rattle.texts.specs.declared.Token.{Token}
use Rattle.texts.specs.declared.Token.TheVariants.{Word, LineEnd, End}
use Rattle.texts.specs.declared.Words.{Words}

-- what stands at a place: a word, a line feed or the end
pub data Lexeme : Type 0 where
  word : List ℕ → ℕ → Lexeme
  line_end : ℕ → Lexeme
  end : ℕ → Lexeme

-- space and line feed part words
abbrev pub blank : ℕ → Bool
blank b = b == 32 || b == 10

-- whether the bytes begin inside a word
abbrev pub goes_on : List ℕ → Bool
goes_on [] = false
goes_on (b ∷ bs) = not (blank b)

-- the byte b, at p, put in front of the first word
abbrev pub longer : ℕ → ℕ → List Lexeme → List Lexeme
longer b p [] = []
longer b p (word w q ∷ ts) = word (b ∷ w) p ∷ ts
longer b p (line_end q ∷ ts) = line_end q ∷ ts
longer b p (end q ∷ ts) = end q ∷ ts

-- the words, line feeds and end of the bytes from place p on
unfoldable pub lexemes : ℕ → List ℕ → List Lexeme
lexemes p [] = end p ∷ []
lexemes p (b ∷ bs) =
    cond (b == 10) (line_end p ∷ lexemes (p + 1) bs)
    (cond (b == 32) (lexemes (p + 1) bs)
    (cond (goes_on bs) (longer b p (lexemes (p + 1) bs)) (word (b ∷ []) p ∷ lexemes (p + 1) bs)))

-- a token, by the bytes that its word borrows
abbrev pub lexeme : Token → Lexeme
lexeme (Word w p) = word w.now p
lexeme (LineEnd p) = line_end p
lexeme (End p) = end p

-- those of a text from place p on
unfoldable pub lexemes_from : ℕ → List ℕ → List Lexeme
lexemes_from p text = lexemes p (drop p text)

-- what is not read yet
abbrev pub ahead : Words → List Lexeme
ahead s = lexemes s.at s.rest.now

-- one lexeme before the others; nothing stands behind the end
abbrev pub then : Lexeme → List Lexeme → List Lexeme
then (word w p) ts = word w p ∷ ts
then (line_end p) ts = line_end p ∷ ts
then (end p) ts = end p ∷ []

-- behind a line feed there is a place
abbrev pub PlaceBehind : Token → Type 0
PlaceBehind (Word w p) = Unit {0}
PlaceBehind (LineEnd p) = p + 1 < 2 ^ 64
PlaceBehind (End p) = Unit {0}
