-- What is written of a line, read again.
use Rattle.std.specs.Prelude.{◌≡◌, ℕ, ◌≤◌, false, List, [], ◌∷◌, ◌++◌, map, replicate, ℤ, pos, negsuc, codes, decimal, ◌==◌}
use Rattle.std.specs.Fmt.{signed_decimal}
use Rattle.std.specs.List.{AllByRecursion}
use Rattle.model.specs.declared.Side.{Side}
use Rattle.model.specs.declared.Side.TheVariants.{Make, Break}
use Rattle.scripts.specs.Lines.{lines_of}
use Rattle.scripts.specs.Words.{words_of}
use Rattle.scripts.specs.Forms.{nothing, call, terms, ActionForm, rule, assume, release, least, why, write}
use Rattle.scripts.specs.Grammar.{line_of}

-- a signed 8-bit number
abbrev pub InByte : ℤ → Type 0
InByte (pos n) = n ≤ 127
InByte (negsuc n) = n ≤ 127

-- literals of 8 bits, labels, numbers and lengths of 16
abbrev pub Within : ActionForm → Type 0
Within (rule ls) = AllByRecursion InByte ls
Within (assume l) = InByte l
Within (release label number) = (label ≤ 65535) × (number ≤ 65535)
Within (least n) = n ≤ 65535
Within (why n) = n ≤ 65535
Within (write n) = n ≤ 65535

-- the words that ask for it
abbrev pub side_word : Side → List ℕ
side_word Make = codes "make"
side_word Break = codes "break"

abbrev pub action_words : ActionForm → List (List ℕ)
action_words (rule ls) = codes "rule" ∷ map signed_decimal ls
action_words (assume l) = codes "assume" ∷ signed_decimal l ∷ []
action_words (release label number) = codes "release" ∷ decimal label ∷ decimal number ∷ []
action_words (least n) = codes "least" ∷ decimal n ∷ []
action_words (why n) = codes "why" ∷ decimal n ∷ []
action_words (write n) = codes "write" ∷ decimal n ∷ []

-- words on a line, with one space (32) between them
abbrev pub spaced : List (List ℕ) → List ℕ
spaced [] = []
spaced (w ∷ ws) = 32 ∷ (w ++ spaced ws)

abbrev pub line_text : List ℕ → List (List ℕ) → List ℕ
line_text w ws = w ++ spaced ws

abbrev pub spaces : ℕ → List ℕ
spaces k = replicate k 32

-- every call is asked for by the line that writes it, and a line that is blank, or a comment (35 is #), asks for nothing
pub record LinesLaw : Type 0 where
  pub calls_read_back : (side : Side) (a : ActionForm) → Within a → line_of (words_of (line_text (side_word side) (action_words a))) ≡ call side a
  pub terms_read_back : (n : ℕ) → n ≤ 65535 → line_of (words_of (line_text (codes "terms") (decimal n ∷ []))) ≡ terms n
  pub blank_is_nothing : (k : ℕ) → line_of (words_of (spaces k)) ≡ nothing
  pub comment_is_nothing : (k : ℕ) (bs : List ℕ) → line_of (words_of (spaces k ++ (35 ∷ bs))) ≡ nothing

-- a line has no line feed (10) inside
abbrev pub NoFeed : List ℕ → Type 0
NoFeed l = AllByRecursion (λ b. (b == 10) ≡ false) l

-- lines, each with its line feed
abbrev pub fed : List (List ℕ) → List ℕ
fed [] = []
fed (l ∷ ls) = l ++ (10 ∷ fed ls)

-- a script is cut into the lines that it was put together from, whether or not the last one, if it has a byte, ends with a line feed
pub record ScriptLaw : Type 0 where
  pub all_fed : (ls : List (List ℕ)) → AllByRecursion NoFeed ls → lines_of (fed ls) ≡ ls
  pub last_unfed : (ls : List (List ℕ)) (b : ℕ) (last : List ℕ) → AllByRecursion NoFeed ls → NoFeed (b ∷ last) → lines_of (fed ls ++ (b ∷ last)) ≡ ls ++ ((b ∷ last) ∷ [])
