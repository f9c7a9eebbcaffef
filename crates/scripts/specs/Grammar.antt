-- What the lines of a script ask for.
use Rattle.std.specs.Prelude.{ℕ, Bool, false, cond, List, [], ◌∷◌, ℤ, pos, neg_ℤ, Some, None, codes, Option, ◌==◌}
use Rattle.std.specs.Option.{option_map}
use Rattle.std.specs.Result.{result_ok}
use Rattle.std.specs.Str.{bytes_eq}
use Rattle.texts.specs.Due.{limited}
use Rattle.model.specs.declared.Side.{Side}
use Rattle.model.specs.declared.Side.TheVariants.{Make, Break}
use Rattle.scripts.specs.declared.read.Verb.{Verb}
use Rattle.scripts.specs.declared.read.Verb.TheVariants.{Rule, Assume, Release, Least, Why, Write}
use Rattle.scripts.specs.Words.{only_word}
use Rattle.scripts.specs.Forms.{Form, nothing, bad, call, terms, ActionForm, rule, assume, release, least, why, write}

-- a label, the number of a ticket or a length: 0 to 65,535, in base ten without needless zeros
abbrev pub number_of : List ℕ → Option ℕ
number_of w = result_ok (limited 0 65535 w 0)

-- a literal: 0 to 127 in base ten without needless zeros, or 1 to 128 behind a minus (45)
abbrev pub positive_of : List ℕ → Option ℤ
positive_of w = option_map pos (result_ok (limited 0 127 w 0))

abbrev pub negative_of : List ℕ → Option ℤ
negative_of digits = option_map (λ n. neg_ℤ (pos n)) (result_ok (limited 1 128 digits 0))

abbrev pub literal_of : List ℕ → Option ℤ
literal_of [] = None
literal_of (b ∷ bs) = cond (b == 45) (negative_of bs) (positive_of (b ∷ bs))

-- one reading after another
abbrev pub and_then : {A B : Type 0} → Option A → (A → Option B) → Option B
and_then None f = None
and_then (Some x) f = f x

-- the words that say which sheet, and what is asked of it
abbrev pub side_of : List ℕ → Option Side
side_of w = cond (bytes_eq w (codes "make")) (Some Make) (cond (bytes_eq w (codes "break")) (Some Break) None)

abbrev pub verb_of : List ℕ → Option Verb
verb_of w =
    cond (bytes_eq w (codes "rule")) (Some Rule)
    (cond (bytes_eq w (codes "assume")) (Some Assume)
    (cond (bytes_eq w (codes "release")) (Some Release)
    (cond (bytes_eq w (codes "least")) (Some Least)
    (cond (bytes_eq w (codes "why")) (Some Why)
    (cond (bytes_eq w (codes "write")) (Some Write) None)))))

-- any count of literals
abbrev pub literals_of : List (List ℕ) → Option (List ℤ)
literals_of [] = Some []
literals_of (w ∷ ws) = and_then (literal_of w) (λ l. option_map (λ ls. l ∷ ls) (literals_of ws))

-- one literal; the label and the number of a ticket; a length, or d where none is named
abbrev pub assume_of : List (List ℕ) → Option ActionForm
assume_of ws = option_map assume (and_then (only_word ws) literal_of)

abbrev pub release_of : List (List ℕ) → Option ActionForm
release_of [] = None
release_of (w ∷ ws) = and_then (number_of w) (λ label. option_map (release label) (and_then (only_word ws) number_of))

abbrev pub length_or : ℕ → List (List ℕ) → Option ℕ
length_or d [] = Some d
length_or d (w ∷ ws) = and_then (only_word (w ∷ ws)) number_of

-- what is asked of a sheet, by the words behind its verb
abbrev pub action_of : Verb → List (List ℕ) → Option ActionForm
action_of Rule ws = option_map rule (literals_of ws)
action_of Assume ws = assume_of ws
action_of Release ws = release_of ws
action_of Least ws = option_map least (length_or 32 ws)
action_of Why ws = option_map why (length_or 32 ws)
action_of Write ws = option_map write (length_or 60000 ws)

-- a line of any other form is bad
abbrev pub or_bad : {A : Type 0} → (A → Form) → Option A → Form
or_bad f None = bad
or_bad f (Some x) = f x

-- what is asked of a sheet, by the words behind its name
abbrev pub call_of : Option Side → List (List ℕ) → Form
call_of None ws = bad
call_of (Some side) [] = bad
call_of (Some side) (v ∷ ws) = or_bad (call side) (and_then (verb_of v) (λ verb. action_of verb ws))

-- a comment begins with # (35)
abbrev pub comment : List ℕ → Bool
comment [] = false
comment (b ∷ bs) = b == 35

-- a line, by its words
abbrev pub line_of : List (List ℕ) → Form
line_of [] = nothing
line_of (w ∷ ws) = cond (comment w) nothing (cond (bytes_eq w (codes "terms")) (or_bad terms (length_or 64 ws)) (call_of (side_of w) ws))
