-- What is due next in a text. A reading takes lexemes and gives a value with those that are left, or the fault of the first that fails.
use Rattle.std.specs.Prelude.{ℕ, ◌+◌, cond, ◌&&◌, List, [], ◌∷◌, length, Ok, Err, Result, ◌==◌, nat_le, nat_lt}
use Rattle.std.specs.Str.Parse.{digits_value}
use Rattle.std.specs.Str.{bytes_eq}
use Rattle.faults.specs.declared.TextFault.{TextFault}
use Rattle.faults.specs.declared.TextFault.TheVariants.{Shape, Limit}
use Rattle.texts.specs.Lexemes.{Lexeme, word, line_end, end}
use Rattle.texts.specs.Numerals.{numeral}

-- a text has at most 60,000 bytes
abbrev pub length_due : List ℕ → Result (Unit {0}) TextFault
length_due text = cond (nat_lt 60000 (length text)) (Err (Limit 60000)) (Ok tt)

-- a value with the lexemes left behind it
abbrev pub leaving : {A : Type 0} → Result A TextFault → List Lexeme → Result (A × List Lexeme) TextFault
leaving (Ok v) ts = Ok (v, ts)
leaving (Err e) ts = Err e

-- one reading after another
abbrev pub and_then : {A B : Type 0} → Result A TextFault → (A → Result B TextFault) → Result B TextFault
and_then (Ok v) f = f v
and_then (Err e) f = Err e

-- the next lexeme, judged by f
abbrev pub one : {A : Type 0} → (Lexeme → Result A TextFault) → List Lexeme → Result (A × List Lexeme) TextFault
one f [] = Err (Shape 0)
one f (t ∷ ts) = leaving (f t) ts

-- the number of the word w at p, from low to high
abbrev pub limited : ℕ → ℕ → List ℕ → ℕ → Result ℕ TextFault
limited low high w p = cond (numeral w) (cond (nat_le low (digits_value 10 w) && nat_le (digits_value 10 w) high) (Ok (digits_value 10 w)) (Err (Limit p))) (Err (Shape p))

-- a word, and its place
abbrev pub word_due : Lexeme → Result (List ℕ × ℕ) TextFault
word_due (word w p) = Ok (w, p)
word_due (line_end p) = Err (Shape p)
word_due (end p) = Err (Shape p)

-- a number from low to high
abbrev pub number : ℕ → ℕ → Lexeme → Result ℕ TextFault
number low high (word w p) = limited low high w p
number low high (line_end p) = Err (Shape p)
number low high (end p) = Err (Shape p)

-- the end of a line, and the place behind it
abbrev pub line_end_due : Lexeme → Result ℕ TextFault
line_end_due (word w p) = Err (Shape p)
line_end_due (line_end p) = Ok (p + 1)
line_end_due (end p) = Err (Shape p)

-- the word w at p, which is to be the word due
abbrev pub exact : List ℕ → List ℕ → ℕ → Result (Unit {0}) TextFault
exact due w p = cond (bytes_eq w due) (Ok tt) (Err (Shape p))

abbrev pub exactly : List ℕ → Lexeme → Result (Unit {0}) TextFault
exactly due (word w p) = exact due w p
exactly due (line_end p) = Err (Shape p)
exactly due (end p) = Err (Shape p)

-- the end of the text, right at a place
abbrev pub end_due : ℕ → Lexeme → Result (Unit {0}) TextFault
end_due behind (word w p) = Err (Shape p)
end_due behind (line_end p) = Err (Shape p)
end_due behind (end p) = cond (p == behind) (Ok tt) (Err (Shape p))

abbrev pub ended : ℕ → List Lexeme → Result (Unit {0}) TextFault
ended behind [] = Err (Shape 0)
ended behind (t ∷ ts) = end_due behind t
