-- The literals of a clause text: k and −k for a variable k from 1 to V, and the closing 0.
use Rattle.std.specs.Prelude.{ℕ, zero, suc, min, cond, List, drop, ℤ, pos, negsuc, Some, None, Ok, Err, Option, Result, ◌==◌, slice_index}
use Rattle.faults.specs.declared.TextFault.{TextFault}
use Rattle.faults.specs.declared.TextFault.TheVariants.{Shape}
use Rattle.texts.specs.Lexemes.{Lexeme, word, line_end, end}
use Rattle.texts.specs.Due.{and_then, limited}

-- the literal k for a number k that is not 0; a 0 closes the rule
abbrev pub plain : ℕ → Option ℤ
plain zero = None
plain (suc k) = Some (pos (suc k))

-- a minus stands only before a number that is not 0
abbrev pub minus : ℕ → ℕ → Result (Option ℤ) TextFault
minus p zero = Err (Shape p)
minus p (suc k) = Ok (Some (negsuc k))

-- the greatest variable of a literal, which is a signed 8-bit number
abbrev pub greatest : ℕ → ℕ
greatest V = min V 127

-- the word behind a minus
abbrev pub negated : ℕ → List ℕ → ℕ → Result (Option ℤ) TextFault
negated V w p = and_then (limited 0 (greatest V) w p) (minus p)

-- a word that is a literal, or the closing 0, which is none; 45 is the minus
abbrev pub signed : ℕ → List ℕ → ℕ → Result (Option ℤ) TextFault
signed V w p = cond (slice_index w 0 == 45) (negated V (drop 1 w) p) (and_then (limited 0 (greatest V) w p) (λ n. Ok (plain n)))

abbrev pub literal : ℕ → Lexeme → Result (Option ℤ) TextFault
literal V (word w p) = signed V w p
literal V (line_end p) = Err (Shape p)
literal V (end p) = Err (Shape p)
