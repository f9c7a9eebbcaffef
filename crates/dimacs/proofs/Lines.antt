-- Reading a rule's line, literal by literal.
use Rattle.std.proofs.Common.{◌≡◌, ℕ, List, [], ◌∷◌, ℤ, Ok, Option, Result, ap}
use Rattle.faults.specs.declared.TextFault.{TextFault}
use Rattle.texts.specs.Lexemes.{Lexeme, word, line_end, end}
use Rattle.texts.specs.Due.{and_then, one, word_due}
use Rattle.texts.proofs.Dues.{from_ok}
use Rattle.dimacs.specs.Cnf.{then_literals, literals}

-- what follows the judgement of one lexeme of a rule's line
abbrev pub onward : ℕ → List Lexeme → Result (Option ℤ) TextFault → Result (List ℤ × List Lexeme) TextFault
onward V ts r = and_then r (λ o. then_literals o ts (literals V ts))

-- a word that was read stands in front
pub word_is : (ts us : List Lexeme) (w : List ℕ) (p : ℕ) → one word_due ts ≡ Ok ((w, p), us) → ts ≡ word w p ∷ us
word_is [] us w p e = cc
word_is (word v q ∷ ts) us w p e = ap (λ (r : Result ((List ℕ × ℕ) × List Lexeme) TextFault). let x = from_ok ((w, p), us) r in word x.0.0 x.0.1 ∷ x.1) e
word_is (line_end q ∷ ts) us w p e = cc
word_is (end q ∷ ts) us w p e = cc
