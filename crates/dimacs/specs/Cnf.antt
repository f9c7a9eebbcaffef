-- Clause texts: comment lines, a heading `p cnf V C`, and C lines of literals that each close with 0.
use Rattle.std.specs.Prelude.{ℕ, zero, suc, Bool, true, false, cond, List, [], ◌∷◌, ℤ, Some, None, Ok, Err, codes, Option, Result, ◌==◌, slice_index}
use Rattle.faults.specs.declared.TextFault.{TextFault}
use Rattle.faults.specs.declared.TextFault.TheVariants.{Shape}
use Rattle.texts.specs.Lexemes.{Lexeme, word, line_end, end, lexemes_from}
use Rattle.texts.specs.Due.{length_due, leaving, and_then, one, number, line_end_due, exactly, ended}
use Rattle.dimacs.specs.Literals.{literal}

-- a line is a comment when its first word begins with c
abbrev pub comment : Lexeme → Bool
comment (word w p) = slice_index w 0 == 99
comment (line_end p) = false
comment (end p) = false

-- the word p behind comment lines; the Bool says whether we are inside such a line
abbrev pub opening : Bool → List Lexeme → Result (Unit {0} × List Lexeme) TextFault
opening c [] = Err (Shape 0)
opening false (t ∷ ts) = cond (comment t) (opening true ts) (leaving (exactly (codes "p") t) ts)
opening true (word w p ∷ ts) = opening true ts
opening true (line_end p ∷ ts) = opening false ts
opening true (end p ∷ ts) = Err (Shape p)

-- V, C and the place behind the heading
abbrev pub Heading : Type 0
Heading = ℕ × ℕ × ℕ

abbrev pub heading : List Lexeme → Result (Heading × List Lexeme) TextFault
heading ts =
    and_then (opening false ts) (λ a.
    and_then (one (exactly (codes "cnf")) a.1) (λ b.
    and_then (one (number 1 64) b.1) (λ v.
    and_then (one (number 0 4096) v.1) (λ n.
    and_then (one line_end_due n.1) (λ f.
    Ok ((v.0, n.0, f.0), f.1))))))

-- one literal and those that follow it, or the closing 0
abbrev pub then_literals : Option ℤ → List Lexeme → Result (List ℤ × List Lexeme) TextFault → Result (List ℤ × List Lexeme) TextFault
then_literals None ts r = Ok ([], ts)
then_literals (Some l) ts r = and_then r (λ a. Ok (l ∷ a.0, a.1))

-- the literals up to the closing 0
abbrev pub literals : ℕ → List Lexeme → Result (List ℤ × List Lexeme) TextFault
literals V [] = Err (Shape 0)
literals V (t ∷ ts) = and_then (literal V t) (λ o. then_literals o ts (literals V ts))

-- one rule's line, and the place behind it
abbrev pub rule : ℕ → List Lexeme → Result ((List ℤ × ℕ) × List Lexeme) TextFault
rule V ts = and_then (literals V ts) (λ a. and_then (one line_end_due a.1) (λ f. Ok ((a.0, f.0), f.1)))

-- n rules' lines, and then the end
abbrev pub body : ℕ → ℕ → ℕ → List Lexeme → Result (List (List ℤ)) TextFault
body V zero behind ts = and_then (ended behind ts) (λ _. Ok [])
body V (suc n) behind ts = and_then (rule V ts) (λ a. and_then (body V n a.0.1 a.1) (λ rs. Ok (a.0.0 ∷ rs)))

-- what a clause text says
pub record Cnf : Type 0 where
  pub vars : ℕ
  pub rules : List (List ℤ)

abbrev pub cnf : List Lexeme → Result Cnf TextFault
cnf ts =
    and_then (heading ts) (λ h.
    and_then (body h.0.0 h.0.1 h.0.2 h.1) (λ rs.
    Ok (record { vars = h.0.0; rules = rs })))

-- the reading of a clause text: one of more than 60,000 bytes is refused before all else
abbrev pub read_cnf : List ℕ → Result Cnf TextFault
read_cnf text = and_then (length_due text) (λ _. cnf (lexemes_from 0 text))
