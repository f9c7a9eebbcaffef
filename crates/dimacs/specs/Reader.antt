-- What the readers give, in terms of what a clause text says.
use Rattle.std.specs.Prelude.{ℕ, List, map, Ok, Err, fold, Result}
use Rattle.faults.specs.declared.TextFault.{TextFault}
use Rattle.literals.specs.declared.LiteralSet.{LiteralSet}
use Rattle.literals.specs.Literals.{no_literals, with_literal, set_of}
use Rattle.texts.specs.Lexemes.{Lexeme, ahead}
use Rattle.texts.specs.Due.{and_then}
use Rattle.dimacs.specs.declared.Rules.{Rules}
use Rattle.dimacs.specs.Cnf.{Heading, literals, rule, body}

-- what a reader of rules knows of the heading, and has yet to read
abbrev pub headed : Result Rules TextFault → Result (Heading × List Lexeme) TextFault
headed (Ok r) = Ok ((r.vars, r.count, r.behind), ahead r.words)
headed (Err e) = Err e

-- the literals up to the closing 0, put into the set s
abbrev pub set_line_from : ℕ → LiteralSet → List Lexeme → Result (LiteralSet × List Lexeme) TextFault
set_line_from V s ts = and_then (literals V ts) (λ a. Ok (fold with_literal s a.0, a.1))

abbrev pub set_line : ℕ → List Lexeme → Result (LiteralSet × List Lexeme) TextFault
set_line V ts = set_line_from V no_literals ts

-- one rule's line as a set of literals
abbrev pub rule_set : ℕ → List Lexeme → Result ((LiteralSet × ℕ) × List Lexeme) TextFault
rule_set V ts = and_then (rule V ts) (λ a. Ok ((set_of a.0.0, a.0.1), a.1))

-- n rules' lines and then the end, each rule as the set of its literals
abbrev pub set_body : ℕ → ℕ → ℕ → List Lexeme → Result (List LiteralSet) TextFault
set_body V n behind ts = and_then (body V n behind ts) (λ rs. Ok (map set_of rs))

-- what a reader of rules gives that reads n of them, and then the end
abbrev pub sets_ahead : ℕ → Rules → Result (List LiteralSet) TextFault
sets_ahead n r = set_body r.vars n r.behind (ahead r.words)

-- a rule that was given, and where the reader stands then
abbrev pub gave : Result LiteralSet TextFault → Rules → Result ((LiteralSet × ℕ) × List Lexeme) TextFault
gave (Ok c) s = Ok ((c, s.behind), ahead s.words)
gave (Err e) s = Err e
