-- Clause texts by their lines and words: comment lines, then `p cnf V C`, then the literals of each rule with a closing 0.
use Rattle.std.specs.Prelude.{◌≡◌, ℕ, ◌≤◌, true, List, [], ◌∷◌, ◌++◌, map, length, ℤ, Ok, Err, codes, decimal, slice_index}
use Rattle.std.specs.Fmt.{signed_decimal}
use Rattle.std.specs.List.{AllByRecursion}
use Rattle.faults.specs.declared.TextFault.{TextFault}
use Rattle.literals.specs.Literals.{names}
use Rattle.texts.specs.Lexemes.{Lexeme, lexemes_from}
use Rattle.texts.specs.Places.{fault_place, Stands}
use Rattle.texts.specs.Lines.{Lines, Ends}
use Rattle.dimacs.specs.Cnf.{Cnf, read_cnf}

-- a comment's first word begins with c
abbrev pub Comment : List (List ℕ) → Type 0
Comment [] = ⊥
Comment (w ∷ ws) = slice_index w 0 ≡ 99

abbrev pub heading_words : ℕ → ℕ → List (List ℕ)
heading_words V C = codes "p" ∷ codes "cnf" ∷ decimal V ∷ decimal C ∷ []

abbrev pub rule_words : List ℤ → List (List ℕ)
rule_words ls = map signed_decimal ls ++ (codes "0" ∷ [])

-- the lines of a clause text behind its comments
abbrev pub cnf_lines : Cnf → List (List (List ℕ))
cnf_lines c = heading_words c.vars (length c.rules) ∷ map rule_words c.rules

-- from 1 to 64 variables, at most 4,096 rules, and each literal is k or −k for one of the variables
pub record WellFormed (c : Cnf) : Type 0 where
  pub some_variable : 1 ≤ c.vars
  pub few_variables : c.vars ≤ 64
  pub few_rules : length c.rules ≤ 4096
  pub named : AllByRecursion (AllByRecursion (λ l. names c.vars l ≡ true)) c.rules

-- what c says, spelled by a text of at most 60,000 bytes: its lines, word by word, right up to the end of the text
pub record Spelled (text : List ℕ) (c : Cnf) : Type 0 where
  pub short : length text ≤ 60000
  pub well_formed : WellFormed c
  pub comments : List (List (List ℕ))
  pub comments_begin_with_c : AllByRecursion Comment comments
  pub behind : ℕ
  pub rest : List Lexeme
  pub lines : Lines (comments ++ cnf_lines c) 0 (lexemes_from 0 text) behind rest
  pub ends_behind : Ends behind rest

-- a text reads as c just when it spells c, and the fault of any other that is not too long stands at one of its words, line feeds or its end
pub record ReadsJust (text : List ℕ) : Type 0 where
  pub sound : (c : Cnf) → read_cnf text ≡ Ok c → Spelled text c
  pub complete : (c : Cnf) → Spelled text c → read_cnf text ≡ Ok c
  pub refused : (f : TextFault) → length text ≤ 60000 → read_cnf text ≡ Err f → Stands (fault_place f) (lexemes_from 0 text)
