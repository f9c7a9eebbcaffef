-- A text is at least as long as what its lines spell.
use Rattle.std.proofs.Common.{◌≡◌, ℕ, ◌+◌, ◌≤◌, Bool, true, false, cond, ◌||◌, eqb, List, [], ◌∷◌, ◌++◌, map, length, ℤ, codes, decimal, refl, ap, ◌∙◌, arith, length-append}
use lib.ListN.{length-map}
use Rattle.std.specs.Fmt.{signed_decimal}
use Rattle.std.proofs.lemmas.Bool.{not-false, both_ways}
use Rattle.literals.specs.Literals.{set_of, listed}
use Rattle.texts.specs.Lexemes.{Lexeme, word, line_end, end, blank, goes_on, longer, lexemes, lexemes_from}
use Rattle.dimacs.specs.Cnf.{Cnf}
use Rattle.texts.specs.Lines.{Words, Lines}
use Rattle.dimacs.specs.Grammar.{rule_words, cnf_lines, Spelled}
use Rattle.dimacs_write.specs.Texts.{literal_text, rule_text, set_text, set_texts}
use Rattle.dimacs_write.proofs.Sets.{weight, once_lighter}

-- the byte that parts a word from what follows it; none is wanted before the end
abbrev gap : List Lexeme → ℕ
gap [] = 0
gap (word w p ∷ ts) = 1
gap (line_end p ∷ ts) = 1
gap (end p ∷ ts) = 0

-- how many bytes these words and the bytes behind them take at least
abbrev cost : List Lexeme → ℕ
cost [] = 0
cost (word w p ∷ ts) = length w + gap ts + cost ts
cost (line_end p ∷ ts) = cost ts
cost (end p ∷ ts) = 0

small_gap : (ts : List Lexeme) → gap ts ≤ 1
small_gap [] = omega arith
small_gap (word w p ∷ ts) = omega arith
small_gap (line_end p ∷ ts) = omega arith
small_gap (end p ∷ ts) = omega arith

longer_cost : (b p : ℕ) (ts : List Lexeme) → cost (longer b p ts) ≤ 1 + cost ts
longer_cost b p [] = omega arith
longer_cost b p (word w q ∷ ts) = omega arith
longer_cost b p (line_end q ∷ ts) = omega arith
longer_cost b p (end q ∷ ts) = omega arith

-- behind a word there is a blank: its byte is the gap
behind_blank : (p n : ℕ) (feed space : Bool) (ts us : List Lexeme) → cost ts ≤ n → (space || feed) ≡ true → gap (cond feed (line_end p ∷ ts) (cond space ts us)) + cost (cond feed (line_end p ∷ ts) (cond space ts us)) ≤ n + 1
behind_blank p n true space ts us h e = omega arith
behind_blank p n false true ts us h e = let g = small_gap ts in omega arith
behind_blank p n false false ts us h e = absurd (both_ways false refl e)

-- one byte more, by what it is and whether the word goes on
one_byte : (b p n : ℕ) (feed space on : Bool) (ts : List Lexeme) → cost ts ≤ n → (on ≡ false → gap ts + cost ts ≤ n) → cost (cond feed (line_end p ∷ ts) (cond space ts (cond on (longer b p ts) (word (b ∷ []) p ∷ ts)))) ≤ n + 1
one_byte b p n true space on ts h k = omega arith
one_byte b p n false true on ts h k = omega arith
one_byte b p n false false true ts h k = let g = longer_cost b p ts in omega arith
one_byte b p n false false false ts h k = let g = k refl in omega arith

cost_lexemes : (p : ℕ) (bs : List ℕ) → cost (lexemes p bs) ≤ length bs
unfolding lexemes
cost_lexemes p [] = omega arith
cost_lexemes p (b ∷ []) = one_byte b p 0 (eqb b 10) (eqb b 32) false (end (p + 1) ∷ []) (omega arith) (λ e. omega arith)
cost_lexemes p (b ∷ c ∷ cs) =
    let fits = one_byte b p (length (c ∷ cs)) (eqb b 10) (eqb b 32) (goes_on (c ∷ cs)) (lexemes (p + 1) (c ∷ cs)) (cost_lexemes (p + 1) (c ∷ cs))
    (λ e. let q = behind_blank (p + 1) (length cs) (eqb c 10) (eqb c 32) (lexemes (p + 1 + 1) cs) (cond (goes_on cs) (longer c (p + 1) (lexemes (p + 1 + 1) cs)) (word (c ∷ []) (p + 1) ∷ lexemes (p + 1 + 1) cs)) (cost_lexemes (p + 1 + 1) cs) (not-false (blank c) e) in omega (arith, q)) in
    omega (arith, fits)

-- the bytes of words, each with one byte behind it
abbrev words_length : List (List ℕ) → ℕ
words_length [] = 0
words_length (w ∷ ws) = length w + 1 + words_length ws

abbrev lines_length : List (List (List ℕ)) → ℕ
lines_length [] = 0
lines_length (ws ∷ lines) = words_length ws + lines_length lines

parted : (ws : List (List ℕ)) (q : ℕ) (ts us : List Lexeme) → Words ws ts (line_end q ∷ us) → gap ts ≡ 1
parted [] q ts us h = ap gap h
parted (w ∷ ws) q ts us h = ap gap h.2

words_cost : (ws : List (List ℕ)) (q : ℕ) (ts us : List Lexeme) → Words ws ts (line_end q ∷ us) → words_length ws + cost us ≤ cost ts
words_cost [] q ts us h = let e : cost ts ≡ cost us = ap cost h in omega arith
words_cost (w ∷ ws) q ts us h =
    let e : cost ts ≡ length w + gap h.1 + cost h.1 = ap cost h.2 in
    let g = parted ws q h.1 us h.3 in
    let more = words_cost ws q h.1 us h.3 in
    omega arith

lines_cost : (lines : List (List (List ℕ))) (a b : ℕ) (ts rest : List Lexeme) → Lines lines a ts b rest → lines_length lines ≤ cost ts
lines_cost [] a b ts rest h = omega arith
lines_cost (ws ∷ lines) a b ts rest h =
    let one = words_cost ws h.0 ts h.1 h.2 in
    let more = lines_cost lines (h.0 + 1) b h.1 rest h.3 in
    omega arith

lines_append : (xs ys : List (List (List ℕ))) → lines_length ys ≤ lines_length (xs ++ ys)
lines_append [] ys = omega arith
lines_append (x ∷ xs) ys = let more = lines_append xs ys in omega arith

-- what is written takes just the bytes of its words
words_text : (ls : List ℤ) → words_length (rule_words ls) ≡ weight ls + 2
words_text [] = refl
words_text (l ∷ ls) = let more = words_text ls in omega arith

rule_length : (ls : List ℤ) → length (rule_text ls) ≡ weight ls + 2
rule_length [] = refl
rule_length (l ∷ ls) =
    let a = length-append (literal_text l) (rule_text ls) in
    let b = length-append (signed_decimal l) (32 ∷ []) in
    let more = rule_length ls in
    omega arith

lighter_rules : (V : ℕ) (rs : List (List ℤ)) → length (set_texts V (map set_of rs)) ≤ lines_length (map rule_words rs)
lighter_rules V [] = omega arith
lighter_rules V (r ∷ rs) =
    let a = length-append (rule_text (listed V (set_of r))) (set_texts V (map set_of rs)) in
    let b = rule_length (listed V (set_of r)) in
    let d = words_text r in
    let lighter = once_lighter V r in
    let more = lighter_rules V rs in
    omega arith

text_length : (V n : ℕ) (R : List ℕ) → length (codes "p cnf " ++ (decimal V ++ (32 ∷ (decimal n ++ (10 ∷ R))))) ≡ 8 + (length (decimal V) + length (decimal n)) + length R
text_length V n R =
    let a = length-append (decimal V) (32 ∷ (decimal n ++ (10 ∷ R))) in
    let b = length-append (decimal n) (10 ∷ R) in
    omega arith

lighter : (c : Cnf) → length (set_text c.vars (map set_of c.rules)) ≤ lines_length (cnf_lines c)
lighter c =
    let V = c.vars in
    let rs = c.rules in
    let sets = map set_of rs in
    let count : length (map (listed V) sets) ≡ length rs = length-map sets (listed V) ∙ length-map rs set_of in
    let digits = ap (λ n. length (decimal n)) count in
    let whole = text_length V (length (map (listed V) sets)) (set_texts V sets) in
    let rules = lighter_rules V rs in
    omega arith

-- the rules of a text are written in no more bytes than it has
pub no_longer : (text : List ℕ) (c : Cnf) → Spelled text c → length (set_text c.vars (map set_of c.rules)) ≤ length text
unfolding lexemes_from
no_longer text c s =
    let a = lighter c in
    let b = lines_append s.comments (cnf_lines c) in
    let d = lines_cost (s.comments ++ cnf_lines c) 0 s.behind (lexemes 0 text) s.rest s.lines in
    let e = cost_lexemes 0 text in
    omega arith
