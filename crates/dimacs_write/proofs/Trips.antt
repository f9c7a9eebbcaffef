-- A text that is written spells what was written.
use Rattle.std.proofs.Common.{◌≡◌, ℕ, zero, suc, ◌+◌, ◌<◌, ◌≤◌, false, List, [], ◌∷◌, ◌++◌, map, length, ℤ, pos, negsuc, Ok, codes, decimal, refl, ap, ◌∙◌, append_assoc, arith}
use Rattle.std.specs.Fmt.{signed_decimal}
use Rattle.std.specs.List.{AllByRecursion as All}
use Rattle.std.proofs.lemmas.Fmt.{decimal_nonempty}
use Rattle.std.proofs.lemmas.Bool.{ltb-true, both_ways}
use Rattle.texts.specs.Lexemes.{word, line_end, end, lexemes, lexemes_from}
use Rattle.texts.proofs.Cuts.{Solid, a_word}
use Rattle.texts.proofs.Spellings.{solid_decimal}
use Rattle.dimacs.specs.Cnf.{Cnf, read_cnf}
use Rattle.texts.specs.Lines.{Words, Lines}
use Rattle.dimacs.specs.Grammar.{heading_words, rule_words, WellFormed}
use Rattle.dimacs.proofs.Literals.{Named}
use Rattle.dimacs.proofs.Grammars.{reads_just}
use Rattle.dimacs_write.specs.Texts.{literal_text, rule_text, rules_text, cnf_text}

solid_literal : (V : ℕ) (l : ℤ) → V ≤ 64 → Named V l → (0 < length (signed_decimal l)) × Solid (signed_decimal l)
solid_literal V (pos zero) v h = absurd (both_ways false refl h)
solid_literal V (pos (suc k)) v h = let lt = ltb-true k V h in (decimal_nonempty (suc k) (omega arith), solid_decimal (suc k) (omega arith))
solid_literal V (negsuc k) v h = let lt = ltb-true k V h in (omega arith, (refl, solid_decimal (suc k) (omega arith)))

-- a word with a space behind it, and with a line feed
spaced : (w rest : List ℕ) (p : ℕ) → 0 < length w → Solid w → lexemes p (w ++ (32 ∷ rest)) ≡ word w p ∷ lexemes (p + length w + 1) rest
unfolding lexemes
spaced w rest p h s = a_word w (32 ∷ rest) p h s refl

fed : (w rest : List ℕ) (p : ℕ) → 0 < length w → Solid w → lexemes p (w ++ (10 ∷ rest)) ≡ word w p ∷ line_end (p + length w) ∷ lexemes (p + length w + 1) rest
unfolding lexemes
fed w rest p h s = a_word w (10 ∷ rest) p h s refl

module _ (V : ℕ) (v : V ≤ 64) where
  rule_line : (ls : List ℤ) (rest : List ℕ) (p : ℕ) → All (Named V) ls → (q : ℕ) × Words (rule_words ls) (lexemes p (rule_text ls ++ rest)) (line_end q ∷ lexemes (q + 1) rest)
  rule_line [] rest p h = (p + 1, (p, line_end (p + 1) ∷ lexemes (p + 1 + 1) rest, fed (codes "0") rest p (omega arith) (refl, tt), refl))
  rule_line (l ∷ ls) rest p h =
      let w = signed_decimal l in
      let s = solid_literal V l v h.0 in
      let split = append_assoc (literal_text l) (rule_text ls) rest ∙ append_assoc w (32 ∷ []) (rule_text ls ++ rest) in
      let more = rule_line ls rest (p + length w + 1) h.1 in
      (more.0, (p, lexemes (p + length w + 1) (rule_text ls ++ rest), ap (lexemes p) split ∙ spaced w (rule_text ls ++ rest) p s.0 s.1, more.1))

  rule_lines : (rs : List (List ℤ)) (p : ℕ) → All (All (Named V)) rs → (e : ℕ) × Lines (map rule_words rs) p (lexemes p (rules_text rs)) e (end e ∷ [])
  unfolding lexemes
  rule_lines [] p h = (p, (refl, refl))
  rule_lines (r ∷ rs) p h =
      let one = rule_line r (rules_text rs) p h.0 in
      let more = rule_lines rs (one.0 + 1) h.1 in
      (more.0, (one.0, lexemes (one.0 + 1) (rules_text rs), one.1, more.1))

-- the heading
head_lexemes : (bs : List ℕ) → lexemes_from 0 (codes "p cnf " ++ bs) ≡ word (codes "p") 0 ∷ word (codes "cnf") 2 ∷ lexemes 6 bs
unfolding lexemes lexemes_from
head_lexemes bs = refl

heading_line : (V C : ℕ) (rest : List ℕ) → V ≤ 64 → C ≤ 4096 → (q : ℕ) × Words (heading_words V C) (lexemes_from 0 (codes "p cnf " ++ (decimal V ++ (32 ∷ (decimal C ++ (10 ∷ rest)))))) (line_end q ∷ lexemes (q + 1) rest)
heading_line V C rest b c =
    let p = 6 + length (decimal V) + 1 in
    let bs = decimal C ++ (10 ∷ rest) in
    let q = p + length (decimal C) in (
      q,
      (
        0,
        word (codes "cnf") 2 ∷ lexemes 6 (decimal V ++ (32 ∷ bs)),
        head_lexemes (decimal V ++ (32 ∷ bs)),
        (
          2,
          lexemes 6 (decimal V ++ (32 ∷ bs)),
          refl,
          (
            6,
            lexemes p bs,
            spaced (decimal V) bs 6 (decimal_nonempty V (omega arith)) (solid_decimal V (omega arith)),
            (p, line_end q ∷ lexemes (q + 1) rest, fed (decimal C) rest p (decimal_nonempty C (omega arith)) (solid_decimal C (omega arith)), refl),
          ),
        ),
      ),
    )

-- the text of rules over V variables reads as those rules, unless it is too long for a text
pub reads_back : (c : Cnf) → WellFormed c → length (cnf_text c.vars c.rules) ≤ 60000 → read_cnf (cnf_text c.vars c.rules) ≡ Ok c
reads_back c good short =
    let V = c.vars in
    let head = heading_line V (length c.rules) (rules_text c.rules) good.few_variables good.few_rules in
    let body = rule_lines V good.few_variables c.rules (head.0 + 1) good.named in
    (reads_just (cnf_text V c.rules)).complete c (record {
      short = short;
      well_formed = good;
      comments = [];
      comments_begin_with_c = tt;
      behind = body.0;
      rest = end body.0 ∷ [];
      lines = (head.0, lexemes (head.0 + 1) (rules_text c.rules), head.1, body.1);
      ends_behind = refl;
    })
