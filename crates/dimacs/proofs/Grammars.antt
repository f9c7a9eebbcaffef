-- A text reads as what its lines spell, and as nothing else.
use Rattle.std.proofs.Common.{◌≡◌, ℕ, zero, suc, ◌+◌, ◌^◌, ◌<◌, ◌≤◌, Bool, true, false, cond, eqb, List, [], ◌∷◌, map, length, get_or, ℤ, Some, None, Ok, codes, Option, Result, sym, refl, ap, ◌∙◌, subst, arith}
use Rattle.std.specs.List.{AllByRecursion as All}
use Rattle.std.proofs.lemmas.Bool.{cond-true, eq-eqb, eqb-true}
use Rattle.faults.specs.declared.TextFault.{TextFault}
use Rattle.texts.specs.Lexemes.{Lexeme, word, line_end, end, lexemes_from}
use Rattle.texts.specs.Lines.{Words, Lines, Ends}
use Rattle.texts.specs.Due.{length_due, leaving, and_then, one, number, line_end_due, exactly, ended}
use Rattle.texts.proofs.Spellings.{lines_join, lines_split, given, ended_is, ended_ok, short_is, short_ok}
use Rattle.texts.proofs.Dues.{first_then, judged, number_is, exactly_is, line_end_is, number_ok}
use Rattle.dimacs.specs.Literals.{literal}
use Rattle.dimacs.specs.Cnf.{comment, opening, Heading, heading, then_literals, literals, rule, body, Cnf, cnf, read_cnf}
use Rattle.dimacs.specs.Grammar.{Comment, heading_words, rule_words, cnf_lines, Spelled, ReadsJust}
use Rattle.dimacs.proofs.Refusals.{refused_at}
use Rattle.dimacs.proofs.Lines.{onward}
use Rattle.dimacs.proofs.Literals.{Named, literal_is, literal_ok, zero_ok}

module _ (V : ℕ) (v : V < 2 ^ 64) where
  abbrev LineRead : List Lexeme → List ℤ × List Lexeme → Type 0
  LineRead ts a = All (Named V) a.0 × Words (rule_words a.0) ts a.1

  line_by : (t : Lexeme) (ts : List Lexeme) (o : Option ℤ) (a : List ℤ × List Lexeme) → ((b : List ℤ × List Lexeme) → literals V ts ≡ Ok b → LineRead ts b) → literal V t ≡ Ok o → then_literals o ts (literals V ts) ≡ Ok a → LineRead (t ∷ ts) a
  line_by t ts None a ih h e =
      let q = literal_is V t None v h in
      given (LineRead (t ∷ ts)) ([], ts) a e (tt, (q.0, ts, ap (λ x. x ∷ ts) q.1, refl))
  line_by t ts (Some l) a ih h e =
      let q = literal_is V t (Some l) v h in
      let r = first_then (literals V ts) (λ b. Ok (l ∷ b.0, b.1)) a e in
      let more = ih r.0 r.1 in
      given (LineRead (t ∷ ts)) (l ∷ r.0.0, r.0.1) a r.2 ((q.2, more.0), (q.0, ts, ap (λ x. x ∷ ts) q.1, more.1))

  line_is : (ts : List Lexeme) (a : List ℤ × List Lexeme) → literals V ts ≡ Ok a → LineRead ts a
  line_is [] a e = cc
  line_is (t ∷ ts) a e =
      let q = first_then (literal V t) _ a e in
      line_by t ts q.0 a (line_is ts) q.1 q.2

  abbrev RuleRead : List Lexeme → (List ℤ × ℕ) × List Lexeme → Type 0
  RuleRead ts a = All (Named V) a.0.0 × (q : ℕ) × Words (rule_words a.0.0) ts (line_end q ∷ a.1) × (q + 1 ≡ a.0.1)

  rule_is : (ts : List Lexeme) (a : (List ℤ × ℕ) × List Lexeme) → rule V ts ≡ Ok a → RuleRead ts a
  rule_is ts a e =
      let r = first_then (literals V ts) _ a e in
      let b = r.0 in
      let s = first_then (one line_end_due b.1) (λ f. Ok ((b.0, f.0), f.1)) a r.2 in
      let f = s.0 in
      let j = judged line_end_due b.1 f s.1 in
      let g = line_end_is j.0 f.0 j.2 in
      let line = line_is ts b r.1 in
      let after = j.1 ∙ ap (λ t. t ∷ f.1) g.1 in
      given (RuleRead ts) ((b.0, f.0), f.1) a s.2 (line.0, g.0, subst (Words (rule_words b.0) ts) after line.1, sym g.2)

  abbrev BodyRead : ℕ → ℕ → List Lexeme → List (List ℤ) → Type 0
  BodyRead n b ts rs = (length rs ≡ n) × All (All (Named V)) rs × (e : ℕ) × (rest : List Lexeme) × Lines (map rule_words rs) b ts e rest × Ends e rest

  pub body_is : (n b : ℕ) (ts : List Lexeme) (rs : List (List ℤ)) → body V n b ts ≡ Ok rs → BodyRead n b ts rs
  body_is zero b ts rs e =
      let r = first_then (ended b ts) (λ _. Ok []) rs e in
      given (BodyRead 0 b ts) [] rs r.2 (refl, tt, b, ts, (refl, refl), ended_is b ts r.0 r.1)
  body_is (suc n) b ts rs e =
      let r = first_then (rule V ts) _ rs e in
      let a = r.0 in
      let s = first_then (body V n a.0.1 a.1) (λ ss. Ok (a.0.0 ∷ ss)) rs r.2 in
      let one = rule_is ts a r.1 in
      let more = body_is n a.0.1 a.1 s.0 s.1 in
      given (BodyRead (suc n) b ts) (a.0.0 ∷ s.0) rs s.2 (
        ap suc more.0,
        (one.0, more.1),
        more.2,
        more.3,
        (one.1, a.1, one.2, subst (λ m. Lines (map rule_words s.0) m a.1 more.2 more.3) (sym one.3) more.4),
        more.5,
      )

-- comment lines and the word p
abbrev CommentsAndP : List Lexeme → List Lexeme → Type 0
CommentsAndP ts rest = (a : ℕ) → (cs : List (List (List ℕ))) × All Comment cs × (b : ℕ) × (p : ℕ) × Lines cs a ts b (word (codes "p") p ∷ rest)

abbrev Opened : Bool → List Lexeme → List Lexeme → Type 0
Opened false ts rest = CommentsAndP ts rest
Opened true ts rest = (ws : List (List ℕ)) × (q : ℕ) × (us : List Lexeme) × Words ws ts (line_end q ∷ us) × CommentsAndP us rest

opened_by : (t : Lexeme) (ts : List Lexeme) (c : Bool) (a : Unit {0} × List Lexeme) → (opening true ts ≡ Ok a → Opened true ts a.1) → comment t ≡ c → cond c (opening true ts) (leaving (exactly (codes "p") t) ts) ≡ Ok a → Opened false (t ∷ ts) a.1
opened_by (word w p) ts true a ih h e = λ n.
    let r = ih e in
    let more = r.4 (r.1 + 1) in
    ((w ∷ r.0) ∷ more.0, (eqb-true _ 99 h, more.1), more.2, more.3, (r.1, r.2, (p, ts, refl, r.3), more.4))
opened_by (line_end p) ts true a ih h e = cc
opened_by (end p) ts true a ih h e = cc
opened_by t ts false a ih h e = λ n.
    let j = judged (exactly (codes "p")) (t ∷ ts) a e in
    let g = exactly_is (codes "p") j.0 a.0 j.2 in
    ([], tt, n, g.0, (refl, j.1 ∙ ap (λ x. x ∷ a.1) g.1))

opened : (c : Bool) (ts : List Lexeme) (a : Unit {0} × List Lexeme) → opening c ts ≡ Ok a → Opened c ts a.1
opened false [] a e = cc
opened true [] a e = cc
opened false (t ∷ ts) a e = opened_by t ts (comment t) a (opened true ts a) refl e
opened true (word w p ∷ ts) a e = let r = opened true ts a e in (w ∷ r.0, r.1, r.2, (p, ts, refl, r.3), r.4)
opened true (line_end p ∷ ts) a e = ([], p, ts, refl, opened false ts a e)
opened true (end p ∷ ts) a e = cc

abbrev HeadingRead : List Lexeme → Heading × List Lexeme → Type 0
HeadingRead ts a =
    (cs : List (List (List ℕ))) × All Comment cs × (b : ℕ) × (us : List Lexeme) × Lines cs 0 ts b us × Lines (heading_words a.0.0 a.0.1 ∷ []) b us a.0.2 a.1
    × (1 ≤ a.0.0) × (a.0.0 ≤ 64) × (a.0.1 ≤ 4096)

heading_is : (ts : List Lexeme) (a : Heading × List Lexeme) → heading ts ≡ Ok a → HeadingRead ts a
heading_is ts a e =
    let r₁ = first_then (opening false ts) _ a e in
    let r₂ = first_then (one (exactly (codes "cnf")) r₁.0.1) _ a r₁.2 in
    let r₃ = first_then (one (number 1 64) r₂.0.1) _ a r₂.2 in
    let r₄ = first_then (one (number 0 4096) r₃.0.1) _ a r₃.2 in
    let r₅ = first_then (one line_end_due r₄.0.1) (λ f. Ok ((r₃.0.0, r₄.0.0, f.0), f.1)) a r₄.2 in
    let o = opened false ts r₁.0 r₁.1 0 in
    let j₂ = judged (exactly (codes "cnf")) r₁.0.1 r₂.0 r₂.1 in
    let g₂ = exactly_is (codes "cnf") j₂.0 r₂.0.0 j₂.2 in
    let j₃ = judged (number 1 64) r₂.0.1 r₃.0 r₃.1 in
    let g₃ = number_is 1 64 j₃.0 r₃.0.0 (omega arith) j₃.2 in
    let j₄ = judged (number 0 4096) r₃.0.1 r₄.0 r₄.1 in
    let g₄ = number_is 0 4096 j₄.0 r₄.0.0 (omega arith) j₄.2 in
    let j₅ = judged line_end_due r₄.0.1 r₅.0 r₅.1 in
    let g₅ = line_end_is j₅.0 r₅.0.0 j₅.2 in
    given (HeadingRead ts) ((r₃.0.0, r₄.0.0, r₅.0.0), r₅.0.1) a r₅.2 (
      o.0,
      o.1,
      o.2,
      word (codes "p") o.3 ∷ r₁.0.1,
      o.4,
      (
        g₅.0,
        r₅.0.1,
        (
          o.3,
          r₁.0.1,
          refl,
          (
            g₂.0,
            r₂.0.1,
            j₂.1 ∙ ap (λ x. x ∷ r₂.0.1) g₂.1,
            (
              g₃.0,
              r₃.0.1,
              j₃.1 ∙ ap (λ x. x ∷ r₃.0.1) g₃.1,
              (g₄.0, r₄.0.1, j₄.1 ∙ ap (λ x. x ∷ r₄.0.1) g₄.1, j₅.1 ∙ ap (λ x. x ∷ r₅.0.1) g₅.1),
            ),
          ),
        ),
        (sym g₅.2, refl),
      ),
      g₃.2,
      g₃.3,
      g₄.3,
    )

-- and the other way: lines that spell it are read as it
module _ (V : ℕ) (v : V ≤ 64) where
  line_ok : (ls : List ℤ) (ts rest : List Lexeme) → All (Named V) ls → Words (rule_words ls) ts rest → literals V ts ≡ Ok (ls, rest)
  line_ok [] ts rest h w = ap (literals V) w.2 ∙ ap (onward V w.1) (zero_ok V w.0) ∙ ap (λ r. Ok ([], r)) w.3
  line_ok (l ∷ ls) ts rest h w =
      ap (literals V) w.2
      ∙ ap (onward V w.1) (literal_ok V l w.0 v h.0)
      ∙ ap (λ r. and_then r (λ a. Ok (l ∷ a.0, a.1))) (line_ok ls w.1 rest h.1 w.3)

  rule_ok : (ls : List ℤ) (q : ℕ) (ts us : List Lexeme) → All (Named V) ls → Words (rule_words ls) ts (line_end q ∷ us) → rule V ts ≡ Ok ((ls, q + 1), us)
  rule_ok ls q ts us h w = ap (λ r. and_then r (λ a. and_then (one line_end_due a.1) (λ f. Ok ((a.0, f.0), f.1)))) (line_ok ls ts (line_end q ∷ us) h w)

  body_ok : (rs : List (List ℤ)) (a b : ℕ) (ts rest : List Lexeme) → All (All (Named V)) rs → Lines (map rule_words rs) a ts b rest → Ends b rest → body V (length rs) a ts ≡ Ok rs
  body_ok [] a b ts rest h l e =
      ap (λ n. and_then (ended n ts) (λ _. Ok [])) l.0 ∙ ap (λ us. and_then (ended b us) (λ _. Ok [])) l.1 ∙ ap (λ r. and_then r (λ _. Ok [])) (ended_ok b rest e)
  body_ok (r ∷ rs) a b ts rest h l e =
      ap (λ x. and_then x (λ y. and_then (body V (length rs) y.0.1 y.1) (λ ss. Ok (y.0.0 ∷ ss)))) (rule_ok r l.0 ts l.1 h.0 l.2)
      ∙ ap (λ x. and_then x (λ ss. Ok (r ∷ ss))) (body_ok rs (l.0 + 1) b l.1 rest h.1 l.3 e)

-- the words of a comment behind its first
inside_comment : (ws : List (List ℕ)) (q : ℕ) (ts us : List Lexeme) → Words ws ts (line_end q ∷ us) → opening true ts ≡ opening false us
inside_comment [] q ts us w = ap (opening true) w
inside_comment (x ∷ ws) q ts us w = ap (opening true) w.2 ∙ inside_comment ws q w.1 us w.3

opening_ok : (cs : List (List (List ℕ))) (a b p : ℕ) (ts rest : List Lexeme) → All Comment cs → Lines cs a ts b (word (codes "p") p ∷ rest) → opening false ts ≡ Ok (tt, rest)
opening_ok [] a b p ts rest h l = ap (opening false) l.1
opening_ok ([] ∷ cs) a b p ts rest h l = absurd h.0
opening_ok ((w ∷ ws) ∷ cs) a b p ts rest h l =
    let line = l.2 in
    ap (opening false) line.2
    ∙ cond-true (eqb (get_or w 0 0) 99) _ _ (eq-eqb _ 99 h.0)
    ∙ inside_comment ws l.0 line.1 l.1 line.3
    ∙ opening_ok cs (l.0 + 1) b p l.1 rest h.1 l.3

-- what follows the word p, the word cnf, V and C
abbrev behind_count : ℕ → ℕ × List Lexeme → Result (Heading × List Lexeme) TextFault
behind_count V n = and_then (one line_end_due n.1) (λ f. Ok ((V, n.0, f.0), f.1))

abbrev behind_vars : ℕ × List Lexeme → Result (Heading × List Lexeme) TextFault
behind_vars x = and_then (one (number 0 4096) x.1) (behind_count x.0)

abbrev behind_cnf : Unit {0} × List Lexeme → Result (Heading × List Lexeme) TextFault
behind_cnf b = and_then (one (number 1 64) b.1) behind_vars

abbrev behind_p : Unit {0} × List Lexeme → Result (Heading × List Lexeme) TextFault
behind_p a = and_then (one (exactly (codes "cnf")) a.1) behind_cnf

heading_ok : (cs : List (List (List ℕ))) (V C m b : ℕ) (ts us rest : List Lexeme) → All Comment cs → 1 ≤ V → V ≤ 64 → C ≤ 4096 → Lines cs 0 ts m us → Lines (heading_words V C ∷ []) m us b rest → heading ts ≡ Ok ((V, C, b), rest)
heading_ok cs V C m b ts us rest h v₁ v₂ c l k =
    let w₁ = k.2 in
    let w₂ = w₁.3 in
    let w₃ = w₂.3 in
    let w₄ = w₃.3 in
    let last = k.3 in
    let comments = subst (λ x. Lines cs 0 ts m x) w₁.2 l in
    ap (λ r. and_then r behind_p) (opening_ok cs 0 m w₁.0 ts w₁.1 h comments)
    ∙ ap (λ x. behind_p (tt, x)) w₂.2
    ∙ ap (λ x. behind_cnf (tt, x)) w₃.2
    ∙ ap (λ r. and_then (leaving r w₃.1) behind_vars) (number_ok 1 64 V w₃.0 (omega arith) v₁ v₂)
    ∙ ap (λ x. behind_vars (V, x)) w₄.2
    ∙ ap (λ r. and_then (leaving r w₄.1) (behind_count V)) (number_ok 0 4096 C w₄.0 (omega arith) (omega arith) c)
    ∙ ap (λ x. behind_count V (C, x)) w₄.3
    ∙ ap (λ x. Ok ((V, C, x), k.1)) last.0
    ∙ ap (λ x. Ok ((V, C, b), x)) last.1

abbrev then_body : Result (Heading × List Lexeme) TextFault → Result Cnf TextFault
then_body r = and_then r (λ h. and_then (body h.0.0 h.0.1 h.0.2 h.1) (λ rs. Ok (record { vars = h.0.0; rules = rs })))

module _ (text : List ℕ) where
  spelled_from : length text ≤ 60000 → (c : Cnf) → cnf (lexemes_from 0 text) ≡ Ok c → Spelled text c
  spelled_from short c e =
      let ts = lexemes_from 0 text in
      let r = first_then (heading ts) _ c e in
      let h = r.0 in
      let s = first_then (body h.0.0 h.0.1 h.0.2 h.1) (λ rs. Ok (record { vars = h.0.0; rules = rs })) c r.2 in
      let head = heading_is ts h r.1 in
      let rest = body_is h.0.0 (omega (arith, head.7)) h.0.1 h.0.2 h.1 s.0 s.1 in
      given (Spelled text) (record { vars = h.0.0; rules = s.0 }) c s.2 (record {
        short = short;
        well_formed = record { some_variable = head.6; few_variables = head.7; few_rules = omega (arith, rest.0, head.8); named = rest.1 };
        comments = head.0;
        comments_begin_with_c = head.1;
        behind = rest.2;
        rest = rest.3;
        lines = lines_join head.0 (cnf_lines (record { vars = h.0.0; rules = s.0 })) 0 head.2 rest.2 ts head.3 rest.3 head.4
            (subst (λ n. Lines (heading_words h.0.0 n ∷ map rule_words s.0) head.2 head.3 rest.2 rest.3) (sym rest.0)
            (lines_join (heading_words h.0.0 h.0.1 ∷ []) (map rule_words s.0) head.2 h.0.2 rest.2 head.3 h.1 rest.3 head.5 rest.4));
        ends_behind = rest.5;
      })

  sound : (c : Cnf) → read_cnf text ≡ Ok c → Spelled text c
  sound c e =
      let r = first_then (length_due text) (λ _. cnf (lexemes_from 0 text)) c e in
      spelled_from (short_is text r.0 r.1) c r.2

  complete : (c : Cnf) → Spelled text c → read_cnf text ≡ Ok c
  complete c s =
      let ts = lexemes_from 0 text in
      let V = c.vars in
      let C = length c.rules in
      let good = s.well_formed in
      let first = lines_split s.comments (cnf_lines c) 0 s.behind ts s.rest s.lines in
      let second = lines_split (heading_words V C ∷ []) (map rule_words c.rules) first.0 s.behind first.1 s.rest first.3 in
      ap (λ r. and_then r (λ _. cnf (lexemes_from 0 text))) (short_ok text s.short)
      ∙ ap then_body (heading_ok s.comments V C first.0 second.0 ts first.1 second.1 s.comments_begin_with_c good.some_variable good.few_variables good.few_rules first.2 second.2)
      ∙ ap (λ r. and_then r (λ rs. Ok (record { vars = V; rules = rs }))) (body_ok V good.few_variables c.rules second.0 s.behind second.1 s.rest good.named second.3 s.ends_behind)

  pub reads_just : ReadsJust text
  reads_just = record { sound = sound; complete = complete; refused = refused_at text }
