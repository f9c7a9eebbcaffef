-- The fault of a clause text stands at one of its words, line feeds or its end.
use Rattle.std.proofs.Common.{◌≡◌, ℕ, zero, suc, ◌≤◌, Bool, true, false, cond, eqb, List, [], ◌∷◌, length, get_or, drop, ℤ, negsuc, Some, None, Ok, Err, codes, Option, Result, sym, refl, ap, ◌∙◌, subst, inl, inr}
use Rattle.faults.specs.declared.TextFault.{TextFault}
use Rattle.faults.specs.declared.TextFault.TheVariants.{Shape}
use Rattle.texts.specs.Lexemes.{Lexeme, word, line_end, end, lexemes_from}
use Rattle.texts.specs.Due.{leaving, and_then, one, limited, number, line_end_due, exactly, ended}
use Rattle.texts.specs.Places.{fault_place, Stands}
use Rattle.texts.proofs.Places.{Closed, closed_text, Placed, FailsAt, placed_then, fails_then, fails_kept, placed_one, placed_behind, placed_kept, all_left, Judge, word_judge, limited_at, shape_at, never, at_then, number_judge, exactly_judge, line_end_judge, ended_fails}
use Rattle.texts.proofs.Spellings.{short_ok}
use Rattle.dimacs.specs.Literals.{greatest, plain, minus, negated, literal}
use Rattle.dimacs.specs.Cnf.{opening, heading, then_literals, literals, rule, body, Cnf, cnf, read_cnf}

minus_at : (p n : ℕ) (e : TextFault) → minus p n ≡ Err e → p ≡ fault_place e
minus_at p zero e q = shape_at p e q
minus_at p (suc k) e q = absurd (never e (Some (negsuc k)) (sym q))

word_at : (V : ℕ) (w : List ℕ) (p : ℕ) (b : Bool) (e : TextFault) → cond b (negated V (drop 1 w) p) (and_then (limited 0 (greatest V) w p) (λ n. Ok (plain n))) ≡ Err e → p ≡ fault_place e
word_at V w p true e q = at_then p (limited 0 (greatest V) (drop 1 w) p) (minus p) e (limited_at 0 (greatest V) (drop 1 w) p) (λ n. minus_at p n e) q
word_at V w p false e q = at_then p (limited 0 (greatest V) w p) (λ n. Ok (plain n)) e (limited_at 0 (greatest V) w p) (λ n x. absurd (never e (plain n) (sym x))) q

literal_judge : (V : ℕ) → Judge (literal V)
literal_judge V = word_judge (literal V) (λ w p e q. word_at V w p (eqb (get_or w 0 0) 45) e q) (λ p. refl) (λ p. refl)

opening_placed : (c : Bool) (ts : List Lexeme) → Closed ts → Placed ts (opening c ts)
opening_placed false [] h = absurd h
opening_placed true [] h = absurd h
opening_placed true (word w p ∷ ts) h = placed_behind (word w p) ts (opening true ts) (opening_placed true ts h)
opening_placed true (line_end p ∷ ts) h = placed_behind (line_end p) ts (opening false ts) (opening_placed false ts h)
opening_placed true (end p ∷ ts) h = inl refl
opening_placed false (word w p ∷ ts) h = go (eqb (get_or w 0 0) 99) (opening_placed true ts h)
  where
    go : (b : Bool) → Placed ts (opening true ts) → Placed (word w p ∷ ts) (cond b (opening true ts) (leaving (exactly (codes "p") (word w p)) ts))
    go true k = placed_behind (word w p) ts (opening true ts) k
    go false k = placed_one (exactly (codes "p")) (exactly_judge (codes "p")) (word w p ∷ ts) h
opening_placed false (line_end p ∷ ts) h = inl refl
opening_placed false (end p ∷ ts) h = inl refl

module _ (V : ℕ) where
  line_by : (t : Lexeme) (ts : List Lexeme) (o : Option ℤ) → Closed ts → Placed ts (literals V ts) → Placed (t ∷ ts) (then_literals o ts (literals V ts))
  line_by t ts None h k = ((λ p s. inr s), h)
  line_by t ts (Some l) h k = placed_behind t ts _ (placed_kept ts (literals V ts) (λ ls. l ∷ ls) k)

  line_placed : (ts : List Lexeme) → Closed ts → Placed ts (literals V ts)
  line_placed [] h = absurd h
  line_placed (t ∷ ts) h = go t (literal V t) refl h (line_placed ts)
    where
      go : (t : Lexeme) (r : Result (Option ℤ) TextFault) → literal V t ≡ r → Closed (t ∷ ts) → (Closed ts → Placed ts (literals V ts)) → Placed (t ∷ ts) (and_then r (λ o. then_literals o ts (literals V ts)))
      go (word w p) (Ok o) e h k = line_by (word w p) ts o h (k h)
      go (line_end p) (Ok o) e h k = absurd (never (Shape p) o e)
      go (end p) (Ok o) e h k = absurd (never (Shape p) o e)
      go t (Err x) e h k = inl ((literal_judge V).at t x e)

  rule_placed : (ts : List Lexeme) → Closed ts → Placed ts (rule V ts)
  rule_placed ts h =
      placed_then ts (literals V ts) _ (line_placed ts h) (λ a k.
      placed_then a.1 (one line_end_due a.1) _ (placed_one line_end_due line_end_judge a.1 k) (λ f l. all_left f.1 l))

  body_fails : (n b : ℕ) (ts : List Lexeme) → Closed ts → FailsAt ts (body V n b ts)
  body_fails zero b ts h = fails_kept ts (ended b ts) (λ _. []) (ended_fails b ts h)
  body_fails (suc n) b ts h =
      fails_then ts (rule V ts) _ (rule_placed ts h) (λ a k. fails_kept a.1 (body V n a.0.1 a.1) (λ rs. a.0.0 ∷ rs) (body_fails n a.0.1 a.1 k))

heading_placed : (ts : List Lexeme) → Closed ts → Placed ts (heading ts)
heading_placed ts h =
    placed_then ts (opening false ts) _ (opening_placed false ts h) (λ a h₁.
    placed_then a.1 (one (exactly (codes "cnf")) a.1) _ (placed_one (exactly (codes "cnf")) (exactly_judge (codes "cnf")) a.1 h₁) (λ b h₂.
    placed_then b.1 (one (number 1 64) b.1) _ (placed_one (number 1 64) (number_judge 1 64) b.1 h₂) (λ v h₃.
    placed_then v.1 (one (number 0 4096) v.1) _ (placed_one (number 0 4096) (number_judge 0 4096) v.1 h₃) (λ n h₄.
    placed_then n.1 (one line_end_due n.1) _ (placed_one line_end_due line_end_judge n.1 h₄) (λ f h₅. all_left f.1 h₅)))))

cnf_fails : (ts : List Lexeme) → Closed ts → FailsAt ts (cnf ts)
cnf_fails ts h =
    fails_then ts (heading ts) _ (heading_placed ts h) (λ a k. fails_kept a.1 (body a.0.0 a.0.1 a.0.2 a.1) (λ rs. record { vars = a.0.0; rules = rs }) (body_fails a.0.0 a.0.1 a.0.2 a.1 k))

pub refused_at : (text : List ℕ) (f : TextFault) → length text ≤ 60000 → read_cnf text ≡ Err f → Stands (fault_place f) (lexemes_from 0 text)
refused_at text f short e =
    let ts = lexemes_from 0 text in
    subst (λ r. FailsAt {A = Cnf} ts r) (sym (ap (λ r. and_then r (λ _. cnf ts)) (short_ok text short)) ∙ e) (cnf_fails ts (closed_text text))
