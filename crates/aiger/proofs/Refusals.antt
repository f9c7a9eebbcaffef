-- The fault of a gate text stands at one of its words, line feeds or its end.
use Rattle.std.proofs.Common.{◌≡◌, ℕ, zero, suc, ◌+◌, ◌-◌, ◌*◌, ◌≤◌, cond, eqb, List, [], ◌∷◌, length, Ok, Err, codes, sym, refl, ap, ◌∙◌, subst}
use Rattle.faults.specs.declared.TextFault.{TextFault}
use Rattle.faults.specs.declared.TextFault.TheVariants.{Limit}
use Rattle.texts.specs.Lexemes.{Lexeme, lexemes_from}
use Rattle.texts.specs.Due.{and_then, one, limited, number, line_end_due, exactly, ended}
use Rattle.texts.specs.Places.{fault_place, Stands}
use Rattle.texts.proofs.Places.{Closed, closed_text, Placed, FailsAt, placed_then, fails_then, fails_kept, placed_one, all_left, Judge, word_judge, limited_at, at_cond, at_then, never, number_judge, exactly_judge, line_end_judge, ended_fails}
use Rattle.texts.proofs.Spellings.{short_ok}
use Rattle.aiger.specs.Aag.{count_due, heading_line, due_line, input_lines, heading, gate_line, gate_lines, Aag, aag, read_aag}

count_judge : (M I : ℕ) → Judge (count_due M I)
count_judge M I =
    word_judge (count_due M I)
    (λ w p e q. at_then p (limited 0 2048 w p) (λ n. cond (eqb (I + n) M) (Ok n) (Err (Limit p))) e (limited_at 0 2048 w p) (λ n x. at_cond p (eqb (I + n) M) (Ok n) (Limit p) e refl (λ y. absurd (never e n (sym y))) x) q)
    (λ p. refl)
    (λ p. refl)

-- a number that is due, and what follows it
number_placed : (low high : ℕ) (ts : List Lexeme) → Closed ts → Placed ts (one (number low high) ts)
number_placed low high ts h = placed_one (number low high) (number_judge low high) ts h

feed_placed : (ts : List Lexeme) → Closed ts → Placed ts (one line_end_due ts)
feed_placed ts h = placed_one line_end_due line_end_judge ts h

heading_line_placed : (ts : List Lexeme) → Closed ts → Placed ts (heading_line ts)
heading_line_placed ts h =
    placed_then ts (one (exactly (codes "aag")) ts) _ (placed_one (exactly (codes "aag")) (exactly_judge (codes "aag")) ts h) (λ a h₁.
    placed_then a.1 (one (number 1 2080) a.1) _ (number_placed 1 2080 a.1 h₁) (λ m h₂.
    placed_then m.1 (one (number 1 32) m.1) _ (number_placed 1 32 m.1 h₂) (λ i h₃.
    placed_then i.1 (one (number 0 0) i.1) _ (number_placed 0 0 i.1 h₃) (λ l h₄.
    placed_then l.1 (one (number 1 1) l.1) _ (number_placed 1 1 l.1 h₄) (λ o h₅.
    placed_then o.1 (one (count_due m.0 i.0) o.1) _ (placed_one (count_due m.0 i.0) (count_judge m.0 i.0) o.1 h₅) (λ n h₆.
    placed_then n.1 (one line_end_due n.1) _ (feed_placed n.1 h₆) (λ f h₇. all_left f.1 h₇)))))))

due_line_placed : (due : ℕ) (ts : List Lexeme) → Closed ts → Placed ts (due_line due ts)
due_line_placed due ts h =
    placed_then ts (one (number due due) ts) _ (number_placed due due ts h) (λ a k.
    placed_then a.1 (one line_end_due a.1) _ (feed_placed a.1 k) (λ f l. all_left f.1 l))

inputs_placed : (n due : ℕ) (ts : List Lexeme) → Closed ts → Placed ts (input_lines n due ts)
inputs_placed zero due ts h = all_left ts h
inputs_placed (suc n) due ts h = placed_then ts (due_line due ts) _ (due_line_placed due ts h) (λ a k. inputs_placed n (due + 2) a.1 k)

heading_placed : (ts : List Lexeme) → Closed ts → Placed ts (heading ts)
heading_placed ts h =
    placed_then ts (heading_line ts) _ (heading_line_placed ts h) (λ a h₁.
    placed_then a.1 (input_lines a.0.0 2 a.1) _ (inputs_placed a.0.0 2 a.1 h₁) (λ i h₂.
    placed_then i.1 (one (number 0 (2 * (a.0.0 + a.0.1) + 1)) i.1) _ (number_placed 0 (2 * (a.0.0 + a.0.1) + 1) i.1 h₂) (λ o h₃.
    placed_then o.1 (one line_end_due o.1) _ (feed_placed o.1 h₃) (λ f h₄. all_left f.1 h₄))))

gate_placed : (due : ℕ) (ts : List Lexeme) → Closed ts → Placed ts (gate_line due ts)
gate_placed due ts h =
    placed_then ts (one (number due due) ts) _ (number_placed due due ts h) (λ d h₁.
    placed_then d.1 (one (number 0 (due - 1)) d.1) _ (number_placed 0 (due - 1) d.1 h₁) (λ a h₂.
    placed_then a.1 (one (number 0 (due - 1)) a.1) _ (number_placed 0 (due - 1) a.1 h₂) (λ b h₃.
    placed_then b.1 (one line_end_due b.1) _ (feed_placed b.1 h₃) (λ f h₄. all_left f.1 h₄))))

gates_fail : (n due b : ℕ) (ts : List Lexeme) → Closed ts → FailsAt ts (gate_lines n due b ts)
gates_fail zero due b ts h = fails_kept ts (ended b ts) (λ _. []) (ended_fails b ts h)
gates_fail (suc n) due b ts h =
    fails_then ts (gate_line due ts) _ (gate_placed due ts h) (λ a k. fails_kept a.1 (gate_lines n (due + 2) a.0.1 a.1) (λ gs. a.0.0 ∷ gs) (gates_fail n (due + 2) a.0.1 a.1 k))

aag_fails : (ts : List Lexeme) → Closed ts → FailsAt ts (aag ts)
aag_fails ts h =
    fails_then ts (heading ts) _ (heading_placed ts h) (λ a k.
    fails_kept a.1 (gate_lines a.0.1 (2 * a.0.0 + 2) a.0.3 a.1) (λ gs. record { inputs = a.0.0; output = a.0.2; gates = gs }) (gates_fail a.0.1 (2 * a.0.0 + 2) a.0.3 a.1 k))

pub refused_at : (text : List ℕ) (f : TextFault) → length text ≤ 60000 → read_aag text ≡ Err f → Stands (fault_place f) (lexemes_from 0 text)
refused_at text f short e =
    let ts = lexemes_from 0 text in
    subst (λ r. FailsAt {A = Aag} ts r) (sym (ap (λ r. and_then r (λ _. aag ts)) (short_ok text short)) ∙ e) (aag_fails ts (closed_text text))
