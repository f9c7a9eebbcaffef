-- A text reads as what its lines spell, and as nothing else.
use Rattle.std.proofs.Common.{◌≡◌, ℕ, zero, suc, ◌+◌, ◌-◌, ◌*◌, ◌^◌, ◌<◌, ◌≤◌, Bool, true, false, cond, eqb, List, [], ◌∷◌, ◌++◌, length, Ok, Err, codes, decimal, Result, sym, refl, ap, ◌∙◌, subst, arith}
use Rattle.std.proofs.lemmas.Bool.{cond-true, eq-eqb, eqb-true}
use Rattle.faults.specs.declared.TextFault.{TextFault}
use Rattle.faults.specs.declared.TextFault.TheVariants.{Limit}
use Rattle.texts.specs.Lexemes.{Lexeme, word, line_end, end, lexemes_from}
use Rattle.texts.specs.Lines.{Words, Lines, Ends}
use Rattle.texts.specs.Due.{length_due, leaving, and_then, one, limited, number, line_end_due, exactly, ended}
use Rattle.texts.proofs.Dues.{from_ok, first_then, judged, number_is, exactly_is, line_end_is, number_ok}
use Rattle.texts.proofs.Spellings.{lines_join, lines_split, given, ended_is, ended_ok, short_is, short_ok}
use Rattle.aiger.specs.declared.Gate.{Gate}
use Rattle.aiger.specs.Aag.{count_due, heading_line, due_line, input_lines, Heading, heading, gate_line, gate_lines, Aag, aag, read_aag}
use Rattle.aiger.specs.Grammar.{heading_words, input_words, gate_words, Below, Spelled, ReadsJust}
use Rattle.aiger.proofs.Refusals.{refused_at}
use Rattle.aiger.proofs.Inputs.{input_step}

-- a word that gave what was due, and what follows it
number_word : (low high : ℕ) (ts : List Lexeme) (a : ℕ × List Lexeme) → high < 2 ^ 64 → one (number low high) ts ≡ Ok a → (p : ℕ) × (ts ≡ word (decimal a.0) p ∷ a.1) × (low ≤ a.0) × (a.0 ≤ high)
number_word low high ts a h e =
    let j = judged (number low high) ts a e in
    let g = number_is low high j.0 a.0 h j.2 in
    (g.0, j.1 ∙ ap (λ t. t ∷ a.1) g.1, g.2, g.3)

feed_next : (ts : List Lexeme) (a : ℕ × List Lexeme) → one line_end_due ts ≡ Ok a → (q : ℕ) × (ts ≡ line_end q ∷ a.1) × (q + 1 ≡ a.0)
feed_next ts a e =
    let j = judged line_end_due ts a e in
    let g = line_end_is j.0 a.0 j.2 in
    (g.0, j.1 ∙ ap (λ t. t ∷ a.1) g.1, sym g.2)

-- the number of gates makes up all the variables with the inputs
summed : (M I p n m : ℕ) (b : Bool) → eqb (I + n) M ≡ b → ◌≡◌ {A = Result ℕ TextFault} (cond b (Ok n) (Err (Limit p))) (Ok m) → (n ≡ m) × (I + n ≡ M)
summed M I p n m true h e = (ap (λ (y : Result ℕ TextFault). from_ok n y) e, eqb-true (I + n) M h)
summed M I p n m false h e = cc

count_word : (M I : ℕ) (t : Lexeme) (n : ℕ) → count_due M I t ≡ Ok n → (p : ℕ) × (t ≡ word (decimal n) p) × (n ≤ 2048) × (I + n ≡ M)
count_word M I (word w p) n e =
    let r = first_then (limited 0 2048 w p) (λ k. cond (eqb (I + k) M) (Ok k) (Err (Limit p))) n e in
    let s = summed M I p r.0 n (eqb (I + r.0) M) refl r.2 in
    let g = number_is 0 2048 (word w p) n (omega arith) (r.1 ∙ ap Ok s.0) in
    (g.0, g.1, g.3, ap (λ k. I + k) (sym s.0) ∙ s.1)
count_word M I (line_end p) n e = cc
count_word M I (end p) n e = cc

abbrev HeadingLineRead : List Lexeme → (ℕ × ℕ) × List Lexeme → Type 0
HeadingLineRead ts a = (q : ℕ) × Words (heading_words a.0.0 a.0.1) ts (line_end q ∷ a.1) × (1 ≤ a.0.0) × (a.0.0 ≤ 32) × (a.0.1 ≤ 2048)

heading_line_is : (ts : List Lexeme) (a : (ℕ × ℕ) × List Lexeme) → heading_line ts ≡ Ok a → HeadingLineRead ts a
heading_line_is ts a e =
    let r₁ = first_then (one (exactly (codes "aag")) ts) _ a e in
    let r₂ = first_then (one (number 1 2080) r₁.0.1) _ a r₁.2 in
    let r₃ = first_then (one (number 1 32) r₂.0.1) _ a r₂.2 in
    let r₄ = first_then (one (number 0 0) r₃.0.1) _ a r₃.2 in
    let r₅ = first_then (one (number 1 1) r₄.0.1) _ a r₄.2 in
    let r₆ = first_then (one (count_due r₂.0.0 r₃.0.0) r₅.0.1) _ a r₅.2 in
    let r₇ = first_then (one line_end_due r₆.0.1) (λ f. Ok ((r₃.0.0, r₆.0.0), f.1)) a r₆.2 in
    let j₁ = judged (exactly (codes "aag")) ts r₁.0 r₁.1 in
    let g₁ = exactly_is (codes "aag") j₁.0 r₁.0.0 j₁.2 in
    let g₂ = number_word 1 2080 r₁.0.1 r₂.0 (omega arith) r₂.1 in
    let g₃ = number_word 1 32 r₂.0.1 r₃.0 (omega arith) r₃.1 in
    let g₄ = number_word 0 0 r₃.0.1 r₄.0 (omega arith) r₄.1 in
    let g₅ = number_word 1 1 r₄.0.1 r₅.0 (omega arith) r₅.1 in
    let j₆ = judged (count_due r₂.0.0 r₃.0.0) r₅.0.1 r₆.0 r₆.1 in
    let g₆ = count_word r₂.0.0 r₃.0.0 j₆.0 r₆.0.0 j₆.2 in
    let g₇ = feed_next r₆.0.1 r₇.0 r₇.1 in
    let none : r₄.0.0 ≡ 0 = omega (arith, g₄.3) in
    let single : r₅.0.0 ≡ 1 = omega (arith, g₅.2, g₅.3) in
    given (HeadingLineRead ts) ((r₃.0.0, r₆.0.0), r₇.0.1) a r₇.2 (
      g₇.0,
      (
        g₁.0,
        r₁.0.1,
        j₁.1 ∙ ap (λ t. t ∷ r₁.0.1) g₁.1,
        (
          g₂.0,
          r₂.0.1,
          g₂.1 ∙ ap (λ n. word (decimal n) g₂.0 ∷ r₂.0.1) (sym g₆.3),
          (
            g₃.0,
            r₃.0.1,
            g₃.1,
            (
              g₄.0,
              r₄.0.1,
              g₄.1 ∙ ap (λ n. word (decimal n) g₄.0 ∷ r₄.0.1) none,
              (
                g₅.0,
                r₅.0.1,
                g₅.1 ∙ ap (λ n. word (decimal n) g₅.0 ∷ r₅.0.1) single,
                (g₆.0, r₆.0.1, j₆.1 ∙ ap (λ t. t ∷ r₆.0.1) g₆.1, g₇.1),
              ),
            ),
          ),
        ),
      ),
      g₃.2,
      g₃.3,
      g₆.2,
    )

due_line_is : (due : ℕ) (ts : List Lexeme) (a : Unit {0} × List Lexeme) → due < 2 ^ 64 → due_line due ts ≡ Ok a → (q : ℕ) × Words (decimal due ∷ []) ts (line_end q ∷ a.1)
due_line_is due ts a h e =
    let r₁ = first_then (one (number due due) ts) _ a e in
    let r₂ = first_then (one line_end_due r₁.0.1) (λ f. Ok (tt, f.1)) a r₁.2 in
    let g₁ = number_word due due ts r₁.0 h r₁.1 in
    let g₂ = feed_next r₁.0.1 r₂.0 r₂.1 in
    let same : r₁.0.0 ≡ due = omega (arith, g₁.2, g₁.3) in
    given (λ x. (q : ℕ) × Words (decimal due ∷ []) ts (line_end q ∷ x.1)) (tt, r₂.0.1) a r₂.2
    (g₂.0, (g₁.0, r₁.0.1, g₁.1 ∙ ap (λ n. word (decimal n) g₁.0 ∷ r₁.0.1) same, g₂.1))

inputs_are : (n due b : ℕ) (ts : List Lexeme) (a : Unit {0} × List Lexeme) → due + 2 * n < 2 ^ 64 → input_lines n due ts ≡ Ok a → (m : ℕ) × Lines (input_words n due) b ts m a.1
inputs_are zero due b ts a h e = given (λ x. (m : ℕ) × Lines [] b ts m x.1) (tt, ts) a e (b, (refl, refl))
inputs_are (suc n) due b ts a h e =
    let r = first_then (due_line due ts) (λ x. input_lines n (due + 2) x.1) a e in
    let g = due_line_is due ts r.0 (omega arith) r.1 in
    let more = inputs_are n (due + 2) (g.0 + 1) r.0.1 a (omega arith) r.2 in
    (more.0, (g.0, r.0.1, g.1, more.1))

abbrev HeadingRead : List Lexeme → Heading × List Lexeme → Type 0
HeadingRead ts a =
    Lines ((heading_words a.0.0 a.0.1 ∷ input_words a.0.0 2) ++ ((decimal a.0.2 ∷ []) ∷ [])) 0 ts a.0.3 a.1
    × (1 ≤ a.0.0) × (a.0.0 ≤ 32) × (a.0.1 ≤ 2048) × (a.0.2 ≤ 2 * (a.0.0 + a.0.1) + 1)

heading_is : (ts : List Lexeme) (a : Heading × List Lexeme) → heading ts ≡ Ok a → HeadingRead ts a
heading_is ts a e =
    let r₁ = first_then (heading_line ts) _ a e in
    let I = r₁.0.0.0 in
    let A = r₁.0.0.1 in
    let r₂ = first_then (input_lines I 2 r₁.0.1) _ a r₁.2 in
    let r₃ = first_then (one (number 0 (2 * (I + A) + 1)) r₂.0.1) _ a r₂.2 in
    let r₄ = first_then (one line_end_due r₃.0.1) (λ f. Ok ((I, A, r₃.0.0, f.0), f.1)) a r₃.2 in
    let g₁ = heading_line_is ts r₁.0 r₁.1 in
    let g₂ = inputs_are I 2 (g₁.0 + 1) r₁.0.1 r₂.0 (omega (arith, g₁.3)) r₂.1 in
    let g₃ = number_word 0 (2 * (I + A) + 1) r₂.0.1 r₃.0 (omega (arith, g₁.3, g₁.4)) r₃.1 in
    let g₄ = feed_next r₃.0.1 r₄.0 r₄.1 in
    given (HeadingRead ts) ((I, A, r₃.0.0, r₄.0.0), r₄.0.1) a r₄.2 (
      lines_join (heading_words I A ∷ input_words I 2) ((decimal r₃.0.0 ∷ []) ∷ []) 0 g₂.0 r₄.0.0 ts r₂.0.1 r₄.0.1
          (g₁.0, r₁.0.1, g₁.1, g₂.1)
          (g₄.0, r₄.0.1, (g₃.0, r₃.0.1, g₃.1, g₄.1), (g₄.2, refl)),
      g₁.2,
      g₁.3,
      g₁.4,
      g₃.3,
    )

abbrev GateRead : ℕ → List Lexeme → (Gate × ℕ) × List Lexeme → Type 0
GateRead due ts a =
    (q : ℕ) × Words (decimal due ∷ decimal a.0.0.left ∷ decimal a.0.0.right ∷ []) ts (line_end q ∷ a.1) × (q + 1 ≡ a.0.1) × (a.0.0.left < due) × (a.0.0.right < due)

gate_is : (due : ℕ) (ts : List Lexeme) (a : (Gate × ℕ) × List Lexeme) → 0 < due → due < 2 ^ 64 → gate_line due ts ≡ Ok a → GateRead due ts a
gate_is due ts a some h e =
    let r₁ = first_then (one (number due due) ts) _ a e in
    let r₂ = first_then (one (number 0 (due - 1)) r₁.0.1) _ a r₁.2 in
    let r₃ = first_then (one (number 0 (due - 1)) r₂.0.1) _ a r₂.2 in
    let r₄ = first_then (one line_end_due r₃.0.1) (λ f. Ok ((record { left = r₂.0.0; right = r₃.0.0 }, f.0), f.1)) a r₃.2 in
    let g₁ = number_word due due ts r₁.0 h r₁.1 in
    let g₂ = number_word 0 (due - 1) r₁.0.1 r₂.0 (omega arith) r₂.1 in
    let g₃ = number_word 0 (due - 1) r₂.0.1 r₃.0 (omega arith) r₃.1 in
    let g₄ = feed_next r₃.0.1 r₄.0 r₄.1 in
    let same : r₁.0.0 ≡ due = omega (arith, g₁.2, g₁.3) in
    given (GateRead due ts) ((record { left = r₂.0.0; right = r₃.0.0 }, r₄.0.0), r₄.0.1) a r₄.2
    (g₄.0, (g₁.0, r₁.0.1, g₁.1 ∙ ap (λ n. word (decimal n) g₁.0 ∷ r₁.0.1) same, (g₂.0, r₂.0.1, g₂.1, (g₃.0, r₃.0.1, g₃.1, g₄.1))), g₄.2, omega (arith, g₂.3), omega (arith, g₃.3))

abbrev GatesRead : ℕ → ℕ → ℕ → List Lexeme → List Gate → Type 0
GatesRead n due b ts gs = (length gs ≡ n) × Below due gs × (e : ℕ) × (rest : List Lexeme) × Lines (gate_words due gs) b ts e rest × Ends e rest

pub gates_are : (n due b : ℕ) (ts : List Lexeme) (gs : List Gate) → 0 < due → due + 2 * n < 2 ^ 64 → gate_lines n due b ts ≡ Ok gs → GatesRead n due b ts gs
gates_are zero due b ts gs some h e =
    let r = first_then (ended b ts) (λ _. Ok []) gs e in
    given (GatesRead 0 due b ts) [] gs r.2 (refl, tt, b, ts, (refl, refl), ended_is b ts r.0 r.1)
gates_are (suc n) due b ts gs some h e =
    let r = first_then (gate_line due ts) _ gs e in
    let a = r.0 in
    let s = first_then (gate_lines n (due + 2) a.0.1 a.1) (λ ss. Ok (a.0.0 ∷ ss)) gs r.2 in
    let g = gate_is due ts a some (omega arith) r.1 in
    let more = gates_are n (due + 2) a.0.1 a.1 s.0 (omega arith) (omega arith) s.1 in
    given (GatesRead (suc n) due b ts) (a.0.0 ∷ s.0) gs s.2 (
      ap suc more.0,
      (g.3, g.4, more.1),
      more.2,
      more.3,
      (g.0, a.1, g.1, subst (λ m. Lines (gate_words (due + 2) s.0) m a.1 more.2 more.3) (sym g.2) more.4),
      more.5,
    )

-- and the other way: lines that spell it are read as it
inputs_ok : (n due a b : ℕ) (ts rest : List Lexeme) → due + 2 * n < 2 ^ 64 → Lines (input_words n due) a ts b rest → input_lines n due ts ≡ Ok (tt, rest)
inputs_ok zero due a b ts rest h l = ap (λ x. Ok (tt, x)) l.1
inputs_ok (suc n) due a b ts rest h l =
    let w = l.2 in
    let line : due_line due ts ≡ Ok (tt, l.1) = ap (λ x. and_then (one (number due due) x) (λ y. and_then (one line_end_due y.1) (λ f. Ok (tt, f.1)))) w.2
    ∙ ap (λ r. and_then (leaving r w.1) (λ y. and_then (one line_end_due y.1) (λ f. Ok (tt, f.1)))) (number_ok due due due w.0 (omega arith) (omega arith) (omega arith))
    ∙ ap (λ x. and_then (one line_end_due x) (λ f. Ok (tt, f.1))) w.3 in
    input_step (suc n) n due ts l.1 refl line ∙ inputs_ok n (due + 2) (l.0 + 1) b l.1 rest (omega arith) l.3

-- what follows each word of the heading
abbrev behind_count : ℕ → ℕ × List Lexeme → Result ((ℕ × ℕ) × List Lexeme) TextFault
behind_count I n = and_then (one line_end_due n.1) (λ f. Ok ((I, n.0), f.1))

abbrev behind_outputs : ℕ → ℕ → ℕ × List Lexeme → Result ((ℕ × ℕ) × List Lexeme) TextFault
behind_outputs M I o = and_then (one (count_due M I) o.1) (behind_count I)

abbrev behind_latches : ℕ → ℕ → ℕ × List Lexeme → Result ((ℕ × ℕ) × List Lexeme) TextFault
behind_latches M I l = and_then (one (number 1 1) l.1) (behind_outputs M I)

abbrev behind_inputs : ℕ → ℕ × List Lexeme → Result ((ℕ × ℕ) × List Lexeme) TextFault
behind_inputs M i = and_then (one (number 0 0) i.1) (behind_latches M i.0)

abbrev behind_all : ℕ × List Lexeme → Result ((ℕ × ℕ) × List Lexeme) TextFault
behind_all m = and_then (one (number 1 32) m.1) (behind_inputs m.0)

abbrev behind_aag : Unit {0} × List Lexeme → Result ((ℕ × ℕ) × List Lexeme) TextFault
behind_aag a = and_then (one (number 1 2080) a.1) behind_all

count_ok : (I A p : ℕ) → A ≤ 2048 → count_due (I + A) I (word (decimal A) p) ≡ Ok A
count_ok I A p h =
    ap (λ r. and_then r (λ n. cond (eqb (I + n) (I + A)) (Ok n) (Err (Limit p)))) (number_ok 0 2048 A p (omega arith) (omega arith) h)
    ∙ cond-true (eqb (I + A) (I + A)) _ _ (eq-eqb (I + A) (I + A) refl)

heading_line_ok : (I A q : ℕ) (ts us : List Lexeme) → 1 ≤ I → I ≤ 32 → A ≤ 2048 → Words (heading_words I A) ts (line_end q ∷ us) → heading_line ts ≡ Ok ((I, A), us)
heading_line_ok I A q ts us i₁ i₂ a w₁ =
    let M = I + A in
    let w₂ = w₁.3 in
    let w₃ = w₂.3 in
    let w₄ = w₃.3 in
    let w₅ = w₄.3 in
    let w₆ = w₅.3 in
    ap (λ x. and_then (one (exactly (codes "aag")) x) behind_aag) w₁.2
    ∙ ap (λ x. behind_aag (tt, x)) w₂.2
    ∙ ap (λ r. and_then (leaving r w₂.1) behind_all) (number_ok 1 2080 M w₂.0 (omega arith) (omega arith) (omega arith))
    ∙ ap (λ x. behind_all (M, x)) w₃.2
    ∙ ap (λ r. and_then (leaving r w₃.1) (behind_inputs M)) (number_ok 1 32 I w₃.0 (omega arith) i₁ i₂)
    ∙ ap (λ x. behind_inputs M (I, x)) w₄.2
    ∙ ap (λ r. and_then (leaving r w₄.1) (behind_latches M I)) (number_ok 0 0 0 w₄.0 (omega arith) (omega arith) (omega arith))
    ∙ ap (λ x. behind_latches M I (0, x)) w₅.2
    ∙ ap (λ r. and_then (leaving r w₅.1) (behind_outputs M I)) (number_ok 1 1 1 w₅.0 (omega arith) (omega arith) (omega arith))
    ∙ ap (λ x. behind_outputs M I (1, x)) w₆.2
    ∙ ap (λ r. and_then (leaving r w₆.1) (behind_count I)) (count_ok I A w₆.0 a)
    ∙ ap (λ x. behind_count I (A, x)) w₆.3

-- what follows the heading's line, the inputs and the output
abbrev behind_output : ℕ → ℕ → ℕ × List Lexeme → Result (Heading × List Lexeme) TextFault
behind_output I A o = and_then (one line_end_due o.1) (λ f. Ok ((I, A, o.0, f.0), f.1))

abbrev behind_lines : ℕ → ℕ → Unit {0} × List Lexeme → Result (Heading × List Lexeme) TextFault
behind_lines I A i = and_then (one (number 0 (2 * (I + A) + 1)) i.1) (behind_output I A)

abbrev behind_heading : (ℕ × ℕ) × List Lexeme → Result (Heading × List Lexeme) TextFault
behind_heading h = and_then (input_lines h.0.0 2 h.1) (behind_lines h.0.0 h.0.1)

heading_ok : (I A o m b : ℕ) (ts us rest : List Lexeme) → 1 ≤ I → I ≤ 32 → A ≤ 2048 → o ≤ 2 * (I + A) + 1 → Lines (heading_words I A ∷ input_words I 2) 0 ts m us → Lines ((decimal o ∷ []) ∷ []) m us b rest → heading ts ≡ Ok ((I, A, o, b), rest)
heading_ok I A o m b ts us rest i₁ i₂ a known l k =
    let w = k.2 in
    let last = k.3 in
    ap (λ r. and_then r behind_heading) (heading_line_ok I A l.0 ts l.1 i₁ i₂ a l.2)
    ∙ ap (λ r. and_then r (behind_lines I A)) (inputs_ok I 2 (l.0 + 1) m l.1 us (omega arith) l.3)
    ∙ ap (λ x. behind_lines I A (tt, x)) w.2
    ∙ ap (λ r. and_then (leaving r w.1) (behind_output I A)) (number_ok 0 (2 * (I + A) + 1) o w.0 (omega arith) (omega arith) known)
    ∙ ap (λ x. behind_output I A (o, x)) w.3
    ∙ ap (λ x. Ok ((I, A, o, x), k.1)) last.0
    ∙ ap (λ x. Ok ((I, A, o, b), x)) last.1

-- what follows each word of a gate's line
abbrev behind_right : ℕ → ℕ × List Lexeme → Result ((Gate × ℕ) × List Lexeme) TextFault
behind_right left b = and_then (one line_end_due b.1) (λ f. Ok ((record { left = left; right = b.0 }, f.0), f.1))

abbrev behind_left : ℕ → ℕ × List Lexeme → Result ((Gate × ℕ) × List Lexeme) TextFault
behind_left due a = and_then (one (number 0 (due - 1)) a.1) (behind_right a.0)

abbrev behind_due : ℕ → ℕ × List Lexeme → Result ((Gate × ℕ) × List Lexeme) TextFault
behind_due due d = and_then (one (number 0 (due - 1)) d.1) (behind_left due)

gate_ok : (due q : ℕ) (g : Gate) (ts us : List Lexeme) → due < 2 ^ 64 → g.left < due → g.right < due → Words (decimal due ∷ decimal g.left ∷ decimal g.right ∷ []) ts (line_end q ∷ us) → gate_line due ts ≡ Ok ((g, q + 1), us)
gate_ok due q g ts us h a b w₁ =
    let w₂ = w₁.3 in
    let w₃ = w₂.3 in
    ap (λ x. and_then (one (number due due) x) (behind_due due)) w₁.2
    ∙ ap (λ r. and_then (leaving r w₁.1) (behind_due due)) (number_ok due due due w₁.0 h (omega arith) (omega arith))
    ∙ ap (λ x. behind_due due (due, x)) w₂.2
    ∙ ap (λ r. and_then (leaving r w₂.1) (behind_left due)) (number_ok 0 (due - 1) g.left w₂.0 (omega arith) (omega arith) (omega arith))
    ∙ ap (λ x. behind_left due (g.left, x)) w₃.2
    ∙ ap (λ r. and_then (leaving r w₃.1) (behind_right g.left)) (number_ok 0 (due - 1) g.right w₃.0 (omega arith) (omega arith) (omega arith))
    ∙ ap (λ x. behind_right g.left (g.right, x)) w₃.3

gates_ok : (gs : List Gate) (due a b : ℕ) (ts rest : List Lexeme) → due + 2 * length gs < 2 ^ 64 → Below due gs → Lines (gate_words due gs) a ts b rest → Ends b rest → gate_lines (length gs) due a ts ≡ Ok gs
gates_ok [] due a b ts rest h below l e =
    ap (λ n. and_then (ended n ts) (λ _. Ok [])) l.0 ∙ ap (λ us. and_then (ended b us) (λ _. Ok [])) l.1 ∙ ap (λ r. and_then r (λ _. Ok [])) (ended_ok b rest e)
gates_ok (g ∷ gs) due a b ts rest h below l e =
    ap (λ x. and_then x (λ y. and_then (gate_lines (length gs) (due + 2) y.0.1 y.1) (λ ss. Ok (y.0.0 ∷ ss)))) (gate_ok due l.0 g ts l.1 (omega arith) below.0 below.1 l.2)
    ∙ ap (λ x. and_then x (λ ss. Ok (g ∷ ss))) (gates_ok gs (due + 2) (l.0 + 1) b l.1 rest (omega arith) below.2 l.3 e)

abbrev then_gates : Result (Heading × List Lexeme) TextFault → Result Aag TextFault
then_gates r = and_then r (λ h. and_then (gate_lines h.0.1 (2 * h.0.0 + 2) h.0.3 h.1) (λ gs. Ok (record { inputs = h.0.0; output = h.0.2; gates = gs })))

module _ (text : List ℕ) where
  spelled_from : length text ≤ 60000 → (c : Aag) → aag (lexemes_from 0 text) ≡ Ok c → Spelled text c
  spelled_from short c e =
      let ts = lexemes_from 0 text in
      let r = first_then (heading ts) _ c e in
      let h = r.0 in
      let I = h.0.0 in
      let s = first_then (gate_lines h.0.1 (2 * I + 2) h.0.3 h.1) (λ gs. Ok (record { inputs = I; output = h.0.2; gates = gs })) c r.2 in
      let head = heading_is ts h r.1 in
      let rest = gates_are h.0.1 (2 * I + 2) h.0.3 h.1 s.0 (omega arith) (omega (arith, head.2, head.3)) s.1 in
      let cut = lines_split (heading_words I h.0.1 ∷ input_words I 2) ((decimal h.0.2 ∷ []) ∷ []) 0 h.0.3 ts h.1 head.0 in
      let tail = lines_join ((decimal h.0.2 ∷ []) ∷ []) (gate_words (2 * I + 2) s.0) cut.0 h.0.3 rest.2 cut.1 h.1 rest.3 cut.3 rest.4 in
      given (Spelled text) (record { inputs = I; output = h.0.2; gates = s.0 }) c s.2 (record {
        short = short;
        well_formed = record { some_input = head.1; few_inputs = head.2; few_gates = omega (arith, rest.0, head.3); output_known = omega (arith, rest.0, head.4); sides_below = rest.1 };
        behind = rest.2;
        rest = rest.3;
        lines = subst (λ n. Lines ((heading_words I n ∷ input_words I 2) ++ ((decimal h.0.2 ∷ []) ∷ gate_words (2 * I + 2) s.0)) 0 ts rest.2 rest.3) (sym rest.0)
            (lines_join (heading_words I h.0.1 ∷ input_words I 2) ((decimal h.0.2 ∷ []) ∷ gate_words (2 * I + 2) s.0) 0 cut.0 rest.2 ts cut.1 rest.3 cut.2 tail);
        ends_behind = rest.5;
      })

  sound : (c : Aag) → read_aag text ≡ Ok c → Spelled text c
  sound c e =
      let r = first_then (length_due text) (λ _. aag (lexemes_from 0 text)) c e in
      spelled_from (short_is text r.0 r.1) c r.2

  complete : (c : Aag) → Spelled text c → read_aag text ≡ Ok c
  complete c s =
      let ts = lexemes_from 0 text in
      let I = c.inputs in
      let A = length c.gates in
      let good = s.well_formed in
      let first = lines_split (heading_words I A ∷ input_words I 2) ((decimal c.output ∷ []) ∷ gate_words (2 * I + 2) c.gates) 0 s.behind ts s.rest s.lines in
      let second = lines_split ((decimal c.output ∷ []) ∷ []) (gate_words (2 * I + 2) c.gates) first.0 s.behind first.1 s.rest first.3 in
      ap (λ r. and_then r (λ _. aag (lexemes_from 0 text))) (short_ok text s.short)
      ∙ ap then_gates (heading_ok I A c.output first.0 second.0 ts first.1 second.1 good.some_input good.few_inputs good.few_gates good.output_known first.2 second.2)
      ∙ ap (λ r. and_then r (λ gs. Ok (record { inputs = I; output = c.output; gates = gs }))) (gates_ok c.gates (2 * I + 2) second.0 s.behind second.1 s.rest (omega (arith, good.few_inputs, good.few_gates)) good.sides_below second.3 s.ends_behind)

  pub reads_just : ReadsJust text
  reads_just = record { sound = sound; complete = complete; refused = refused_at text }
