-- Cutting a script at its first line feed.
use Rattle.std.proofs.Common.{◌≡◌, ℕ, zero, suc, ◌+◌, ◌-◌, ◌==◌, ◌<◌, ◌≤◌, Bool, true, false, cond, not, eqb, ltb, List, [], ◌∷◌, length, get_or, take, drop, Some, None, sym, refl, ap, ◌∙◌, ap₂, arith, length-drop, drop_of_length-le}
use Rattle.std.proofs.lemmas.Bool.{cond-true, cond-false, eq-eqb, eqb-true, ne_eqb, both_ways, not-true, ltb-false}
use Rattle.std.proofs.lemmas.List.{take_all}
use Rattle.std.proofs.lemmas.List.Quantifiers.{position-Some}
use Rattle.std.proofs.lemmas.List.Sums.{prefix_len_passes}
use Rattle.std.specs.List.{position, position_or_len}
use Rattle.scripts.specs.Lines.{lines_of, longer}

pub cut : (text : List ℕ) (n : ℕ) → 0 < length text → n ≤ length text → ((k : ℕ) → k < n → get_or text k 0 ≡ 10 → ⊥) → (n < length text → get_or text n 0 ≡ 10) → lines_of text ≡ take n text ∷ lines_of (drop (suc n) text)
unfolding lines_of
cut [] n some within before feed = absurd (omega arith)
cut (b ∷ bs) zero some within before feed = cond-true (eqb b 10) _ _ (eq-eqb b 10 (feed some))
cut (b ∷ []) (suc zero) some within before feed = cond-false (eqb b 10) _ _ (ne_eqb b 10 (before 0 (omega arith)))
cut (b ∷ []) (suc (suc n)) some within before feed = absurd (omega arith)
cut (b ∷ c ∷ bs) (suc n) some within before feed =
    cond-false (eqb b 10) _ _ (ne_eqb b 10 (before 0 (omega arith)))
    ∙ ap (longer b) (cut (c ∷ bs) n (omega arith) (omega arith) (λ k lt. before (suc k) (omega arith)) (λ lt. feed (omega arith)))

pub no_lines : (text : List ℕ) → length text ≡ 0 → lines_of text ≡ []
unfolding lines_of
no_lines [] e = refl
no_lines (b ∷ bs) e = absurd (omega arith)

-- the first line ends at the first line feed
pub cut_at : (text : List ℕ) (n : ℕ) → position (λ b. b == 10) text ≡ Some n → lines_of text ≡ take n text ∷ lines_of (take (length text - (n + 1)) (drop (n + 1) text))
cut_at text n e =
    let q = position-Some (λ b. b == 10) text n 0 e in
    let whole : take (length text - (n + 1)) (drop (n + 1) text) ≡ drop (suc n) text = take_all (length text - (n + 1)) (drop (n + 1) text) (simp length-drop (omega arith)) ∙ ap (λ k. drop k text) {x = n + 1} {y = suc n} (omega arith) in
    cut text n (omega (arith, q.0)) (omega (arith, q.0)) (λ k lt ten. both_ways (eqb (get_or text k 0) 10) (q.2 k lt) (eq-eqb _ 10 ten)) (λ lt. eqb-true _ 10 q.1)
    ∙ ap (λ rest. take n text ∷ lines_of rest) (sym whole)

-- or it is all there is
pub all_one_line : (text : List ℕ) → position (λ b. b == 10) text ≡ None → 0 < length text → lines_of text ≡ text ∷ lines_of []
all_one_line text e some =
    let over : length text ≤ suc (length text) = omega arith in
    cut text (length text) some (omega arith) (λ k lt ten. both_ways (eqb (get_or text k 0) 10) (not-true (eqb (get_or text k 0) 10) (prefix_len_passes (λ b. not (b == 10)) text k 0 (omega (arith, past)))) (eq-eqb _ 10 ten)) (λ lt. absurd (omega arith))
    ∙ ap₂ (λ line rest. line ∷ lines_of rest) (take_all (length text) text (omega arith)) (drop_of_length-le text over)
  where
    long : (b : Bool) → ltb (position_or_len (λ b. b == 10) text) (length text) ≡ b → cond b (Some (position_or_len (λ b. b == 10) text)) None ≡ None → length text ≤ position_or_len (λ b. b == 10) text
    long true h e = cc
    long false h e = ltb-false _ _ h

    past : length text ≤ position_or_len (λ b. b == 10) text
    past = long (ltb (position_or_len (λ b. b == 10) text) (length text)) refl e

-- what the first line is
pub ruleset cuts = (cut_at, all_one_line, no_lines)
