-- Lemmas on `lexemes`.
use Rattle.std.proofs.Common.{◌≡◌, ℕ, suc, ◌+◌, ◌<◌, ◌==◌, Bool, true, false, cond, not, eqb, List, [], ◌∷◌, ◌++◌, length, take, drop, sym, refl, ap, ◌∙◌, ap₂, subst, add-zero, arith, take-append-drop}
use Rattle.std.specs.List.{prefix_len}
use Rattle.std.proofs.lemmas.List.{nil_from_length}
use Rattle.std.proofs.lemmas.List.Folds.{length-prefix_len}
use Rattle.std.proofs.lemmas.Bool.{or_parts, or_from, ne_eqb, eqb-true, cond-true, cond-false}
use Rattle.texts.specs.Lexemes.{word, line_end, end, blank, goes_on, longer, lexemes}

-- a run of bytes that are not blank
abbrev pub Solid : List ℕ → Type 0
Solid [] = Unit {0}
Solid (b ∷ bs) = (blank b ≡ false) × Solid bs

-- with one byte b that is not blank, in front
one_byte : (b p : ℕ) (bs : List ℕ) → blank b ≡ false → lexemes p (b ∷ bs) ≡ cond (goes_on bs) (longer b p (lexemes (p + 1) bs)) (word (b ∷ []) p ∷ lexemes (p + 1) bs)
unfolding lexemes
one_byte b p bs h =
    let q = or_parts (eqb b 32) (eqb b 10) h in
    cond-false (eqb b 10) _ _ q.1 ∙ cond-false (eqb b 32) _ _ q.0

-- a run of bytes that are not blank, up to a blank or the end, is one word
pub whole_word : (b : ℕ) (bs rest : List ℕ) (p : ℕ) → Solid (b ∷ bs) → goes_on rest ≡ false → lexemes p ((b ∷ bs) ++ rest) ≡ word (b ∷ bs) p ∷ lexemes (p + length (b ∷ bs)) rest
whole_word b [] rest p s e = one_byte b p rest s.0 ∙ cond-false (goes_on rest) _ _ e
whole_word b (c ∷ bs) rest p s e =
    one_byte b p ((c ∷ bs) ++ rest) s.0
    ∙ cond-true (goes_on ((c ∷ bs) ++ rest)) _ _ (ap not s.1.0)
    ∙ ap (longer b p) (whole_word c bs rest (p + 1) s.1 e)
    ∙ ap (λ n. word (b ∷ (c ∷ bs)) p ∷ lexemes n rest) (omega arith)

-- the same of any word that is not empty
pub a_word : (w rest : List ℕ) (p : ℕ) → 0 < length w → Solid w → goes_on rest ≡ false → lexemes p (w ++ rest) ≡ word w p ∷ lexemes (p + length w) rest
a_word [] rest p h s e = absurd (omega arith)
a_word (b ∷ bs) rest p h s e = whole_word b bs rest p s e

-- the spaces in front are passed over
spaces_passed : (p : ℕ) (xs : List ℕ) → lexemes p xs ≡ lexemes (p + prefix_len (λ b. b == 32) xs) (drop (prefix_len (λ b. b == 32) xs) xs)
unfolding lexemes
spaces_passed p [] = ap (λ q. lexemes q []) (sym (add-zero p))
spaces_passed p (b ∷ bs) = go (eqb b 32) refl (spaces_passed (p + 1) bs)
  where
    go : (t : Bool) → eqb b 32 ≡ t → lexemes (p + 1) bs ≡ lexemes (p + 1 + prefix_len (λ b. b == 32) bs) (drop (prefix_len (λ b. b == 32) bs) bs) → lexemes p (b ∷ bs) ≡ lexemes (p + cond t (1 + prefix_len (λ b. b == 32) bs) 0) (drop (cond t (1 + prefix_len (λ b. b == 32) bs) 0) (b ∷ bs))
    go true h more = ap (λ c. lexemes p (c ∷ bs)) (eqb-true b 32 h) ∙ more ∙ ap₂ lexemes {x = p + 1 + prefix_len (λ b. b == 32) bs} {y = p + (1 + prefix_len (λ b. b == 32) bs)} (omega arith) (ap (λ n. drop n (b ∷ bs)) {x = suc (prefix_len (λ b. b == 32) bs)} {y = 1 + prefix_len (λ b. b == 32) bs} (omega arith))
    go false h more = ap (λ q. lexemes q (b ∷ bs)) (sym (add-zero p))

-- what stands behind them does not begin with one
no_space : (xs : List ℕ) (b : ℕ) (bs : List ℕ) → drop (prefix_len (λ b. b == 32) xs) xs ≡ b ∷ bs → eqb b 32 ≡ false
no_space [] b bs e = cc
no_space (x ∷ xs) b bs e = go (eqb x 32) refl e (no_space xs b bs)
  where
    go : (t : Bool) → eqb x 32 ≡ t → drop (cond t (1 + prefix_len (λ b. b == 32) xs) 0) (x ∷ xs) ≡ b ∷ bs → (drop (prefix_len (λ b. b == 32) xs) xs ≡ b ∷ bs → eqb b 32 ≡ false) → eqb b 32 ≡ false
    go true h e more = more (ap (λ n. drop n (x ∷ xs)) {x = suc (prefix_len (λ b. b == 32) xs)} {y = 1 + prefix_len (λ b. b == 32) xs} (omega arith) ∙ e)
    go false h e more = let same : x ≡ b = cc in ap (λ y. eqb y 32) (sym same) ∙ h

-- the bytes in front that are not blank
abbrev solid : List ℕ → ℕ
solid = prefix_len (λ b. not (blank b))

solid_front : (xs : List ℕ) → Solid (take (solid xs) xs)
solid_front [] = tt
solid_front (x ∷ xs) = go (blank x) refl (solid_front xs)
  where
    go : (t : Bool) → blank x ≡ t → Solid (take (solid xs) xs) → Solid (take (cond (not t) (1 + solid xs) 0) (x ∷ xs))
    go true h more = tt
    go false h more = subst (λ n. Solid (take n (x ∷ xs))) {x = suc (solid xs)} {y = 1 + solid xs} (omega arith) (h, more)

stops : (xs : List ℕ) → goes_on (drop (solid xs) xs) ≡ false
stops [] = refl
stops (x ∷ xs) = go (blank x) refl (stops xs)
  where
    go : (t : Bool) → blank x ≡ t → goes_on (drop (solid xs) xs) ≡ false → goes_on (drop (cond (not t) (1 + solid xs) 0) (x ∷ xs)) ≡ false
    go true h more = ap not h
    go false h more = ap (λ n. goes_on (drop n (x ∷ xs))) {x = 1 + solid xs} {y = suc (solid xs)} (omega arith) ∙ more

some_solid : (b : ℕ) (bs : List ℕ) → blank b ≡ false → 0 < solid (b ∷ bs)
some_solid b bs h = go (blank b) h
  where
    go : (t : Bool) → t ≡ false → 0 < cond (not t) (1 + solid bs) 0
    go true e = cc
    go false e = omega arith

module _ (xs : List ℕ) (p n : ℕ) (spaces : n ≡ prefix_len (λ b. b == 32) xs) where
  -- behind the spaces there is the end
  pub at_end : length (drop n xs) ≡ 0 → lexemes p xs ≡ end (p + n) ∷ []
  unfolding lexemes
  at_end e = spaces_passed p xs ∙ ap (λ k. lexemes (p + k) (drop k xs)) (sym spaces) ∙ ap (lexemes (p + n)) (nil_from_length (drop n xs) e)

  -- or a line feed
  pub at_line_end : (bs : List ℕ) → drop n xs ≡ 10 ∷ bs → lexemes p xs ≡ line_end (p + n) ∷ lexemes (p + n + 1) bs
  unfolding lexemes
  at_line_end bs e = spaces_passed p xs ∙ ap (λ k. lexemes (p + k) (drop k xs)) (sym spaces) ∙ ap (lexemes (p + n)) e

  -- or a word
  pub at_word : (b : ℕ) (bs : List ℕ) → drop n xs ≡ b ∷ bs → (b ≡ 10 → ⊥) → (k : ℕ) → k ≡ solid (b ∷ bs) → lexemes p xs ≡ word (take k (b ∷ bs)) (p + n) ∷ lexemes (p + n + k) (drop k (b ∷ bs))
  at_word b bs e no_feed k whole =
      let no_blank : blank b ≡ false = or_from _ _ (no_space xs b bs (ap (λ m. drop m xs) (sym spaces) ∙ e)) (ne_eqb b 10 no_feed) in
      let ys = b ∷ bs in
      let long : length (take (solid ys) ys) ≡ solid ys = length-prefix_len (λ b. not (blank b)) ys in
      let first = some_solid b bs no_blank in
      spaces_passed p xs ∙ ap (λ k. lexemes (p + k) (drop k xs)) (sym spaces) ∙ ap (lexemes (p + n)) (e ∙ sym (take-append-drop (solid ys) ys))
      ∙ a_word (take (solid ys) ys) (drop (solid ys) ys) (p + n) (omega arith) (solid_front ys) (stops ys)
      ∙ ap (λ m. word (take (solid ys) ys) (p + n) ∷ lexemes (p + n + m) (drop (solid ys) ys)) long
      ∙ ap (λ m. word (take m ys) (p + n) ∷ lexemes (p + n + m) (drop m ys)) (sym whole)

-- what stands behind the spaces
pub ruleset cuts = (at_end, at_line_end, at_word)
