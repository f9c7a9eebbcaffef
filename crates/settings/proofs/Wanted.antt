-- The literals that a record wants, one contact more at a time.
use Rattle.std.proofs.Common.{◌≡◌, ℕ, zero, suc, ◌+◌, ◌-◌, ◌<◌, ◌≤◌, Bool, true, false, List, [], ◌∷◌, ◌++◌, length, get_or, take, ℤ, None, sym, refl, ap, ◌∙◌, ap₂, arith}
use Rattle.std.specs.Option.{option_map}
use Rattle.std.proofs.lemmas.List.{append_assoc, append-nil, length-append, length-take-le, take_more, take_all}
use Rattle.std.proofs.lemmas.Bool.{lt-ltb, cond-true}
use Rattle.literals.specs.Bits.{bit}
use Rattle.literals.specs.Literals.{first_unnamed}
use Rattle.settings.specs.declared.Term.{Term}
use Rattle.settings.specs.TermRecords.{digits, signed_at, signed, wanted}

length_digits : (n v : ℕ) → length (digits n v) ≡ n
length_digits zero v = refl
length_digits (suc n) v = ap suc (length_digits n v)

digits_at : (n v i : ℕ) → i < n → get_or (digits n v) i false ≡ bit v (n - 1 - i)
unfolding bit
digits_at zero v i lt = absurd (omega arith)
digits_at (suc n) v zero lt = ap (bit v) (omega arith)
digits_at (suc n) v (suc i) lt = digits_at n v i (omega arith) ∙ ap (bit v) (omega arith)

signed_step : (j : ℕ) (c o : Bool) (cs os : List Bool) → signed j (c ∷ cs) (o ∷ os) ≡ signed_at j c o ++ signed (suc j) cs os
signed_step j true o cs os = refl
signed_step j false true cs os = refl
signed_step j false false cs os = refl

signed_push : (j : ℕ) (cs os : List Bool) (c o : Bool) → length cs ≡ length os → signed j (cs ++ c ∷ []) (os ++ o ∷ []) ≡ signed j cs os ++ signed_at (j + length cs) c o
signed_push j [] [] c o l = signed_step j c o [] [] ∙ append-nil (signed_at j c o) ∙ ap (λ k. signed_at k c o) (omega arith)
signed_push j [] (b ∷ os) c o l = absurd (omega arith)
signed_push j (a ∷ cs) [] c o l = absurd (omega arith)
signed_push j (a ∷ cs) (b ∷ os) c o l =
    signed_step j a b (cs ++ c ∷ []) (os ++ o ∷ []) ∙ ap (λ t. signed_at j a b ++ t) (signed_push (suc j) cs os c o (omega arith) ∙ ap (λ k. signed (suc j) cs os ++ signed_at k c o) (omega arith))
    ∙ sym (append_assoc (signed_at j a b) (signed (suc j) cs os) (signed_at (j + suc (length cs)) c o))
    ∙ ap (λ t. t ++ signed_at (j + suc (length cs)) c o) (sym (signed_step j a b cs os))

one_at_most : (j : ℕ) (c o : Bool) → length (signed_at j c o) ≤ 1
one_at_most j true o = omega arith
one_at_most j false true = omega arith
one_at_most j false false = omega arith

signed_length : (j : ℕ) (cs os : List Bool) → length (signed j cs os) ≤ length cs
signed_length j [] os = omega arith
signed_length j (c ∷ cs) [] = omega arith
signed_length j (c ∷ cs) (o ∷ os) = omega (arith, ap length (signed_step j c o cs os), length-append (signed_at j c o) (signed (suc j) cs os), one_at_most j c o, signed_length (suc j) cs os)

named_at : (n j : ℕ) (c o : Bool) (ls : List ℤ) → j < n → first_unnamed n ls ≡ None → first_unnamed n (signed_at j c o ++ ls) ≡ None
named_at n j true o ls lt h = cond-true _ _ _ (lt-ltb j n lt) ∙ ap (option_map suc) h
named_at n j false true ls lt h = cond-true _ _ _ (lt-ltb j n lt) ∙ ap (option_map suc) h
named_at n j false false ls lt h = h

signed_named : (n j : ℕ) (cs os : List Bool) → j + length cs ≤ n → first_unnamed n (signed j cs os) ≡ None
signed_named n j [] os h = refl
signed_named n j (c ∷ cs) [] h = refl
signed_named n j (c ∷ cs) (o ∷ os) h = ap (first_unnamed n) (signed_step j c o cs os) ∙ named_at n j c o (signed (suc j) cs os) (omega arith) (signed_named n (suc j) cs os (omega arith))

-- each of them names a contact
pub wanted_named : (n : ℕ) (t : Term) → first_unnamed n (wanted n t) ≡ None
wanted_named n t = signed_named n 0 (digits n t.closed) (digits n t.opened) (omega (arith, length_digits n t.closed))

-- the literals that are wanted of the first i contacts
abbrev pub wanted_front : ℕ → Term → ℕ → List ℤ
wanted_front n t i = signed 0 (take i (digits n t.closed)) (take i (digits n t.opened))

module _ (n : ℕ) (t : Term) where
  pub front_length : (i : ℕ) → length (wanted_front n t i) ≤ i
  front_length i = omega (arith, signed_length 0 (take i (digits n t.closed)) (take i (digits n t.opened)), short i (digits n t.closed)) where
    short : {A : Type 0} (i : ℕ) (xs : List A) → length (take i xs) ≤ i
    short zero xs = omega arith
    short (suc i) [] = omega arith
    short (suc i) (x ∷ xs) = let h = short i xs in omega arith

  pub front_more : (i : ℕ) → i < n → wanted_front n t (i + 1) ≡ wanted_front n t i ++ signed_at i (bit t.closed (n - 1 - i)) (bit t.opened (n - 1 - i))
  front_more i lt =
      let cs : List Bool = digits n t.closed in
      let os : List Bool = digits n t.opened in
      let lc : length cs ≡ n = length_digits n t.closed in
      let lo : length os ≡ n = length_digits n t.opened in
      let tc : length (take i cs) ≡ i = length-take-le i cs (omega arith) in
      let to : length (take i os) ≡ i = length-take-le i os (omega arith) in
      ap₂ (signed 0) (take_more cs i false (omega arith)) (take_more os i false (omega arith))
      ∙ signed_push 0 (take i cs) (take i os) (get_or cs i false) (get_or os i false) (omega arith)
      ∙ ap (λ k. signed 0 (take i cs) (take i os) ++ signed_at k (get_or cs i false) (get_or os i false)) (omega arith)
      ∙ ap₂ (λ c o. signed 0 (take i cs) (take i os) ++ signed_at i c o) (digits_at n t.closed i lt) (digits_at n t.opened i lt)

  pub front_all : (i : ℕ) → n ≤ i → wanted_front n t i ≡ wanted n t
  front_all i le = ap₂ (signed 0) (take_all i (digits n t.closed) (omega (arith, length_digits n t.closed))) (take_all i (digits n t.opened) (omega (arith, length_digits n t.opened)))
