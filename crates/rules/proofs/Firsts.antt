-- The first number of a range that passes a test.
use Rattle.std.proofs.Common.{◌≡◌, ℕ, zero, suc, ◌+◌, ◌<◌, ◌≤◌, Bool, true, false, cond, Some, None, Option, sym, refl, ap, ◌∙◌, subst, ⊎_elim, arith}
use Rattle.std.proofs.lemmas.Bool.{cases_eq}
use Rattle.std.specs.List.{find, range_with_len}

-- among the n numbers from j on the test holds at the one that is found, and at none before it; where none is found, at none
abbrev pub IsFirst : (ℕ → Bool) → ℕ → ℕ → Option ℕ → Type 0
IsFirst p j n (Some i) = (j ≤ i) × (i < j + n) × (p i ≡ true) × ((k : ℕ) → j ≤ k → k < i → p k ≡ false)
IsFirst p j n None = (k : ℕ) → j ≤ k → k < j + n → p k ≡ false

module _ (p : ℕ → Bool) where
  -- what holds at j and behind it holds from j on
  from_here : (j : ℕ) → p j ≡ false → (e : ℕ) → ((k : ℕ) → j + 1 ≤ k → k < e → p k ≡ false) → (k : ℕ) → j ≤ k → k < e → p k ≡ false
  from_here j here e behind k le lt = ⊎_elim (λ same. ap p same ∙ here) (λ ne. behind k (omega (arith, ne)) lt) (cases_eq k j)

  one_more : (j n : ℕ) (r : Option ℕ) → p j ≡ false → IsFirst p (j + 1) n r → IsFirst p j (suc n) r
  one_more j n (Some i) here h = (omega arith, omega arith, h.2, from_here j here i h.3)
  one_more j n None here h = λ k le lt. from_here j here (j + suc n) (λ i up below. h i (omega arith) (omega arith)) k le lt

  at : (j n : ℕ) (b : Bool) → p j ≡ b → IsFirst p (j + 1) n (find p (range_with_len (j + 1) n)) → IsFirst p j (suc n) (find p (range_with_len j (suc n)))
  at j n true e behind = subst (IsFirst p j (suc n)) (ap (λ b. cond b (Some j) (find p (range_with_len (j + 1) n))) (sym e)) (omega arith, omega arith, e, λ k le lt. absurd (omega arith))
  at j n false e behind = subst (IsFirst p j (suc n)) (ap (λ b. cond b (Some j) (find p (range_with_len (j + 1) n))) (sym e)) (one_more j n _ e behind)

  pub found_first : (j n : ℕ) → IsFirst p j n (find p (range_with_len j n))
  found_first j zero = λ k le lt. absurd (omega arith)
  found_first j (suc n) = at j n (p j) refl (found_first (j + 1) n)
