-- The record of chosen literals of a setting has the sums of their weights, and that of all of them the setting's number.
use Rattle.std.proofs.Common.{◌≡◌, ℕ, suc, ◌+◌, ◌-◌, ◌*◌, ◌^◌, Bool, true, false, List, [], ◌∷◌, map, length, ℤ, fold, sym, refl, ap, ◌∙◌, ap₂, arith, pow_pos}
use native.Mathlib.Nat.{two-pow-succ}
use lib.Bits.{bit_or, or_shifted}
use Rattle.std.proofs.lemmas.List.{length-map}
use Rattle.std.proofs.lemmas.Bool.{cond-true}
use Rattle.settings.specs.declared.Term.{Term}
use Rattle.settings.specs.Settings.{number, literal, literals}
use Rattle.settings.specs.TermRecords.{closed_weight, opened_weight, total, sums, with_wanted, record_of}
use Rattle.laws.specs.Choices.{chosen}
use Rattle.laws.proofs.Literals.{length_literals}
use Rattle.laws.proofs.Named.{names_literal}

-- the next lower weight is added to a multiple of the weight above it
or_next : (a k : ℕ) → bit_or (a * 2 ^ suc k) (2 ^ k) ≡ a * 2 ^ suc k + 2 ^ k
or_next a k = or_shifted a (suc k) (2 ^ k) (rw two-pow-succ (omega (arith, pow_pos k)))

odd_multiple : (a k : ℕ) → a * 2 ^ suc k + 2 ^ k ≡ (2 * a + 1) * 2 ^ k
odd_multiple a k = let p : 2 ^ suc k ≡ 2 * 2 ^ k = omega arith in rw p (omega arith)

even_multiple : (a k : ℕ) → a * 2 ^ suc k ≡ 2 * a * 2 ^ k
even_multiple a k = let p : 2 ^ suc k ≡ 2 * 2 ^ k = omega arith in rw p (omega arith)

abbrev both : ℕ → ℕ → Term
both c o = record { closed = c; opened = o }

-- one literal of a setting more: what is wanted of the contacts so far is a multiple of the weights above the contact's own
closed_next : (n j k a : ℕ) (o : ℕ) → n ≡ j + suc k → with_wanted n (both (a * 2 ^ suc k) o) (literal j true) ≡ both ((2 * a + 1) * 2 ^ k) o
closed_next n j k a o long =
    let e : n - suc j ≡ k = omega arith in
    cond-true _ _ _ (names_literal n j true (omega arith)) ∙ ap (λ w. both (bit_or (a * 2 ^ suc k) (2 ^ w)) o) e ∙ ap (λ c. both c o) (or_next a k ∙ odd_multiple a k)

opened_next : (n j k b : ℕ) (c : ℕ) → n ≡ j + suc k → with_wanted n (both c (b * 2 ^ suc k)) (literal j false) ≡ both c ((2 * b + 1) * 2 ^ k)
opened_next n j k b c long =
    let e : n - suc j ≡ k = omega arith in
    cond-true _ _ _ (names_literal n j false (omega arith)) ∙ ap (λ w. both c (bit_or (b * 2 ^ suc k) (2 ^ w))) e ∙ ap (both c) (or_next b k ∙ odd_multiple b k)

module _ (n : ℕ) where
  abbrev more : ℕ → ℕ → ℕ → List ℤ → Term
  more k a b ls = both (a * 2 ^ k + total (closed_weight n) ls) (b * 2 ^ k + total (opened_weight n) ls)

  fold_sums : (j a b : ℕ) (c s : List Bool) → length c ≡ length s → n ≡ j + length s → fold (with_wanted n) (both (a * 2 ^ length s) (b * 2 ^ length s)) (chosen c (literals j s)) ≡ more (length s) a b (chosen c (literals j s))
  fold_sums j a b [] [] l long = ap₂ both (omega arith) (omega arith)
  fold_sums j a b [] (d ∷ s) l long = absurd (omega arith)
  fold_sums j a b (e ∷ c) [] l long = absurd (omega arith)
  fold_sums j a b (false ∷ c) (d ∷ s) l long =
      let k : ℕ = length s in
      let ls : List ℤ = chosen c (literals (suc j) s) in
      ap (λ t. fold (with_wanted n) t ls) (ap₂ both (even_multiple a k) (even_multiple b k))
      ∙ fold_sums (suc j) (2 * a) (2 * b) c s (omega arith) (omega arith)
      ∙ ap₂ (λ x y. both (x + total (closed_weight n) ls) (y + total (opened_weight n) ls)) (sym (even_multiple a k)) (sym (even_multiple b k))
  fold_sums j a b (true ∷ c) (true ∷ s) l long =
      let k : ℕ = length s in
      let ls : List ℤ = chosen c (literals (suc j) s) in
      let w : 2 ^ (n - suc j) ≡ 2 ^ k = ap (λ e. 2 ^ e) (omega arith) in
      let odd = odd_multiple a k in
      ap (λ t. fold (with_wanted n) t ls) (closed_next n j k a (b * 2 ^ suc k) (omega arith) ∙ ap (both ((2 * a + 1) * 2 ^ k)) (even_multiple b k))
      ∙ fold_sums (suc j) (2 * a + 1) (2 * b) c s (omega arith) (omega arith)
      ∙ ap₂ both (omega arith) (ap (λ y. y + total (opened_weight n) ls) (sym (even_multiple b k)) ∙ omega arith)
  fold_sums j a b (true ∷ c) (false ∷ s) l long =
      let k : ℕ = length s in
      let ls : List ℤ = chosen c (literals (suc j) s) in
      let w : 2 ^ (n - suc j) ≡ 2 ^ k = ap (λ e. 2 ^ e) (omega arith) in
      let odd = odd_multiple b k in
      ap (λ t. fold (with_wanted n) t ls) (opened_next n j k b (a * 2 ^ suc k) (omega arith) ∙ ap (λ x. both x ((2 * b + 1) * 2 ^ k)) (even_multiple a k))
      ∙ fold_sums (suc j) (2 * a) (2 * b + 1) c s (omega arith) (omega arith)
      ∙ ap₂ both (ap (λ x. x + total (closed_weight n) ls) (sym (even_multiple a k)) ∙ omega arith) (omega arith)

-- the record of chosen literals is the one that is written
pub record_sums : (n : ℕ) (c x : List Bool) → length c ≡ length x → length x ≡ n → record_of n (chosen c (literals 0 x)) ≡ sums n (chosen c (literals 0 x))
record_sums n c x l sized =
    let ls : List ℤ = chosen c (literals 0 x) in
    ap₂ (λ a b. fold (with_wanted n) (both a b) ls) (zero-mul (2 ^ length x)) (zero-mul (2 ^ length x)) ∙ fold_sums n 0 0 0 c x l (omega arith) ∙ ap₂ both (omega arith) (omega arith)
  where
    zero-mul : (w : ℕ) → 0 ≡ 0 * w
    zero-mul w = omega arith

chosen_all : {A : Type 0} (xs : List A) → chosen (map (λ x. true) xs) xs ≡ xs
chosen_all [] = refl
chosen_all (x ∷ xs) = ap (λ t. x ∷ t) (chosen_all xs)

closed_number : (n j : ℕ) (x : List Bool) → n ≡ j + length x → total (closed_weight n) (literals j x) ≡ number x
closed_number n j [] long = refl
closed_number n j (true ∷ x) long =
    let w : 2 ^ (n - suc j) ≡ 2 ^ length x = ap (λ e. 2 ^ e) (omega arith) in
    ap₂ (λ a b. a + b) w (closed_number n (suc j) x (omega arith))
closed_number n j (false ∷ x) long = let h = closed_number n (suc j) x (omega arith) in omega arith

-- the record of all the literals of a setting wants closed what the setting has closed
pub record_number : (n : ℕ) (x : List Bool) → length x ≡ n → (record_of n (literals 0 x)).closed ≡ number x
record_number n x sized =
    let ls : List ℤ = literals 0 x in
    let c : List Bool = map (λ l. true) ls in
    let all : chosen c ls ≡ ls = chosen_all ls in
    ap (λ t. (record_of n t).closed) (sym all) ∙ ap (λ t. t.closed) (record_sums n c x (length-map ls (λ l. true) ∙ length_literals 0 x) sized) ∙ ap (λ t. (sums n t).closed) all ∙ closed_number n 0 x (omega arith)
