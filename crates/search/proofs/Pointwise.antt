-- Rules and bars variable by variable: a rule is met at some variable, and a bar covers at each.
use Rattle.std.proofs.Common.{◌≡◌, ℕ, zero, suc, ◌+◌, ◌<◌, Bool, true, false, not, List, [], ◌∷◌, length, get_or, refl, subst, ⊎_elim, arith}
use Rattle.std.proofs.lemmas.Bool.{and_parts, and_from, or_cases, or_left, or_right, not-true, not_from_false}
use Rattle.literals.specs.declared.LiteralSet.{LiteralSet}
use Rattle.literals.specs.Literals.{has}
use Rattle.settings.specs.Settings.{meets_from, covers_from, meets, covers}

meets_from_in : (j : ℕ) (s : LiteralSet) (x : List Bool) (i k : ℕ) → i ≡ j + k → k < length x → has s i (get_or x k false) ≡ true → meets_from j s x ≡ true
meets_from_in j s [] i k e lt h = absurd (omega arith)
meets_from_in j s (b ∷ x) i zero e lt h = or_left _ _ (subst (λ i. has s i b ≡ true) {x = i} {y = j} (omega arith) h)
meets_from_in j s (b ∷ x) i (suc k) e lt h = or_right (has s j b) _ (meets_from_in (suc j) s x i k (omega arith) (omega arith) h)

pub meets_in : (s : LiteralSet) (x : List Bool) (k : ℕ) → k < length x → has s k (get_or x k false) ≡ true → meets s x ≡ true
meets_in s x k lt h = meets_from_in 0 s x k k (omega arith) lt h

meets_from_out : (j : ℕ) (s : LiteralSet) (x : List Bool) → meets_from j s x ≡ true → (k : ℕ) × (k < length x) × (has s (j + k) (get_or x k false) ≡ true)
meets_from_out j s [] h = absurd (let z : ◌≡◌ {A = Bool} false true = h in grind arith)
meets_from_out j s (b ∷ x) h =
    ⊎_elim
    (λ e. (0, omega arith, subst (λ i. has s i b ≡ true) {x = j} {y = j + 0} (omega arith) e))
    (λ e. let r = meets_from_out (suc j) s x e in (suc r.0, omega (arith, r.1), subst (λ i. has s i (get_or x r.0 false) ≡ true) {x = suc j + r.0} {y = j + suc r.0} (omega arith) r.2))
    (or_cases _ _ h)

pub meets_out : (s : LiteralSet) (x : List Bool) → meets s x ≡ true → (k : ℕ) × (k < length x) × (has s k (get_or x k false) ≡ true)
meets_out s x h = let r = meets_from_out 0 s x h in (r.0, r.1, subst (λ i. has s i (get_or x r.0 false) ≡ true) {x = 0 + r.0} {y = r.0} (omega arith) r.2)

covers_from_in : (j : ℕ) (s : LiteralSet) (x : List Bool) → ((i k : ℕ) → i ≡ j + k → k < length x → has s i (not (get_or x k false)) ≡ false) → covers_from j s x ≡ true
covers_from_in j s [] h = refl
covers_from_in j s (b ∷ x) h = and_from _ _ (not_from_false _ (h j 0 (omega arith) (omega arith))) (covers_from_in (suc j) s x (λ i k e lt. h i (suc k) (omega arith) (omega arith)))

pub covers_in : (s : LiteralSet) (x : List Bool) → ((k : ℕ) → k < length x → has s k (not (get_or x k false)) ≡ false) → covers s x ≡ true
covers_in s x h = covers_from_in 0 s x (λ i k e lt. subst (λ i. has s i (not (get_or x k false)) ≡ false) {x = k} {y = i} (omega arith) (h k lt))

covers_from_out : (j : ℕ) (s : LiteralSet) (x : List Bool) → covers_from j s x ≡ true → (i k : ℕ) → i ≡ j + k → k < length x → has s i (not (get_or x k false)) ≡ false
covers_from_out j s [] h i k e lt = absurd (omega arith)
covers_from_out j s (b ∷ x) h i zero e lt = subst (λ i. has s i (not b) ≡ false) {x = j} {y = i} (omega arith) (not-true _ (and_parts _ _ h).0)
covers_from_out j s (b ∷ x) h i (suc k) e lt = covers_from_out (suc j) s x (and_parts (not (has s j (not b))) _ h).1 i k (omega arith) (omega arith)

pub covers_out : (s : LiteralSet) (x : List Bool) → covers s x ≡ true → (k : ℕ) → k < length x → has s k (not (get_or x k false)) ≡ false
covers_out s x h k lt = covers_from_out 0 s x h k k (omega arith) lt
