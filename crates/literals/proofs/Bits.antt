-- The bits of masks.
use Rattle.std.proofs.Common.{◌≡◌, ℕ, zero, suc, ◌+◌, ◌-◌, ◌*◌, ◌/◌, ◌%◌, ◌^◌, ◌<◌, ◌≤◌, Bool, true, false, not, ◌&&◌, ◌||◌, eqb, sym, refl, ap, ◌∙◌, subst, ⊎_elim, pow-suc, one-add, arith}
use lib.Bits.{bit_and, bit_or, bit_xor}
use lib.Pow.{ones_lt, ones_split}
use Rattle.std.proofs.lemmas.Nat.{and_shr, and_mod, or_shr, or_mod, xor_shr, xor_mod, pow-add, pow_pos, shl-shr, shr-shr, shr_high, pow_below, div_below}
use Rattle.std.proofs.lemmas.Bool.{eq-eqb, ne_eqb, cases_order, cases_eq}
use Rattle.literals.specs.Bits.{bit}

abbrev pub xor : Bool → Bool → Bool
xor true b = not b
xor false b = b

-- an operation on masks whose bits are those of an operation on Bools
module _ (op : ℕ → ℕ → ℕ) (on : Bool → Bool → Bool) (shr : (a b k : ℕ) → op a b / 2 ^ k ≡ op (a / 2 ^ k) (b / 2 ^ k)) (low : (a b k : ℕ) → op a b % 2 ^ k ≡ op (a % 2 ^ k) (b % 2 ^ k)) (table : (x y : ℕ) → x < 2 → y < 2 → eqb (op x y) 1 ≡ on (eqb x 1) (eqb y 1)) where
  bitwise : (a b k : ℕ) → bit (op a b) k ≡ on (bit a k) (bit b k)
  unfolding bit
  bitwise a b k =
      ap (λ (x : ℕ). eqb (x % 2) 1) (shr a b k) ∙ ap (λ (x : ℕ). eqb x 1) (low (a / 2 ^ k) (b / 2 ^ k) 1)
      ∙ table (a / 2 ^ k % 2) (b / 2 ^ k % 2) (omega arith) (omega arith)

or_table : (x y : ℕ) → x < 2 → y < 2 → eqb (bit_or x y) 1 ≡ (eqb x 1 || eqb y 1)
or_table zero y hx hy = refl
or_table (suc zero) zero hx hy = refl
or_table (suc zero) (suc zero) hx hy = refl
or_table (suc zero) (suc (suc y)) hx hy = absurd (omega arith)
or_table (suc (suc x)) y hx hy = absurd (omega arith)

and_table : (x y : ℕ) → x < 2 → y < 2 → eqb (bit_and x y) 1 ≡ (eqb x 1 && eqb y 1)
and_table zero y hx hy = refl
and_table (suc zero) zero hx hy = refl
and_table (suc zero) (suc zero) hx hy = refl
and_table (suc zero) (suc (suc y)) hx hy = absurd (omega arith)
and_table (suc (suc x)) y hx hy = absurd (omega arith)

xor_table : (x y : ℕ) → x < 2 → y < 2 → eqb (bit_xor x y) 1 ≡ xor (eqb x 1) (eqb y 1)
xor_table zero y hx hy = refl
xor_table (suc zero) zero hx hy = refl
xor_table (suc zero) (suc zero) hx hy = refl
xor_table (suc zero) (suc (suc y)) hx hy = absurd (omega arith)
xor_table (suc (suc x)) y hx hy = absurd (omega arith)

pub bit_of_or : (a b k : ℕ) → bit (bit_or a b) k ≡ (bit a k || bit b k)
bit_of_or = bitwise bit_or ◌||◌ or_shr or_mod or_table

pub bit_of_and : (a b k : ℕ) → bit (bit_and a b) k ≡ (bit a k && bit b k)
bit_of_and = bitwise bit_and ◌&&◌ and_shr and_mod and_table

pub bit_of_xor : (a b k : ℕ) → bit (bit_xor a b) k ≡ xor (bit a k) (bit b k)
bit_of_xor = bitwise bit_xor xor xor_shr xor_mod xor_table

-- a number has no bit at or beyond its length
pub bit_beyond : (m n k : ℕ) → m < 2 ^ n → n ≤ k → bit m k ≡ false
unfolding bit
bit_beyond m n k lt le =
    let big : m < 2 ^ k = ⊎_elim (λ e. subst (λ j. m < 2 ^ j) e lt) (λ ne. omega (arith, pow_below n k (omega (arith, ne)))) (cases_eq n k) in
    let z : m / 2 ^ k < 1 = div_below m (2 ^ k) 1 (pow_pos k) (omega arith) in
    let e : m / 2 ^ k ≡ 0 = omega arith in
    ap (λ (x : ℕ). eqb (x % 2) 1) e

pub bit_zero : (k : ℕ) → bit 0 k ≡ false
bit_zero k = bit_beyond 0 0 k (omega arith) (omega arith)

quotient_low : (k j : ℕ) → j < k → 2 ^ k / 2 ^ j % 2 ≡ 0
quotient_low k j h =
    let i : ℕ = k - j - 1 in
    let split : suc i + j ≡ k = omega arith in
    let e : 2 ^ k ≡ 2 ^ suc i * 2 ^ j = ap (λ (x : ℕ). 2 ^ x) (sym split) ∙ pow-add 2 (suc i) j in
    let q : 2 ^ k / 2 ^ j ≡ 2 ^ suc i = ap (λ (x : ℕ). x / 2 ^ j) e ∙ shl-shr (2 ^ suc i) j in
    let s : 2 ^ suc i ≡ 2 ^ i * 2 = pow-suc 2 i in
    omega arith

-- a power of two has one bit
pub bit_pow : (k j : ℕ) → bit (2 ^ k) j ≡ eqb j k
unfolding bit
bit_pow k j =
    ⊎_elim
    (λ e.
    let o : 2 ^ k / 2 ^ j ≡ 1 = ap (λ (x : ℕ). 2 ^ k / 2 ^ x) e ∙ ap (λ (x : ℕ). x / 2 ^ k) (omega arith) ∙ shl-shr 1 k in
    eq-eqb _ 1 (ap (λ (x : ℕ). x % 2) o) ∙ sym (eq-eqb j k e))
    (⊎_elim
    (λ h. ne_eqb _ 1 (omega (arith, quotient_low k j h)) ∙ sym (ne_eqb j k (omega arith)))
    (λ h.
    let z : 2 ^ k / 2 ^ j < 1 = div_below (2 ^ k) (2 ^ j) 1 (pow_pos j) (omega (arith, pow_below k j h)) in
    ne_eqb _ 1 (omega arith) ∙ sym (ne_eqb j k (omega arith))))
    (cases_order j k)

-- the first n bits of 2 ^ n - 1 are all set
pub bit_ones : (n k : ℕ) → k < n → bit (2 ^ n - 1) k ≡ true
unfolding bit
bit_ones n k lt =
    let j : ℕ = n - k - 1 in
    let split : suc j + k ≡ n = omega arith in
    let e : 2 ^ n - 1 ≡ (2 ^ suc j - 1) * 2 ^ k + (2 ^ k - 1) = ap (λ (x : ℕ). 2 ^ x - 1) (sym split) ∙ ones_split (suc j) k in
    let q : (2 ^ n - 1) / 2 ^ k ≡ 2 ^ suc j - 1 = ap (λ (x : ℕ). x / 2 ^ k) e ∙ shr_high (2 ^ suc j - 1) k (2 ^ k - 1) (ones_lt k) in
    let s : 2 ^ suc j ≡ 2 ^ j * 2 = pow-suc 2 j in
    let p = pow_pos j in
    eq-eqb _ 1 (omega arith)

-- one bit more
pub bit_more : (m k j : ℕ) → bit (bit_or m (2 ^ k)) j ≡ (bit m j || eqb j k)
bit_more m k j = bit_of_or m (2 ^ k) j ∙ ap (λ b. bit m j || b) (bit_pow k j)

-- a number that is not 0 has a bit
bit_half : (m k : ℕ) → bit (m / 2) k ≡ bit m (suc k)
unfolding bit
bit_half m k = ap (λ (x : ℕ). eqb (x % 2) 1) (shr-shr m 1 k ∙ ap (λ (x : ℕ). m / 2 ^ x) (one-add k))

bit_first : (m : ℕ) → m % 2 ≡ 1 → bit m 0 ≡ true
unfolding bit
bit_first m h = eq-eqb _ 1 (omega arith)

pub bit_some : (n m : ℕ) → m < 2 ^ n → (m ≡ 0 → ⊥) → (k : ℕ) × ((k < n) × (bit m k ≡ true))
bit_some zero m h ne = absurd (ne (omega arith))
bit_some (suc n) m h ne =
    ⊎_elim
    (λ e. (0, (omega arith, bit_first m e)))
    (λ e.
    let p : 2 ^ suc n ≡ 2 ^ n * 2 = pow-suc 2 n in
    let r = bit_some n (m / 2) (omega arith) (λ z. ne (omega arith)) in
    (suc r.0, (omega (arith, r.1.0), sym (bit_half m r.0) ∙ r.1.1)))
    (cases_eq (m % 2) 1)
