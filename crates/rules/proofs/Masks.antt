-- Masks of a rule's variables: which bits they have, and when that is one alone.
use Rattle.std.proofs.Common.{◌≡◌, ℕ, ◌+◌, ◌-◌, ◌*◌, ◌/◌, ◌%◌, ◌^◌, ◌<◌, ◌≤◌, min, Bool, true, false, ◌&&◌, ◌||◌, eqb, ltb, sym, ap, ◌∙◌, ap₂, ⊎_elim, arith}
use lib.Bits.{bit_and, bit_or}
use Rattle.std.proofs.lemmas.Nat.{and_le_l, and_le_r, or_lt, xor_lt, pow_pos, div-mul-add, div-add-mod', mod_below}
use Rattle.std.proofs.lemmas.Bool.{eqb-true, eqb-false, not-true, not-false, both_ways, and_from, and_parts, cases_eq, cases_order}
use Rattle.literals.specs.Bits.{bit}
use Rattle.literals.specs.declared.LiteralSet.{LiteralSet}
use Rattle.literals.specs.Literals.{has}
use Rattle.literals.proofs.Bits.{xor, bit_of_or, bit_of_and, bit_of_xor, bit_zero, bit_some}
use Rattle.search.specs.declared.Assignment.{Assignment}
use Rattle.search.specs.Assignments.{decided, low_mask}
use Rattle.search.proofs.Assignments.{bit_mod, bit_low}
use Rattle.rules.specs.Rules.{restricted, met_mask, undecided_in, is_met, several}

-- ---- a mask with one bit alone

-- what lies below a bit is not 0 where a lower bit is set
some_below : (m j k : ℕ) → j < k → bit m j ≡ true → 0 < m % 2 ^ k
some_below m j k lt h = ⊎_elim (λ z. absurd (both_ways _ (sym (bit_mod m k j lt) ∙ ap (λ (x : ℕ). bit x j) z ∙ bit_zero j) h)) (λ ne. omega (arith, ne)) (cases_eq (m % 2 ^ k) 0)

same_above : (m k : ℕ) → 0 < m % 2 ^ k → bit (m - 1) k ≡ bit m k
unfolding bit
same_above m k h =
    let q : ℕ = m / 2 ^ k in
    let e : m - 1 ≡ q * 2 ^ k + (m % 2 ^ k - 1) = omega (arith, div-add-mod' m (2 ^ k)) in
    let d : (m - 1) / 2 ^ k ≡ q = ap (λ (x : ℕ). x / 2 ^ k) e ∙ div-mul-add q (2 ^ k) (m % 2 ^ k - 1) (omega (arith, mod_below m (2 ^ k) (pow_pos k))) in
    ap (λ (x : ℕ). eqb (x % 2) 1) d

two_bits : (m j k : ℕ) → j < k → bit m j ≡ true → bit m k ≡ true → several m ≡ false → ⊥
two_bits m j k lt hj hk h =
    let z : bit_and m (m - 1) ≡ 0 = eqb-true _ 0 (not-false _ h) in
    both_ways _ (sym (bit_of_and m (m - 1) k) ∙ ap (λ (x : ℕ). bit x k) z ∙ bit_zero k) (and_from _ _ hk (same_above m k (some_below m j k lt hj) ∙ hk))

pub one_bit : (m j k : ℕ) → several m ≡ false → bit m j ≡ true → bit m k ≡ true → j ≡ k
one_bit m j k h hj hk = ⊎_elim (λ e. e) (⊎_elim (λ lt. absurd (two_bits m j k lt hj hk h)) (λ lt. absurd (two_bits m k j lt hk hj h))) (cases_order j k)

-- ---- the bits of a rule's masks

pub has_restricted : (n : ℕ) (r : LiteralSet) (k : ℕ) (b : Bool) → n ≤ 64 → has (restricted n r) k b ≡ (has r k b && ltb k n)
has_restricted n r k true few = bit_low r.closed n k few
has_restricted n r k false few = bit_low r.opened n k few

module _ (r : LiteralSet) (a : Assignment) where
  pub met_bits : (k : ℕ) → bit (met_mask r a) k ≡ (((bit r.closed k && bit a.closed k) || (bit r.opened k && bit a.opened k)) || (bit r.closed k && bit r.opened k))
  met_bits k =
      bit_of_or _ _ k
      ∙ ap₂ (λ x y. x || y) (bit_of_or _ _ k ∙ ap₂ (λ x y. x || y) (bit_of_and r.closed a.closed k) (bit_of_and r.opened a.opened k)) (bit_of_and r.closed r.opened k)

  pub left_bits : (k : ℕ) → bit (undecided_in r a) k ≡ xor (bit r.closed k || bit r.opened k) ((bit r.closed k || bit r.opened k) && decided a k)
  left_bits k =
      let l = bit_of_or r.closed r.opened k in
      bit_of_xor _ _ k ∙ ap₂ xor l (bit_of_and _ _ k ∙ ap₂ (λ x y. x && y) l (bit_of_or a.closed a.opened k))

  pub none_met : is_met r a ≡ false → (k : ℕ) → bit (met_mask r a) k ≡ false
  none_met t k = ap (λ (m : ℕ). bit m k) (eqb-true _ 0 (not-false _ t)) ∙ bit_zero k

module _ (n : ℕ) (r : LiteralSet) (a : Assignment) where
  below_closed : (restricted n r).closed < 2 ^ min n 64
  below_closed = omega (arith, and_le_r r.closed (low_mask n), pow_pos (min n 64))

  below_opened : (restricted n r).opened < 2 ^ min n 64
  below_opened = omega (arith, and_le_r r.opened (low_mask n), pow_pos (min n 64))

  and_below : (m b c : ℕ) → b < 2 ^ m → bit_and b c < 2 ^ m
  and_below m b c h = omega (arith, and_le_l b c)

  pub is_met_at : is_met (restricted n r) a ≡ true → (k : ℕ) × (k < n) × (bit (met_mask (restricted n r) a) k ≡ true)
  is_met_at t =
      let lt : met_mask (restricted n r) a < 2 ^ min n 64 = or_lt (min n 64) _ _ (or_lt (min n 64) _ _ (and_below (min n 64) _ a.closed below_closed) (and_below (min n 64) _ a.opened below_opened)) (and_below (min n 64) _ _ below_closed) in
      let s = bit_some (min n 64) (met_mask (restricted n r) a) lt (eqb-false _ 0 (not-true _ t)) in
      (s.0, omega (arith, s.1.0), s.1.1)

  pub several_at : several (undecided_in (restricted n r) a) ≡ true → (k : ℕ) × (k < n) × (bit (undecided_in (restricted n r) a) k ≡ true)
  several_at t =
      let m = undecided_in (restricted n r) a in
      let vars : bit_or (restricted n r).closed (restricted n r).opened < 2 ^ min n 64 = or_lt (min n 64) _ _ below_closed below_opened in
      let lt : m < 2 ^ min n 64 = xor_lt (min n 64) _ _ vars (and_below (min n 64) _ (bit_or a.closed a.opened) vars) in
      let s = bit_some (min n 64) (bit_and m (m - 1)) (and_below (min n 64) m (m - 1) lt) (eqb-false _ 0 (not-true _ t)) in
      (s.0, omega (arith, s.1.0), (and_parts _ _ (sym (bit_of_and m (m - 1) s.0) ∙ s.1.1)).0)
