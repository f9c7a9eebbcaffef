-- What one more decided variable changes.
use Rattle.std.proofs.Common.{◌≡◌, ℕ, zero, suc, ◌+◌, ◌-◌, ◌%◌, ◌^◌, ◌<◌, ◌≤◌, min, Bool, true, false, cond, not, ◌&&◌, ◌||◌, eqb, ltb, List, length, get_or, sym, refl, ap, ◌∙◌, ap₂, ⊎_elim, arith}
use lib.Bits.{bit_and}
use Rattle.std.proofs.lemmas.Nat.{and_mask, and_le_r, pow_pos}
use Rattle.std.proofs.lemmas.List.FromFn.{get_or-map-range_with_len, length-map-range_with_len, fill_by_all}
use Rattle.std.proofs.lemmas.Bool.{eqb-true, eqb-false, eq-eqb, ne_eqb, lt-ltb, le-ltb, and_from, and_parts, or_from, or_parts, both_ways, cases_eq, cases_lt, cond-true, not-true, not-false}
use Rattle.std.proofs.lemmas.Bool.Decides.{nat_tests}
use Rattle.literals.specs.Bits.{bit}
use Rattle.literals.specs.Literals.{has}
use Rattle.literals.proofs.Bits.{bit_of_and, bit_more, bit_zero, bit_some, bit_beyond, bit_ones}
use Rattle.literals.proofs.Booleans.{and_true}
use Rattle.settings.specs.Readings.{reading}
use Rattle.search.specs.declared.Assignment.{Assignment}
use Rattle.search.specs.Assignments.{taken, agreeing, decided, both, Clear, low_mask, clashing, put, with_value, filled, low_half, count_below, undecided}
use Rattle.search.proofs.Pointwise.{covers_in, covers_out}

pub with_put : (a : Assignment) (k : ℕ) (b : Bool) → k < 64 → with_value a k b ≡ put a k b
with_put a k b lt = cond-true (ltb k 64) (put a k b) a (lt-ltb k 64 lt)

-- ---- settings that agree with one more

has_put : (a : Assignment) (w k : ℕ) (c b : Bool) → has (taken a) k (not b) ≡ false → (k ≡ w → b ≡ c) → has (taken (put a w c)) k (not b) ≡ false
has_put a w k true true h g = h
has_put a w k true false h g = bit_more a.closed w k ∙ or_from _ _ h (ne_eqb k w (λ e. both_ways _ refl (g e)))
has_put a w k false true h g = bit_more a.opened w k ∙ or_from _ _ h (ne_eqb k w (λ e. both_ways _ refl (sym (g e))))
has_put a w k false false h g = h

has_less : (a : Assignment) (w k : ℕ) (c b : Bool) → has (taken (put a w c)) k b ≡ false → has (taken a) k b ≡ false
has_less a w k true true h = (or_parts _ _ (sym (bit_more a.closed w k) ∙ h)).0
has_less a w k true false h = h
has_less a w k false true h = h
has_less a w k false false h = (or_parts _ _ (sym (bit_more a.opened w k) ∙ h)).0

pub agreeing_put : (a : Assignment) (w : ℕ) (c : Bool) (x : List Bool) → agreeing a x ≡ true → get_or x w false ≡ c → agreeing (put a w c) x ≡ true
agreeing_put a w c x h g =
    covers_in (taken (put a w c)) x (λ k lt. has_put a w k c (get_or x k false) (covers_out (taken a) x h k lt) (λ e. ap (λ k. get_or x k false) e ∙ g))

pub agreeing_less : (a : Assignment) (w : ℕ) (c : Bool) (x : List Bool) → agreeing (put a w c) x ≡ true → agreeing a x ≡ true
agreeing_less a w c x h = covers_in (taken a) x (λ k lt. has_less a w k c (not (get_or x k false)) (covers_out (taken (put a w c)) x h k lt))

-- ---- no clash

pub clear_put : (n : ℕ) (a : Assignment) (w : ℕ) (c : Bool) → Clear n a → decided a w ≡ false → Clear n (put a w c)
clear_put n a w true h g k lt =
    ap (λ b. b && bit a.opened k) (bit_more a.closed w k) ∙ new (bit a.closed k) (bit a.opened k) (eqb k w) (h k lt) (λ e. ap (decided a) (eqb-true k w e) ∙ g)
  where
    new : (x y e : Bool) → (x && y) ≡ false → (e ≡ true → (x || y) ≡ false) → ((x || e) && y) ≡ false
    new x y true h g = let q = g refl in grind (arith, nat_tests)
    new x y false h g = grind (arith, nat_tests)
clear_put n a w false h g k lt =
    ap (λ b. bit a.closed k && b) (bit_more a.opened w k) ∙ new (bit a.closed k) (bit a.opened k) (eqb k w) (h k lt) (λ e. ap (decided a) (eqb-true k w e) ∙ g)
  where
    new : (x y e : Bool) → (x && y) ≡ false → (e ≡ true → (x || y) ≡ false) → (x && (y || e)) ≡ false
    new x y true h g = let q = g refl in grind (arith, nat_tests)
    new x y false h g = grind (arith, nat_tests)

-- the bits of a mask at the first n variables
pub bit_mod : (m n k : ℕ) → k < n → bit (m % 2 ^ n) k ≡ bit m k
bit_mod m n k lt = ap (λ (x : ℕ). bit x k) (sym (and_mask m n)) ∙ bit_of_and m (2 ^ n - 1) k ∙ ap (λ b. bit m k && b) (bit_ones n k lt) ∙ grind (arith, nat_tests)

ones_low : (n k : ℕ) → bit (2 ^ n - 1) k ≡ ltb k n
ones_low n k =
    ⊎_elim
    (λ lt. bit_ones n k lt ∙ sym (lt-ltb k n lt))
    (λ ge. bit_beyond (2 ^ n - 1) n k (omega (arith, pow_pos n)) ge ∙ sym (le-ltb k n ge))
    (cases_lt k n)

pub bit_low : (m n k : ℕ) → n ≤ 64 → bit (bit_and m (low_mask n)) k ≡ (bit m k && ltb k n)
bit_low m n k few =
    let e : min n 64 ≡ n = omega arith in
    bit_of_and m (low_mask n) k ∙ ap (λ b. bit m k && b) (ap (λ (x : ℕ). bit (2 ^ x - 1) k) e ∙ ones_low n k)

-- ---- how many variables are undecided

pub count_same : (n : ℕ) (p q : ℕ → Bool) → ((k : ℕ) → k < n → p k ≡ q k) → count_below n p ≡ count_below n q
count_same zero p q h = refl
count_same (suc n) p q h = ap₂ (λ x y. cond x 1 0 + y) (h n (omega arith)) (count_same n p q (λ k lt. h k (omega arith)))

pub count_le : (n : ℕ) (p : ℕ → Bool) → count_below n p ≤ n
count_le zero p = omega arith
count_le (suc n) p = let r = count_le n p in elim (p n) as (λ b. cond b 1 0 + count_below n p ≤ suc n) [ true ↦ omega arith | false ↦ omega arith ]

count_less : (n : ℕ) (p q : ℕ → Bool) (w : ℕ) → w < n → p w ≡ true → q w ≡ false → ((k : ℕ) → (k ≡ w → ⊥) → p k ≡ q k) → count_below n q + 1 ≡ count_below n p
count_less zero p q w lt pt qf h = absurd (omega arith)
count_less (suc n) p q w lt pt qf h =
    ⊎_elim
    (λ e.
    let s : count_below n p ≡ count_below n q = count_same n p q (λ k l. h k (omega arith)) in
    let x : ◌≡◌ {A = ℕ} (cond (q n) 1 0) 0 = ap (λ b. cond b 1 0) (ap q (sym e) ∙ qf) in
    let y : ◌≡◌ {A = ℕ} (cond (p n) 1 0) 1 = ap (λ b. cond b 1 0) (ap p (sym e) ∙ pt) in
    omega arith)
    (λ ne.
    let r : count_below n q + 1 ≡ count_below n p = count_less n p q w (omega (arith, ne)) pt qf h in
    let x : ◌≡◌ {A = ℕ} (cond (p n) 1 0) (cond (q n) 1 0) = ap (λ b. cond b 1 0) (h n (λ e. ne (sym e))) in
    omega arith)
    (cases_eq w n)

table_closed : (x y e : Bool) → ((x || e) || y) ≡ ((x || y) || e)
table_closed x y e = grind (arith, nat_tests)

table_opened : (x y e : Bool) → (x || (y || e)) ≡ ((x || y) || e)
table_opened x y e = grind (arith, nat_tests)

pub decided_put : (a : Assignment) (w : ℕ) (c : Bool) (k : ℕ) → decided (put a w c) k ≡ (decided a k || eqb k w)
decided_put a w true k = ap (λ b. b || bit a.opened k) (bit_more a.closed w k) ∙ table_closed (bit a.closed k) (bit a.opened k) (eqb k w)
decided_put a w false k = ap (λ b. bit a.closed k || b) (bit_more a.opened w k) ∙ table_opened (bit a.closed k) (bit a.opened k) (eqb k w)

table_other : (d e : Bool) → e ≡ false → not d ≡ not (d || e)
table_other d e h = grind (arith, nat_tests)

table_here : (d e : Bool) → e ≡ true → not (d || e) ≡ false
table_here d e h = grind (arith, nat_tests)

pub undecided_put : (n : ℕ) (a : Assignment) (w : ℕ) (c : Bool) → w < n → decided a w ≡ false → undecided n (put a w c) + 1 ≡ undecided n a
undecided_put n a w c lt g =
    count_less n (λ k. not (decided a k)) (λ k. not (decided (put a w c) k)) w lt (ap not g)
    (ap not (decided_put a w c w) ∙ table_here (decided a w) (eqb w w) (eq-eqb w w refl))
    (λ k ne. table_other (decided a k) (eqb k w) (ne_eqb k w ne) ∙ sym (ap not (decided_put a w c k)))

-- ---- the setting with the rest open

pub length_filled : (n : ℕ) (a : Assignment) → length (filled n a) ≡ n
length_filled n a = length-map-range_with_len (λ k. bit a.closed k) 0 n

pub get_or_filled : (n : ℕ) (a : Assignment) (k : ℕ) → k < n → get_or (filled n a) k false ≡ bit a.closed k
get_or_filled n a k lt = get_or-map-range_with_len (λ k. bit a.closed k) 0 n k k false lt (omega arith)

has_own : (a : Assignment) (k : ℕ) (b : Bool) → b ≡ bit a.closed k → both a k ≡ false → has (taken a) k (not b) ≡ false
has_own a k true e h = let q : bit a.closed k ≡ true = sym e in grind (arith, nat_tests)
has_own a k false e h = sym e

pub agreeing_own : (n : ℕ) (a : Assignment) → Clear n a → agreeing a (filled n a) ≡ true
agreeing_own n a c =
    covers_in (taken a) (filled n a)
    (λ k lt. let l : k < n = omega (arith, length_filled n a) in has_own a k (get_or (filled n a) k false) (get_or_filled n a k l) (c k l))

has_clash : (a : Assignment) (k : ℕ) (b : Bool) → both a k ≡ true → has (taken a) k (not b) ≡ false → ⊥
has_clash a k true h e = both_ways _ e (and_parts (bit a.closed k) _ h).1
has_clash a k false h e = both_ways _ e (and_parts _ (bit a.opened k) h).0

pub clash_none : (a : Assignment) (x : List Bool) (k : ℕ) → k < length x → both a k ≡ true → agreeing a x ≡ true → ⊥
clash_none a x k lt h e = has_clash a k (get_or x k false) h (covers_out (taken a) x e k lt)

-- the test for a clash by masks
low_below : (n m : ℕ) → bit_and m (low_mask n) < 2 ^ min n 64
low_below n m = omega (arith, and_le_r m (low_mask n), pow_pos (min n 64))

pub clashing_some : (n : ℕ) (a : Assignment) → n ≤ 64 → clashing n a ≡ true → (k : ℕ) × (k < n) × (both a k ≡ true)
clashing_some n a few h =
    let m = bit_and a.closed a.opened in
    let s = bit_some (min n 64) (bit_and m (low_mask n)) (low_below n m) (eqb-false _ 0 (not-true _ h)) in
    let p = and_parts _ _ (sym (bit_low m n s.0 few) ∙ s.1.1) in
    (s.0, omega (arith, s.1.0), sym (bit_of_and a.closed a.opened s.0) ∙ p.0)

pub clashing_none : (n : ℕ) (a : Assignment) → n ≤ 64 → clashing n a ≡ false → Clear n a
clashing_none n a few h k lt =
    let m = bit_and a.closed a.opened in
    let z : bit (bit_and m (low_mask n)) k ≡ false = ap (λ m. bit m k) (eqb-true _ 0 (not-false _ h)) ∙ bit_zero k in
    let q : (both a k && true) ≡ false = ap₂ (λ x y. x && y) (sym (bit_of_and a.closed a.opened k)) (sym (lt-ltb k n lt)) ∙ sym (bit_low m n k few) ∙ z in
    grind (arith, nat_tests)

-- ---- the record of the setting

low_bit : (a : Assignment) (k : ℕ) → k < 32 → bit (low_half a).closed k ≡ bit a.closed k
low_bit a k lt = bit_of_and a.closed 0xffff_ffff k ∙ ap (λ b. bit a.closed k && b) (bit_ones 32 k lt) ∙ and_true (bit a.closed k)

pub reading_low : (n : ℕ) (a : Assignment) → n ≤ 32 → reading n (low_half a) ≡ filled n a
reading_low n a few =
    sym (fill_by_all (λ k. bit (low_half a).closed k) (filled n a) n false (length_filled n a) (λ k lt. get_or_filled n a k lt ∙ sym (low_bit a k (omega arith))))

-- ---- two assignments that `!=` tells apart

pub differ : (a b : Assignment) → not (eqb a.closed b.closed && eqb a.opened b.opened) ≡ true → a ≡ b → ⊥
differ a b h e = both_ways _ (not-true _ h) (and_from _ _ (eq-eqb a.closed b.closed (ap (λ a. a.closed) e)) (eq-eqb a.opened b.opened (ap (λ a. a.opened) e)))
