-- The lanes of an assignment that leaves at most six inputs undecided: each setting that agrees with it has one, and no other setting has.
use Rattle.std.proofs.Common.{◌≡◌, ℕ, zero, suc, ◌+◌, ◌^◌, ◌<◌, ◌≤◌, Bool, true, false, cond, not, ◌&&◌, ◌||◌, List, map, length, get_or, Some, None, sym, refl, ap, ◌∙◌, subst, ap₂, ⊎_elim, arith}
use mathlib.Core.Bool.{beq}
use mathlib.Core.List.{map-map}
use lib.Bits.{bit_or}
use Rattle.std.specs.List.{range_with_len}
use Rattle.std.proofs.lemmas.Nat.{or_lt, pow_pos, pow_below}
use Rattle.std.proofs.lemmas.List.FromFn.{fill_by_all, get_or-map-range_with_len, length-map-range_with_len}
use Rattle.std.proofs.lemmas.Bool.{both_ways, and_from, and_parts, cases_eq, eq-eqb, ne_eqb}
use Rattle.literals.specs.Bits.{bit}
use Rattle.literals.specs.Literals.{has}
use Rattle.literals.specs.declared.LiteralSet.{LiteralSet}
use Rattle.literals.proofs.Bits.{bit_zero, bit_beyond, bit_more}
use Rattle.literals.proofs.Booleans.{or_false}
use Rattle.search.specs.declared.Assignment.{Assignment}
use Rattle.search.specs.Assignments.{taken, agreeing, decided, Clear, filled, undecided}
use Rattle.search.proofs.Pointwise.{covers_in, covers_out}
use Rattle.networks.specs.declared.lent_gates.Circuit.{Circuit}
use Rattle.lanes.specs.Words.{all_lanes, pattern, input_word, input_words, circuit_good, good_word, FirstLane, Tried}
use Rattle.lanes.proofs.Lanes.{every_lane, good_lane}

-- ---- the patterns, by trying them all

every : ℕ → (ℕ → Bool) → Bool
every zero p = true
every (suc n) p = p n && every n p

every_out : (n : ℕ) (p : ℕ → Bool) → every n p ≡ true → (k : ℕ) → k < n → p k ≡ true
unfolding every
every_out zero p h k lt = absurd (omega arith)
every_out (suc n) p h k lt =
    let q = and_parts (p n) (every n p) h in
    ⊎_elim (λ e. ap p e ∙ q.0) (λ ne. every_out n p q.1 k (omega (arith, ne))) (cases_eq k n)

same_out : (a b : Bool) → beq a b ≡ true → a ≡ b
same_out true true h = refl
same_out true false h = absurd (both_ways false refl h)
same_out false true h = absurd (both_ways false refl h)
same_out false false h = refl

patterns : every 6 (λ r. every 64 (λ j. beq (bit (pattern r) j) (bit j r))) ≡ true
unfolding every bit
patterns = refl

pattern_lane : (r j : ℕ) → r < 6 → j < 64 → bit (pattern r) j ≡ bit j r
pattern_lane r j lr lj = same_out _ _ (every_out 64 (λ j. beq (bit (pattern r) j) (bit j r)) (every_out 6 (λ r. every 64 (λ j. beq (bit (pattern r) j) (bit j r))) patterns r lr) j lj)

-- ---- the rank of an undecided input

pow_six : (r : ℕ) → r ≤ 6 → 2 ^ r ≤ 64
pow_six r le = ⊎_elim (λ e. subst (λ m. m ≤ 64) (sym (ap (λ r. 2 ^ r) e)) (omega arith)) (λ ne. let b : 2 ^ r < 2 ^ 6 = pow_below r 6 (omega (arith, ne)) in omega arith) (cases_eq r 6)

module _ (a : Assignment) where
  rank_below : (n k : ℕ) → k < n → decided a k ≡ false → undecided k a < undecided n a
  rank_below zero k lt free = absurd (omega arith)
  rank_below (suc n) k lt free =
      ⊎_elim
      (λ e.
      let one : ◌≡◌ {A = ℕ} (cond (not (decided a n)) 1 0) 1 = ap (λ d. cond (not d) 1 0) (ap (decided a) (sym e) ∙ free) in
      let same : undecided k a ≡ undecided n a = ap (λ n. undecided n a) e in
      omega arith)
      (λ ne.
      let less : undecided k a < undecided n a = rank_below n k (omega (arith, ne)) free in
      omega arith)
      (cases_eq k n)

  -- the lane of a setting: its bits are the undecided inputs
  lane_of : ℕ → List Bool → ℕ
  lane_of zero x = 0
  lane_of (suc k) x = cond (decided a k) (lane_of k x) (cond (get_or x k false) (bit_or (lane_of k x) (2 ^ undecided k a)) (lane_of k x))

  lane_small : (n : ℕ) (x : List Bool) → lane_of n x < 2 ^ undecided n a
  unfolding lane_of
  lane_small zero x = omega arith
  lane_small (suc k) x = go (lane_small k x) (decided a k) (get_or x k false) where
    twice : 2 ^ (1 + undecided k a) ≡ 2 ^ undecided k a + 2 ^ undecided k a
    twice = ap (λ n. 2 ^ n) {x = 1 + undecided k a} {y = suc (undecided k a)} (omega arith) ∙ omega arith

    go : lane_of k x < 2 ^ undecided k a → (d b : Bool) → cond d (lane_of k x) (cond b (bit_or (lane_of k x) (2 ^ undecided k a)) (lane_of k x)) < 2 ^ (cond (not d) 1 0 + undecided k a)
    go low true b = subst (λ m. lane_of k x < 2 ^ m) {x = undecided k a} {y = 0 + undecided k a} (omega arith) low
    go low false true = or_lt (1 + undecided k a) (lane_of k x) (2 ^ undecided k a) (omega (arith, twice, low)) (omega (arith, twice, pow_pos (undecided k a)))
    go low false false = omega (arith, twice, low)

  -- an earlier bit stays, and the new one is the input's value
  lane_bit : (n : ℕ) (x : List Bool) (k : ℕ) → k < n → decided a k ≡ false → bit (lane_of n x) (undecided k a) ≡ get_or x k false
  unfolding lane_of
  lane_bit zero x k lt free = absurd (omega arith)
  lane_bit (suc m) x k lt free = ⊎_elim (λ e. here e) (λ ne. there (λ l. lane_bit m x k l free) (omega (arith, ne)) (decided a m) refl) (cases_eq k m) where
    none : bit (lane_of m x) (undecided m a) ≡ false
    none = bit_beyond (lane_of m x) (undecided m a) (undecided m a) (lane_small m x) (omega arith)

    new : (b : Bool) → bit (cond b (bit_or (lane_of m x) (2 ^ undecided m a)) (lane_of m x)) (undecided m a) ≡ b
    new true = bit_more (lane_of m x) (undecided m a) (undecided m a) ∙ ap₂ (λ p q. p || q) none (eq-eqb (undecided m a) (undecided m a) refl)
    new false = none

    here : k ≡ m → bit (cond (decided a m) (lane_of m x) (cond (get_or x m false) (bit_or (lane_of m x) (2 ^ undecided m a)) (lane_of m x))) (undecided k a) ≡ get_or x k false
    here e =
        ap₂ (λ d i. bit (cond d (lane_of m x) (cond (get_or x m false) (bit_or (lane_of m x) (2 ^ undecided m a)) (lane_of m x))) (undecided i a)) (ap (decided a) (sym e) ∙ free) e
        ∙ new (get_or x m false) ∙ ap (λ i. get_or x i false) (sym e)

    old : (b : Bool) → k < m → decided a m ≡ false → bit (cond b (bit_or (lane_of m x) (2 ^ undecided m a)) (lane_of m x)) (undecided k a) ≡ bit (lane_of m x) (undecided k a)
    old true l undec =
        bit_more (lane_of m x) (undecided m a) (undecided k a)
        ∙ ap (λ q. bit (lane_of m x) (undecided k a) || q) (ne_eqb (undecided k a) (undecided m a) (omega (arith, rank_below m k l free))) ∙ or_false (bit (lane_of m x) (undecided k a))
    old false l undec = refl

    there : (k < m → bit (lane_of m x) (undecided k a) ≡ get_or x k false) → k < m → (d : Bool) → decided a m ≡ d → bit (cond d (lane_of m x) (cond (get_or x m false) (bit_or (lane_of m x) (2 ^ undecided m a)) (lane_of m x))) (undecided k a) ≡ get_or x k false
    there before l true e = before l
    there before l false e = old (get_or x m false) l e ∙ before l

-- ---- the words of the inputs

word_lane : (p q : Bool) (w j : ℕ) → j < 64 → bit (cond p all_lanes (cond q 0 w)) j ≡ cond p true (cond q false (bit w j))
word_lane true q w j lt = every_lane j lt
word_lane false true w j lt = bit_zero j
word_lane false false w j lt = refl

table_in : (p q c b : Bool) → (b ≡ false → p ≡ false) → (b ≡ true → q ≡ false) → (p ≡ false → q ≡ false → c ≡ b) → b ≡ cond p true (cond q false c)
table_in true q c true f g h = refl
table_in true q c false f g h = sym (f refl)
table_in false true c true f g h = g refl
table_in false true c false f g h = refl
table_in false false c b f g h = sym (h refl refl)

table_out : (p q c : Bool) → (p && q) ≡ false → (b : Bool) → b ≡ cond p true (cond q false c) → cond b q p ≡ false
table_out true true c h b e = absurd (both_ways _ h refl)
table_out true false c h b e = ap (λ b. cond b false true) e
table_out false true c h b e = ap (λ b. cond b true false) e
table_out false false c h true e = refl
table_out false false c h false e = refl

opposed : (a : Assignment) (k : ℕ) (b : Bool) → has (taken a) k (not b) ≡ cond b (bit a.opened k) (bit a.closed k)
opposed a k true = refl
opposed a k false = refl

module _ (n : ℕ) (a : Assignment) where
  -- lane j of the inputs
  inputs_lane : (j : ℕ) → map (λ w. bit w j) (input_words n a) ≡ map (λ k. bit (input_word a k (undecided k a)) j) (range_with_len 0 n)
  inputs_lane j = map-map (λ w. bit w j) (λ k. input_word a k (undecided k a)) (range_with_len 0 n)

  pub present : (x : List Bool) → length x ≡ n → agreeing a x ≡ true → undecided n a ≤ 6 → (j : ℕ) × (j < 64) × (map (λ w. bit w j) (input_words n a) ≡ x)
  present x long fit few =
      let j : ℕ = lane_of a n x in
      let small : j < 64 = omega (arith, lane_small a n x, pow_six (undecided n a) few) in
      let at : (k : ℕ) → k < n → get_or x k false ≡ bit (input_word a k (undecided k a)) j = λ k lt.
      (let free : has (taken a) k (not (get_or x k false)) ≡ false = covers_out (taken a) x fit k (omega arith) in
      table_in (bit a.closed k) (bit a.opened k) (bit (pattern (undecided k a)) j) (get_or x k false)
      (λ e. subst (λ b. has (taken a) k (not b) ≡ false) e free) (λ e. subst (λ b. has (taken a) k (not b) ≡ false) e free)
      (λ p q.
      let open_here : decided a k ≡ false = ap₂ (λ p q. p || q) p q in
      pattern_lane (undecided k a) j (omega (arith, rank_below a n k lt open_here)) small ∙ lane_bit a n x k lt open_here)
      ∙ sym (word_lane (bit a.closed k) (bit a.opened k) (pattern (undecided k a)) j small)) in
      (j, small, inputs_lane j ∙ sym (fill_by_all (λ k. bit (input_word a k (undecided k a)) j) x n false long at))

  pub lane_agrees : (j : ℕ) → j < 64 → Clear n a → agreeing a (map (λ w. bit w j) (input_words n a)) ≡ true
  lane_agrees j lt clear =
      let x : List Bool = map (λ k. bit (input_word a k (undecided k a)) j) (range_with_len 0 n) in
      let long : length x ≡ n = length-map-range_with_len (λ k. bit (input_word a k (undecided k a)) j) 0 n in
      ap (agreeing a) (inputs_lane j)
      ∙ covers_in (taken a) x
      (λ k l.
      let below : k < n = omega (arith, long) in
      opposed a k (get_or x k false)
      ∙ table_out (bit a.closed k) (bit a.opened k) (bit (pattern (undecided k a)) j) (clear k below) (get_or x k false)
      (get_or-map-range_with_len (λ k. bit (input_word a k (undecided k a)) j) 0 n k k false below (omega arith) ∙ word_lane (bit a.closed k) (bit a.opened k) (pattern (undecided k a)) j lt))

-- ---- all 64 at once

module _ (c : Circuit) (rules bars : List LiteralSet) (a : Assignment) (ws : List ℕ) (words : ws ≡ input_words c.inputs a) (good : ℕ) (lanes : good ≡ good_word c rules bars ws) where
  lane_good : (j : ℕ) → j < 64 → bit good j ≡ circuit_good c rules bars (map (λ w. bit w j) ws)
  lane_good j lt = ap (λ w. bit w j) lanes ∙ good_lane j lt c rules bars ws

  pub none_good : undecided c.inputs a ≤ 6 → FirstLane good None → Tried c.inputs (circuit_good c rules bars) a None
  none_good few none x long g fit =
      let p = present c.inputs a x long fit few in
      both_ways _ (none p.0 p.1) (lane_good p.0 p.1 ∙ ap (circuit_good c rules bars) (ap (map (λ w. bit w p.0)) words ∙ p.2) ∙ g)

  words_long : length ws ≡ c.inputs
  words_long = ap length words ∙ length-map-range_with_len (λ k. input_word a k (undecided k a)) 0 c.inputs

  pub some_good : (j : ℕ) (b : Assignment) → FirstLane good (Some j) → filled (length ws) b ≡ map (λ w. bit w j) ws → Tried c.inputs (circuit_good c rules bars) a (Some b)
  some_good j b first e clear =
      ap (λ x. circuit_good c rules bars x && agreeing a x) (ap (λ n. filled n b) (sym words_long) ∙ e)
      ∙ and_from _ _ (sym (lane_good j first.0) ∙ first.1) (ap (λ ws. agreeing a (map (λ w. bit w j) ws)) words ∙ lane_agrees c.inputs a j first.0 clear)
