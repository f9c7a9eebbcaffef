-- The literals of a set make that set again, and take no more bytes than a list of them.
use Rattle.std.proofs.Common.{◌≡◌, ℕ, zero, suc, ◌+◌, ◌*◌, ◌/◌, ◌%◌, ◌^◌, ◌<◌, ◌≤◌, Bool, true, false, cond, ◌||◌, ltb, List, [], ◌∷◌, ◌++◌, length, ℤ, pos, negsuc, fold, sym, refl, ap, ◌∙◌, subst, ⊎_elim, mod-lt, mod-eq_of_lt, one-mul, zero-add, zero-mul, arith, pow_pos}
use native.Mathlib.Nat.{mod-one}
use lib.Bits.{bit_or}
use Rattle.std.specs.Fmt.{signed_decimal}
use Rattle.std.specs.List.{AllByRecursion as All}
use Rattle.std.proofs.lemmas.Nat.{or_comm, or_lt, or_shifted, mod-pow-add, pow_below}
use Rattle.std.proofs.ByRecursion.{All-append}
use Rattle.std.proofs.lemmas.Bool.{eqb-true, eqb-false, ne_eqb, lt-ltb, ltb-true, cond-true, cases_eq}
use Rattle.literals.specs.declared.LiteralSet.{LiteralSet}
use Rattle.literals.specs.Bits.{bit}
use Rattle.literals.specs.Literals.{names, no_literals, inserted, with_literal, set_of, has, when, listed_from, listed}
use Rattle.literals.proofs.Bits.{bit_more, bit_zero}
use Rattle.dimacs.proofs.Literals.{Named}
use Rattle.dimacs_write.specs.Laws.{Over}

-- the literals of a set name variables
all_when : (P : ℤ → Type 0) (b : Bool) (l : ℤ) → P l → All P (when b l)
all_when P true l h = (h, tt)
all_when P false l h = tt

pub listed_named : (V k n : ℕ) (s : LiteralSet) → k + n ≤ V → All (Named V) (listed_from k n s)
listed_named V k zero s h = tt
listed_named V k (suc n) s h =
    let lt = lt-ltb k V (omega arith) in
    All-append (Named V) (when (has s k true) (pos (suc k))) (when (has s k false) (negsuc k) ++ listed_from (suc k) n s) (all_when (Named V) (has s k true) (pos (suc k)) lt)
    (All-append (Named V) (when (has s k false) (negsuc k)) (listed_from (suc k) n s) (all_when (Named V) (has s k false) (negsuc k) lt) (listed_named V (suc k) n s (omega arith)))

-- one bit more of x
bit_step : (x k : ℕ) → x % 2 ^ suc k ≡ (x / 2 ^ k % 2) * 2 ^ k + x % 2 ^ k
bit_step x k = ap (λ j. x % 2 ^ j) (omega arith) ∙ mod-pow-add x 1 k

bit_set : (x k : ℕ) → bit x k ≡ true → bit_or (x % 2 ^ k) (2 ^ k) ≡ x % 2 ^ suc k
unfolding bit
bit_set x k e =
    or_comm (x % 2 ^ k) (2 ^ k)
    ∙ ap (λ n. bit_or n (x % 2 ^ k)) (sym (one-mul (2 ^ k)))
    ∙ or_shifted 1 k (x % 2 ^ k) (mod-lt x (pow_pos k))
    ∙ ap (λ b. b * 2 ^ k + x % 2 ^ k) (sym (eqb-true (x / 2 ^ k % 2) 1 e))
    ∙ sym (bit_step x k)

bit_clear : (x k : ℕ) → bit x k ≡ false → x % 2 ^ k ≡ x % 2 ^ suc k
unfolding bit
bit_clear x k e =
    let not_one = eqb-false (x / 2 ^ k % 2) 1 e in
    let small : x / 2 ^ k % 2 < 2 = mod-lt (x / 2 ^ k) (omega arith) in
    let none : x / 2 ^ k % 2 ≡ 0 = omega arith in
    sym (bit_step x k ∙ ap (λ b. b * 2 ^ k + x % 2 ^ k) none ∙ ap (λ n. n + x % 2 ^ k) (zero-mul (2 ^ k)) ∙ zero-add (x % 2 ^ k))

-- the set of the literals of the first k variables
abbrev low : LiteralSet → ℕ → LiteralSet
low s k = record { closed = s.closed % 2 ^ k; opened = s.opened % 2 ^ k }

folded_append : (s : LiteralSet) (xs ys : List ℤ) → fold with_literal s (xs ++ ys) ≡ fold with_literal (fold with_literal s xs) ys
folded_append s [] ys = refl
folded_append s (x ∷ xs) ys = folded_append (with_literal s x) xs ys

closed_half : (s : LiteralSet) (k m : ℕ) (b : Bool) → k < 64 → bit s.closed k ≡ b → fold with_literal (record { closed = s.closed % 2 ^ k; opened = m }) (when b (pos (suc k))) ≡ record { closed = s.closed % 2 ^ suc k; opened = m }
closed_half s k m true lt e = cond-true (ltb k 64) _ _ (lt-ltb k 64 lt) ∙ ap (λ n. record { closed = n; opened = m }) (bit_set s.closed k e)
closed_half s k m false lt e = ap (λ n. record { closed = n; opened = m }) (bit_clear s.closed k e)

opened_half : (s : LiteralSet) (k m : ℕ) (b : Bool) → k < 64 → bit s.opened k ≡ b → fold with_literal (record { closed = m; opened = s.opened % 2 ^ k }) (when b (negsuc k)) ≡ record { closed = m; opened = s.opened % 2 ^ suc k }
opened_half s k m true lt e = cond-true (ltb k 64) _ _ (lt-ltb k 64 lt) ∙ ap (λ n. record { closed = m; opened = n }) (bit_set s.opened k e)
opened_half s k m false lt e = ap (λ n. record { closed = m; opened = n }) (bit_clear s.opened k e)

folded_listed : (k n : ℕ) (s : LiteralSet) → k + n ≤ 64 → fold with_literal (low s k) (listed_from k n s) ≡ low s (k + n)
folded_listed k zero s h = ap (low s) (omega arith)
folded_listed k (suc n) s h =
    let xs = when (has s k true) (pos (suc k)) in
    let ys = when (has s k false) (negsuc k) in
    let rest = listed_from (suc k) n s in
    folded_append (low s k) xs (ys ++ rest)
    ∙ ap (λ t. fold with_literal t (ys ++ rest)) (closed_half s k (s.opened % 2 ^ k) (bit s.closed k) (omega arith) refl)
    ∙ folded_append (record { closed = s.closed % 2 ^ suc k; opened = s.opened % 2 ^ k }) ys rest
    ∙ ap (λ t. fold with_literal t rest) (opened_half s k (s.closed % 2 ^ suc k) (bit s.opened k) (omega arith) refl)
    ∙ folded_listed (suc k) n s (omega arith)
    ∙ ap (low s) (omega arith)

pub same_set : (V : ℕ) (s : LiteralSet) → V ≤ 64 → Over V s → set_of (listed V s) ≡ s
same_set V s v h =
    ap (λ t. fold with_literal t (listed V s)) start
    ∙ folded_listed 0 V s (omega arith)
    ∙ ap (low s) (omega arith)
    ∙ ap (λ n. record { closed = n; opened = s.opened % 2 ^ V }) (mod-eq_of_lt h.0)
    ∙ ap (λ n. record { closed = s.closed; opened = n }) (mod-eq_of_lt h.1)
  where
    start : no_literals ≡ low s 0
    start = ap (λ n. record { closed = n; opened = 0 }) (sym (mod-one s.closed)) ∙ ap (λ n. record { closed = s.closed % 2 ^ 0; opened = n }) (sym (mod-one s.opened))

-- a list of literals of V variables makes a set over them
over_one : (V : ℕ) (s : LiteralSet) (l : ℤ) (b : Bool) → Over V s → Named V l → Over V (cond b (inserted s l) s)
over_one V s l false h e = h
over_one V s (pos zero) true h e = h
over_one V s (pos (suc k)) true h e = (or_lt V s.closed (2 ^ k) h.0 (pow_below k V (ltb-true k V e)), h.1)
over_one V s (negsuc k) true h e = (h.0, or_lt V s.opened (2 ^ k) h.1 (pow_below k V (ltb-true k V e)))

over_from : (V : ℕ) (s : LiteralSet) (ls : List ℤ) → Over V s → All (Named V) ls → Over V (fold with_literal s ls)
over_from V s [] h e = h
over_from V s (l ∷ ls) h e = over_from V (with_literal s l) ls (over_one V s l (names 64 l) h e.0) e.1

pub over_set : (V : ℕ) (ls : List ℤ) → All (Named V) ls → Over V (set_of ls)
over_set V ls e = over_from V no_literals ls (pow_pos V, pow_pos V) e

-- how many bytes the literals of a list take, each with a space behind it
abbrev pub weight : List ℤ → ℕ
weight [] = 0
weight (l ∷ ls) = length (signed_decimal l) + 1 + weight ls

abbrev weigh : Bool → ℤ → ℕ
weigh b l = cond b (length (signed_decimal l) + 1) 0

weight_when : (b : Bool) (l : ℤ) (ls : List ℤ) → weight (when b l ++ ls) ≡ weigh b l + weight ls
weight_when true l ls = refl
weight_when false l ls = omega arith

-- the literals of variable k + 1
abbrev at_variable : LiteralSet → ℕ → ℕ
at_variable s k = weigh (has s k true) (pos (suc k)) + weigh (has s k false) (negsuc k)

weight_step : (k n : ℕ) (s : LiteralSet) → weight (listed_from k (suc n) s) ≡ at_variable s k + weight (listed_from (suc k) n s)
weight_step k n s =
    let a = weight_when (has s k true) (pos (suc k)) (when (has s k false) (negsuc k) ++ listed_from (suc k) n s) in
    let b = weight_when (has s k false) (negsuc k) (listed_from (suc k) n s) in
    omega arith

-- t differs from s at variable j + 1 alone, and weighs there at most w more
module _ (s t : LiteralSet) (j w : ℕ) (elsewhere : (k : ℕ) → (k ≡ j → ⊥) → at_variable t k ≡ at_variable s k) (there : at_variable t j ≤ at_variable s j + w) where
  past : (k n : ℕ) → j < k → weight (listed_from k n t) ≡ weight (listed_from k n s)
  past k zero lt = refl
  past k (suc n) lt =
      let a = weight_step k n t in
      let b = weight_step k n s in
      let same = elsewhere k (λ e. omega arith) in
      let more = past (suc k) n (omega arith) in
      omega arith

  heavier : (k n : ℕ) → weight (listed_from k n t) ≤ weight (listed_from k n s) + w
  heavier k zero = omega arith
  heavier k (suc n) =
      let a = weight_step k n t in
      let b = weight_step k n s in
      ⊎_elim
      (λ e.
      let more = past (suc k) n (omega arith) in
      let here : at_variable t k ≤ at_variable s k + w = subst (λ i. at_variable t i ≤ at_variable s i + w) (sym e) there in
      omega arith)
      (λ ne.
      let more = heavier (suc k) n in
      let same = elsewhere k ne in
      omega arith)
      (cases_eq k j)

-- one literal more
bit_elsewhere : (m j k : ℕ) → (k ≡ j → ⊥) → bit (bit_or m (2 ^ j)) k ≡ bit m k
bit_elsewhere m j k ne = bit_more m j k ∙ ap (λ b. bit m k || b) (ne_eqb k j ne) ∙ or_none (bit m k)
  where
    or_none : (b : Bool) → (b || false) ≡ b
    or_none true = refl
    or_none false = refl

weigh_most : (b : Bool) (l : ℤ) → weigh b l ≤ length (signed_decimal l) + 1
weigh_most true l = omega arith
weigh_most false l = omega arith

inserted_weight : (V : ℕ) (s : LiteralSet) (l : ℤ) → weight (listed V (inserted s l)) ≤ weight (listed V s) + (length (signed_decimal l) + 1)
inserted_weight V s (pos zero) = omega arith
inserted_weight V s (pos (suc j)) =
    let t = inserted s (pos (suc j)) in
    heavier s t j (length (signed_decimal (pos (suc j))) + 1)
    (λ k ne. ap (λ b. weigh b (pos (suc k)) + weigh (has s k false) (negsuc k)) (bit_elsewhere s.closed j k ne))
    (let most = weigh_most (has t j true) (pos (suc j)) in omega arith)
    0 V
inserted_weight V s (negsuc j) =
    let t = inserted s (negsuc j) in
    heavier s t j (length (signed_decimal (negsuc j)) + 1)
    (λ k ne. ap (λ b. weigh (has s k true) (pos (suc k)) + weigh b (negsuc k)) (bit_elsewhere s.opened j k ne))
    (let most = weigh_most (has t j false) (negsuc j) in omega arith)
    0 V

with_weight : (V : ℕ) (s : LiteralSet) (l : ℤ) (b : Bool) → weight (listed V (cond b (inserted s l) s)) ≤ weight (listed V s) + (length (signed_decimal l) + 1)
with_weight V s l true = inserted_weight V s l
with_weight V s l false = omega arith

folded_weight : (V : ℕ) (s : LiteralSet) (ls : List ℤ) → weight (listed V (fold with_literal s ls)) ≤ weight (listed V s) + weight ls
folded_weight V s [] = omega arith
folded_weight V s (l ∷ ls) =
    let one = with_weight V s l (names 64 l) in
    let more = folded_weight V (with_literal s l) ls in
    omega arith

none_listed : (k n : ℕ) → weight (listed_from k n no_literals) ≡ 0
none_listed k zero = refl
none_listed k (suc n) =
    let a = weight_step k n no_literals in
    let b = none_listed (suc k) n in
    let c : at_variable no_literals k ≡ 0 = ap (λ x. weigh x (pos (suc k)) + weigh x (negsuc k)) (bit_zero k) in
    omega arith

-- each literal once takes no more bytes than the list
pub once_lighter : (V : ℕ) (ls : List ℤ) → weight (listed V (set_of ls)) ≤ weight ls
once_lighter V ls =
    let a = folded_weight V no_literals ls in
    let b = none_listed 0 V in
    omega arith
