-- Terms as records: the two sums of weights are the numbers of two lists of Bools.
use Rattle.std.proofs.Common.{◌≡◌, ℕ, zero, suc, ◌+◌, ◌-◌, ◌*◌, ◌/◌, ◌%◌, ◌^◌, ◌<◌, Bool, true, false, not, ◌&&◌, ◌||◌, eqb, List, [], ◌∷◌, ◌++◌, length, pos, negsuc, sym, refl, ap, ◌∙◌, subst, ap₂, arith, pow_pos}
use lib.Bits.{bit_and, and_block}
use Rattle.std.proofs.lemmas.Nat.{shr_split, shr_high, mod_below}
use Rattle.std.proofs.lemmas.Bool.{eq-eqb, ne_eqb, false≢true, true≢false}
use Rattle.settings.specs.Settings.{fits, number, literals}
use Rattle.laws.specs.Choices.{chosen}
use Rattle.settings.specs.TermRecords.{closed_weight, opened_weight, total, digits, signed}
use Rattle.laws.specs.Laws.{RecordsLaw}
use Rattle.laws.proofs.Least.{number_below}
use Rattle.laws.proofs.Literals.{at_length, chosen_on}

-- what both lists have, place by place; what only the first has
both_of : List Bool → List Bool → List Bool
both_of [] s = []
both_of (b ∷ c) [] = []
both_of (b ∷ c) (d ∷ s) = (b && d) ∷ both_of c s

first_only : List Bool → List Bool → List Bool
first_only [] s = []
first_only (b ∷ c) [] = []
first_only (b ∷ c) (d ∷ s) = (b && not d) ∷ first_only c s

length_both_of : (c s : List Bool) → length c ≡ length s → length (both_of c s) ≡ length s
unfolding both_of
length_both_of [] s l = l
length_both_of (b ∷ c) [] l = absurd (omega arith)
length_both_of (b ∷ c) (d ∷ s) l = ap suc (length_both_of c s (omega arith))

length_first_only : (c s : List Bool) → length c ≡ length s → length (first_only c s) ≡ length s
unfolding first_only
length_first_only [] s l = l
length_first_only (b ∷ c) [] l = absurd (omega arith)
length_first_only (b ∷ c) (d ∷ s) l = ap suc (length_first_only c s (omega arith))

abbrev digit : Bool → ℕ
digit true = 1
digit false = 0

number_digit : (b : Bool) (s : List Bool) → number (b ∷ s) ≡ digit b * 2 ^ length s + number s
number_digit true s = omega arith
number_digit false s = omega arith

and_digit : (b d : Bool) → bit_and (digit b) (digit d) ≡ digit (b && d)
and_digit true true = refl
and_digit true false = refl
and_digit false true = refl
and_digit false false = refl

-- `&` of the numbers
and_number : (x m : List Bool) → length x ≡ length m → bit_and (number x) (number m) ≡ number (both_of x m)
unfolding both_of
and_number [] [] l = refl
and_number [] (b ∷ m) l = absurd (omega arith)
and_number (d ∷ x) [] l = absurd (omega arith)
and_number (d ∷ x) (b ∷ m) l =
    let same : length x ≡ length m = omega arith in
    let w : 2 ^ length x ≡ 2 ^ length m = ap (λ k. 2 ^ k) same in
    let u : 2 ^ length (both_of x m) ≡ 2 ^ length m = ap (λ k. 2 ^ k) (length_both_of x m same) in
    let below : number x < 2 ^ length m = subst (λ v. number x < v) w (number_below x) in
    let block = and_block (length m) (digit d) (digit b) (number x) (number m) below (number_below m) in
    let i = and_number x m same in
    let k = and_digit d b in
    let first = number_digit d x in
    let second = number_digit b m in
    let third = number_digit (d && b) (both_of x m) in cc

-- every place of m is one of x; none is
inside : List Bool → List Bool → Bool
inside [] x = true
inside (b ∷ m) [] = true
inside (b ∷ m) (d ∷ x) = (not b || d) && inside m x

outside : List Bool → List Bool → Bool
outside [] x = true
outside (b ∷ m) [] = true
outside (b ∷ m) (d ∷ x) = (not b || not d) && outside m x

inside_both_of : (m x : List Bool) → length x ≡ length m → inside m x ≡ true → both_of x m ≡ m
unfolding inside both_of
inside_both_of [] [] l h = refl
inside_both_of [] (d ∷ x) l h = absurd (omega arith)
inside_both_of (b ∷ m) [] l h = absurd (omega arith)
inside_both_of (true ∷ m) (false ∷ x) l h = absurd (false≢true h)
inside_both_of (true ∷ m) (true ∷ x) l h = ap (λ t. true ∷ t) (inside_both_of m x (omega arith) h)
inside_both_of (false ∷ m) (true ∷ x) l h = ap (λ t. false ∷ t) (inside_both_of m x (omega arith) h)
inside_both_of (false ∷ m) (false ∷ x) l h = ap (λ t. false ∷ t) (inside_both_of m x (omega arith) h)

inside_misses : (m x : List Bool) → length x ≡ length m → inside m x ≡ false → number (both_of x m) < number m
unfolding inside both_of
inside_misses [] [] l h = absurd (true≢false h)
inside_misses [] (d ∷ x) l h = absurd (omega arith)
inside_misses (b ∷ m) [] l h = absurd (omega arith)
inside_misses (true ∷ m) (false ∷ x) l h =
    let w : 2 ^ length (both_of x m) ≡ 2 ^ length m = ap (λ k. 2 ^ k) (length_both_of x m (omega arith)) in
    let below = number_below (both_of x m) in omega arith
inside_misses (true ∷ m) (true ∷ x) l h =
    let w : 2 ^ length (both_of x m) ≡ 2 ^ length m = ap (λ k. 2 ^ k) (length_both_of x m (omega arith)) in
    let i = inside_misses m x (omega arith) h in omega arith
inside_misses (false ∷ m) (true ∷ x) l h = inside_misses m x (omega arith) h
inside_misses (false ∷ m) (false ∷ x) l h = inside_misses m x (omega arith) h

closed_test : (m x : List Bool) → length x ≡ length m → eqb (bit_and (number x) (number m)) (number m) ≡ inside m x
closed_test m x l = go (inside m x) refl where
  go : (b : Bool) → inside m x ≡ b → eqb (bit_and (number x) (number m)) (number m) ≡ inside m x
  go true h = eq-eqb (bit_and (number x) (number m)) (number m) (and_number x m l ∙ ap number (inside_both_of m x l h)) ∙ sym h
  go false h = ne_eqb (bit_and (number x) (number m)) (number m) (λ e. let k = inside_misses m x l h in let a = and_number x m l in omega arith) ∙ sym h

outside_zero : (m x : List Bool) → length x ≡ length m → eqb (number (both_of x m)) 0 ≡ outside m x
unfolding outside both_of
outside_zero [] [] l = refl
outside_zero [] (d ∷ x) l = absurd (omega arith)
outside_zero (b ∷ m) [] l = absurd (omega arith)
outside_zero (true ∷ m) (true ∷ x) l = ne_eqb (2 ^ length (both_of x m) + number (both_of x m)) 0 (λ e. omega (arith, pow_pos (length (both_of x m))))
outside_zero (true ∷ m) (false ∷ x) l = outside_zero m x (omega arith)
outside_zero (false ∷ m) (true ∷ x) l = outside_zero m x (omega arith)
outside_zero (false ∷ m) (false ∷ x) l = outside_zero m x (omega arith)

opened_test : (m x : List Bool) → length x ≡ length m → eqb (bit_and (number x) (number m)) 0 ≡ outside m x
opened_test m x l = ap (λ v. eqb v 0) (and_number x m l) ∙ outside_zero m x l

-- the sums of chosen literals are the numbers of the two masks
closed_total : (n j : ℕ) (c s : List Bool) → length c ≡ length s → n ≡ j + length s → total (closed_weight n) (chosen c (literals j s)) ≡ number (both_of c s)
unfolding both_of
closed_total n j [] [] l k = refl
closed_total n j [] (v ∷ s) l k = absurd (omega arith)
closed_total n j (b ∷ c) [] l k = absurd (omega arith)
closed_total n j (false ∷ c) (v ∷ s) l k = closed_total n (suc j) c s (omega arith) (omega arith)
closed_total n j (true ∷ c) (false ∷ s) l k = let i = closed_total n (suc j) c s (omega arith) (omega arith) in omega arith
closed_total n j (true ∷ c) (true ∷ s) l k =
    let w : 2 ^ (n - suc j) ≡ 2 ^ length (both_of c s) = ap (λ k. 2 ^ k) (omega (arith, length_both_of c s (omega arith))) in
    ap₂ (λ a b. a + b) w (closed_total n (suc j) c s (omega arith) (omega arith))

opened_total : (n j : ℕ) (c s : List Bool) → length c ≡ length s → n ≡ j + length s → total (opened_weight n) (chosen c (literals j s)) ≡ number (first_only c s)
unfolding first_only
opened_total n j [] [] l k = refl
opened_total n j [] (v ∷ s) l k = absurd (omega arith)
opened_total n j (b ∷ c) [] l k = absurd (omega arith)
opened_total n j (false ∷ c) (v ∷ s) l k = opened_total n (suc j) c s (omega arith) (omega arith)
opened_total n j (true ∷ c) (true ∷ s) l k = let i = opened_total n (suc j) c s (omega arith) (omega arith) in omega arith
opened_total n j (true ∷ c) (false ∷ s) l k =
    let w : 2 ^ (n - suc j) ≡ 2 ^ length (first_only c s) = ap (λ k. 2 ^ k) (omega (arith, length_first_only c s (omega arith))) in
    ap₂ (λ a b. a + b) w (opened_total n (suc j) c s (omega arith) (omega arith))

-- chosen literals fit by the two masks
fits_masks : (p c s x : List Bool) → length c ≡ length s → length x ≡ length s → fits (chosen c (literals (length p) s)) (p ++ x) ≡ (inside (both_of c s) x && outside (first_only c s) x)
unfolding both_of first_only inside outside
fits_masks p [] s x l k = refl
fits_masks p (b ∷ c) [] x l k = absurd (omega arith)
fits_masks p (b ∷ c) (v ∷ s) [] l k = absurd (omega arith)
fits_masks p (false ∷ c) (v ∷ s) (d ∷ x) l k = sym (chosen_on p c s x d) ∙ fits_masks (p ++ d ∷ []) c s x (omega arith) (omega arith)
fits_masks p (true ∷ c) (true ∷ s) (d ∷ x) l k =
    let i = sym (chosen_on p c s x d) ∙ fits_masks (p ++ d ∷ []) c s x (omega arith) (omega arith) in
    ap₂ (λ a b. a && b) (at_length p x d) i ∙ go d (inside (both_of c s) x) where
      go : (a b : Bool) → (a && (b && outside (first_only c s) x)) ≡ ((a && b) && outside (first_only c s) x)
      go true b = refl
      go false b = refl
fits_masks p (true ∷ c) (false ∷ s) (d ∷ x) l k =
    let i = sym (chosen_on p c s x d) ∙ fits_masks (p ++ d ∷ []) c s x (omega arith) (omega arith) in
    ap₂ (λ a b. not a && b) (at_length p x d) i ∙ go (not d) (inside (both_of c s) x) where
      go : (a b : Bool) → (a && (b && outside (first_only c s) x)) ≡ (b && (a && outside (first_only c s) x))
      go true true = refl
      go true false = refl
      go false true = refl
      go false false = refl

-- the digits of a number
digits_high : (n a r : ℕ) → digits n (a * 2 ^ n + r) ≡ digits n r
digits_high zero a r = refl
digits_high (suc n) a r =
    let split = shr_split r n in
    let p : 2 ^ suc n ≡ 2 * 2 ^ n = omega arith in
    let e : a * 2 ^ suc n + r ≡ (2 * a + r / 2 ^ n) * 2 ^ n + r % 2 ^ n = rw p (omega arith) in
    let f : a * 2 ^ suc n + r ≡ 2 * a * 2 ^ n + r = rw p (omega arith) in
    let high = shr_high (2 * a + r / 2 ^ n) n (r % 2 ^ n) (mod_below r (2 ^ n) (pow_pos n)) in
    let low : (2 * a + r / 2 ^ n) % 2 ≡ r / 2 ^ n % 2 = omega arith in
    ap₂ (λ b t. b ∷ t) (ap (λ v. eqb (v / 2 ^ n % 2) 1) e ∙ ap (λ v. eqb (v % 2) 1) high ∙ ap (λ v. eqb v 1) low) (ap (digits n) f ∙ digits_high n (2 * a) r)

pub digits_number : (s : List Bool) → digits (length s) (number s) ≡ s
digits_number [] = refl
digits_number (b ∷ s) =
    let k = length s in
    let high : number (b ∷ s) / 2 ^ k ≡ digit b = ap (λ v. v / 2 ^ k) (number_digit b s) ∙ shr_high (digit b) k (number s) (number_below s) in
    ap₂ (λ d t. d ∷ t) (ap (λ v. eqb (v % 2) 1) high ∙ same b) (ap (digits k) (number_digit b s) ∙ digits_high k (digit b) (number s) ∙ digits_number s) where
      same : (b : Bool) → eqb (digit b % 2) 1 ≡ b
      same true = refl
      same false = refl

signed_masks : (j : ℕ) (c s : List Bool) → length c ≡ length s → signed j (both_of c s) (first_only c s) ≡ chosen c (literals j s)
unfolding both_of first_only
signed_masks j [] s l = refl
signed_masks j (b ∷ c) [] l = absurd (omega arith)
signed_masks j (true ∷ c) (true ∷ s) l = ap (λ t. pos (suc j) ∷ t) (signed_masks (suc j) c s (omega arith))
signed_masks j (true ∷ c) (false ∷ s) l = ap (λ t. negsuc j ∷ t) (signed_masks (suc j) c s (omega arith))
signed_masks j (false ∷ c) (d ∷ s) l = signed_masks (suc j) c s (omega arith)

apart : (c s : List Bool) → length c ≡ length s → number (both_of (both_of c s) (first_only c s)) ≡ 0
unfolding both_of first_only
apart [] s l = refl
apart (b ∷ c) [] l = absurd (omega arith)
apart (true ∷ c) (true ∷ s) l = apart c s (omega arith)
apart (true ∷ c) (false ∷ s) l = apart c s (omega arith)
apart (false ∷ c) (d ∷ s) l = apart c s (omega arith)

pub records_law : RecordsLaw
records_law c s l =
    let one = length_both_of c s l in
    let two = length_first_only c s l in
    let cl = closed_total (length s) 0 c s l (omega arith) in
    let op = opened_total (length s) 0 c s l (omega arith) in
    record {
      covers_same = λ x k. ap₂ (λ a b. eqb (bit_and (number x) a) a && eqb (bit_and (number x) b) 0) cl op ∙ ap₂ (λ a b. a && b) (closed_test (both_of c s) x (k ∙ sym one)) (opened_test (first_only c s) x (k ∙ sym two)) ∙ sym (fits_masks [] c s x l k);
      wants_same = ap₂ (signed 0) (read (length s) (both_of c s) cl one) (read (length s) (first_only c s) op two) ∙ signed_masks 0 c s l;
      no_both_ways = ap₂ bit_and cl op ∙ and_number (both_of c s) (first_only c s) (one ∙ sym two) ∙ apart c s l;
      closed_fits = let w : 2 ^ length (both_of c s) ≡ 2 ^ length s = ap (λ k. 2 ^ k) one in let b = number_below (both_of c s) in omega (arith, cl);
      opened_fits = let w : 2 ^ length (first_only c s) ≡ 2 ^ length s = ap (λ k. 2 ^ k) two in let b = number_below (first_only c s) in omega (arith, op);
    }
  where
    read : (n : ℕ) (m : List Bool) {v : ℕ} → v ≡ number m → length m ≡ n → digits n v ≡ m
    read n m e l = ap₂ digits (sym l) e ∙ digits_number m
