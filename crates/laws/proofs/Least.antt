-- The laws of `least`, `some` and `number`.
use Rattle.std.proofs.Common.{◌≡◌, ℕ, zero, suc, ◌+◌, ◌^◌, ◌<◌, Bool, true, false, cond, not, ◌&&◌, List, [], ◌∷◌, ◌++◌, length, is_some, Some, None, Option, unwrap_or, sym, refl, ap, ◌∙◌, subst, arith}
use native.Mathlib.Nat.{two-pow-succ}
use Rattle.std.specs.Option.{option_map, option_or}
use Rattle.std.proofs.lemmas.List.{nil_from_length}
use Rattle.std.proofs.lemmas.Bool.{both_ways, not-true, not-false, true≢false, false≢true, and_parts}
use Rattle.settings.specs.Settings.{number}
use Rattle.settings.specs.Least.{least, some}
use Rattle.laws.specs.Laws.{Earliest, IsEarliest, NonePasses, LeastLaw, LeastAlike}

pub number_below : (x : List Bool) → number x < 2 ^ length x
number_below [] = omega arith
number_below (true ∷ x) = let h = number_below x in rw two-pow-succ (omega arith)
number_below (false ∷ x) = let h = number_below x in rw two-pow-succ (omega arith)

-- of two lists that part at a place, the one with false there has the smaller number
pub number_parts : (front x y : List Bool) → length x ≡ length y → number (front ++ false ∷ x) < number (front ++ true ∷ y)
number_parts [] x y l =
    let w : 2 ^ length x ≡ 2 ^ length y = ap (λ m. 2 ^ m) l in let h = number_below x in omega arith
number_parts (false ∷ front) x y l = number_parts front x y l
number_parts (true ∷ front) x y l =
    let w : 2 ^ length (front ++ false ∷ x) ≡ 2 ^ length (front ++ true ∷ y) = ap (λ m. 2 ^ m) (same front) in
    let h = number_parts front x y l in omega arith
  where
    same : (front : List Bool) → length (front ++ false ∷ x) ≡ length (front ++ true ∷ y)
    same [] = ap suc l
    same (b ∷ front) = ap suc (same front)

start : (p : List Bool → Bool) (b : Bool) → p [] ≡ b → Earliest 0 p (cond b (Some []) None)
start p true h = record { sized = refl; passes = h; others_later = λ y l k ne. absurd (ne (nil_from_length y l)) }
start p false h = λ y l. rw (nil_from_length y l) h

join : (n : ℕ) (p : List Bool → Bool) (a b : Option (List Bool)) → Earliest n (λ x. p (false ∷ x)) a → Earliest n (λ x. p (true ∷ x)) b → Earliest (suc n) p (option_or (option_map (λ x. false ∷ x) a) (option_map (λ x. true ∷ x) b))
join n p (Some x) b h k = record { sized = ap suc h.sized; passes = h.passes; others_later = later } where
  later : (y : List Bool) → length y ≡ suc n → p y ≡ true → (y ≡ false ∷ x → ⊥) → number x < number y
  later [] l q ne = absurd (omega arith)
  later (false ∷ y) l q ne = h.others_later y (omega arith) q (λ e. ne (ap (λ t. false ∷ t) e))
  later (true ∷ y) l q ne = number_parts [] x y (h.sized ∙ omega arith)
join n p None (Some x) h k = record { sized = ap suc k.sized; passes = k.passes; others_later = later } where
  later : (y : List Bool) → length y ≡ suc n → p y ≡ true → (y ≡ true ∷ x → ⊥) → 2 ^ length x + number x < number y
  later [] l q ne = absurd (omega arith)
  later (false ∷ y) l q ne = absurd (both_ways (p (false ∷ y)) (h y (omega arith)) q)
  later (true ∷ y) l q ne =
      let w : 2 ^ length x ≡ 2 ^ length y = ap (λ m. 2 ^ m) (k.sized ∙ omega arith) in
      let less = k.others_later y (omega arith) q (λ e. ne (ap (λ t. true ∷ t) e)) in omega arith
join n p None None h k = nothing where
  nothing : NonePasses (suc n) p
  nothing [] l = absurd (omega arith)
  nothing (false ∷ y) l = h y (omega arith)
  nothing (true ∷ y) l = k y (omega arith)

pub least_law : LeastLaw
unfolding least
least_law zero p = start p (p []) refl
least_law (suc n) p = join n p (least n (λ x. p (false ∷ x))) (least n (λ x. p (true ∷ x))) (least_law n (λ x. p (false ∷ x))) (least_law n (λ x. p (true ∷ x)))

pub least_alike : LeastAlike
unfolding least
least_alike zero p q h = ap (λ b. cond b (Some []) None) (h [] refl)
least_alike (suc n) p q h =
    let f = least_alike n (λ x. p (false ∷ x)) (λ x. q (false ∷ x)) (λ x l. h (false ∷ x) (ap suc l)) in
    let g = least_alike n (λ x. p (true ∷ x)) (λ x. q (true ∷ x)) (λ x l. h (true ∷ x) (ap suc l)) in
    cc

-- the answer, from the law
pub least_is : (n : ℕ) (p : List Bool → Bool) (x : List Bool) → least n p ≡ Some x → IsEarliest n p x
least_is n p x e = subst (Earliest n p) e (least_law n p)

pub none_when : (n : ℕ) (p : List Bool → Bool) → NonePasses n p → least n p ≡ None
none_when n p h = go (least n p) (least_law n p) where
  go : (o : Option (List Bool)) → Earliest n p o → o ≡ None
  go None k = refl
  go (Some x) k = absurd (both_ways (p x) (h x k.sized) k.passes)

pub less_fails : (n : ℕ) (p : List Bool → Bool) (c : List Bool) → least n p ≡ Some c → (d : List Bool) → length d ≡ n → number d < number c → p d ≡ false
less_fails n p c e d l less = go (p d) refl where
  go : (b : Bool) → p d ≡ b → p d ≡ false
  go false h = h
  go true h =
      let k = (least_is n p c e).others_later d l h (λ same. omega (arith, ap number same)) in absurd (omega arith)

-- some list passes
pub some_true : (n : ℕ) (p : List Bool → Bool) → some n p ≡ true → (x : List Bool) × (length x ≡ n) × (p x ≡ true)
some_true n p = go (least n p) (least_law n p) where
  go : (o : Option (List Bool)) → Earliest n p o → is_some o ≡ true → (x : List Bool) × (length x ≡ n) × (p x ≡ true)
  go None k e = absurd (false≢true e)
  go (Some x) k e = (x, k.sized, k.passes)

pub some_false : (n : ℕ) (p : List Bool → Bool) → some n p ≡ false → NonePasses n p
some_false n p = go (least n p) (least_law n p) where
  go : (o : Option (List Bool)) → Earliest n p o → is_some o ≡ false → NonePasses n p
  go None k e = k
  go (Some x) k e = absurd (true≢false e)

pub some_from : (n : ℕ) (p : List Bool → Bool) (x : List Bool) → length x ≡ n → p x ≡ true → some n p ≡ true
some_from n p x l h = go (least n p) (least_law n p) where
  go : (o : Option (List Bool)) → Earliest n p o → is_some o ≡ true
  go None k = absurd (both_ways (p x) (k x l) h)
  go (Some y) k = refl

pub none_from : (n : ℕ) (p : List Bool → Bool) → NonePasses n p → some n p ≡ false
none_from n p h = ap is_some (none_when n p h)

pub some_alike : (n : ℕ) (p q : List Bool → Bool) → ((x : List Bool) → length x ≡ n → p x ≡ q x) → some n p ≡ some n q
some_alike n p q h = ap is_some (least_alike n p q h)

-- where some list passes, the earliest is there
pub least_there : (n : ℕ) (p : List Bool → Bool) → some n p ≡ true → least n p ≡ Some (unwrap_or (least n p) [])
least_there n p = go (least n p) where
  go : (o : Option (List Bool)) → is_some o ≡ true → o ≡ Some (unwrap_or o [])
  go (Some x) e = refl
  go None e = absurd (false≢true e)

pub least_none : (n : ℕ) (p : List Bool → Bool) → some n p ≡ false → least n p ≡ None
least_none n p h = none_when n p (some_false n p h)

both_or_neither : (a b : Bool) → (a ≡ true → b ≡ true) → (b ≡ true → a ≡ true) → a ≡ b
both_or_neither true b f g = sym (f refl)
both_or_neither false true f g = g refl
both_or_neither false false f g = refl

-- tests on lists of two lengths, where each list that passes the one gives a list that passes the other
pub some_same : (n m : ℕ) (p q : List Bool → Bool) → ((x : List Bool) → length x ≡ n → p x ≡ true → some m q ≡ true) → ((y : List Bool) → length y ≡ m → q y ≡ true → some n p ≡ true) → some n p ≡ some m q
some_same n m p q there back =
    both_or_neither (some n p) (some m q) (λ h. let w = some_true n p h in there w.0 w.1 w.2) (λ h. let w = some_true m q h in back w.0 w.1 w.2)

-- no list of n passes both tests
module _ (n : ℕ) (p q : List Bool → Bool) where
  pub neither : not (some n (λ x. p x && q x)) ≡ true → (x : List Bool) → length x ≡ n → p x ≡ true → q x ≡ false
  neither h x l k = sym (ap (λ b. b && q x) k) ∙ some_false n (λ x. p x && q x) (not-true (some n (λ x. p x && q x)) h) x l

  pub neither_from : ((x : List Bool) → length x ≡ n → p x ≡ true → q x ≡ false) → not (some n (λ x. p x && q x)) ≡ true
  neither_from h = ap not (none_from n (λ x. p x && q x) (λ x l. go (p x) (q x) (h x l))) where
    go : (a b : Bool) → (a ≡ true → b ≡ false) → (a && b) ≡ false
    go true b h = h refl
    go false b h = refl

  pub both_at : not (some n (λ x. p x && q x)) ≡ false → (x : List Bool) × (length x ≡ n) × (p x ≡ true) × (q x ≡ true)
  both_at h =
      let w = some_true n (λ x. p x && q x) (not-false (some n (λ x. p x && q x)) h) in
      let k = and_parts (p w.0) (q w.0) w.2 in (w.0, w.1, k.0, k.1)
