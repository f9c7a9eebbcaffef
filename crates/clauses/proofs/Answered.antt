-- From the settings of all variables to those of the contacts.
use Rattle.std.proofs.Common.{◌≡◌, ℕ, zero, suc, ◌+◌, ◌-◌, ◌≤◌, Bool, true, false, cond, not, ◌&&◌, List, [], ◌∷◌, ◌++◌, length, take, drop, ℤ, pos, negsuc, Some, None, Option, sym, refl, ap, ◌∙◌, ap₂, arith, length-append, length-drop, take-append-drop}
use Rattle.std.specs.Option.{option_map}
use Rattle.std.proofs.lemmas.List.FromFn.{take-map-range_with_len, length-map-range_with_len}
use Rattle.std.proofs.lemmas.List.{get_or_append_left}
use Rattle.std.proofs.lemmas.Bool.{ltb-true}
use Rattle.literals.specs.Bits.{bit}
use Rattle.literals.specs.Literals.{names, first_unnamed, set_of}
use Rattle.literals.proofs.Booleans.{and_true}
use Rattle.additions.specs.Additions.{passes}
use Rattle.settings.specs.Settings.{agrees, fits, covers, all_met}
use Rattle.settings.specs.Least.{some}
use Rattle.settings.specs.Readings.{reading}
use Rattle.settings.proofs.Sets.{named_parts, names_more, sets_law}
use Rattle.laws.proofs.Least.{some_from, some_alike, none_from}
use Rattle.laws.proofs.Prefix.{some_append}
use Rattle.solver.specs.Meaning.{Answers, stands_with}
use Rattle.search.specs.declared.Assignment.{Assignment}
use Rattle.search.specs.Assignments.{from_set, agreeing, filled, low_half}
use Rattle.search.specs.Search.{Answer}
use Rattle.search.proofs.Assignments.{length_filled, reading_low}
use Rattle.clauses.specs.declared.ClauseSolver.{ClauseSolver}
use Rattle.clauses.specs.Clauses.{clause_variables, clause_good, clause_meaning}

-- ---- literals that name contacts, in a setting of more variables

agrees_front : (l : ℤ) (x y : List Bool) → names (length x) l ≡ true → agrees (x ++ y) l ≡ agrees x l
agrees_front (pos zero) x y h = refl
agrees_front (pos (suc k)) x y h = get_or_append_left x y false k (ltb-true k (length x) h)
agrees_front (negsuc k) x y h = ap not (get_or_append_left x y false k (ltb-true k (length x) h))

fits_front : (ls : List ℤ) (x y : List Bool) → first_unnamed (length x) ls ≡ None → fits ls (x ++ y) ≡ fits ls x
fits_front [] x y h = refl
fits_front (l ∷ ls) x y h = let p = named_parts (length x) l ls h in ap₂ (λ a b. a && b) (agrees_front l x y p.0) (fits_front ls x y p.1)

named_more : (n m : ℕ) (ls : List ℤ) → n ≤ m → first_unnamed n ls ≡ None → first_unnamed m ls ≡ None
named_more n m [] le h = refl
named_more n m (l ∷ ls) le h =
    let p = named_parts n l ls h in
    ap₂ (λ (b : Bool) (o : Option ℕ). cond b (option_map suc o) (Some 0)) (names_more n m l le p.0) (named_more n m ls le p.1)

asked_front : (ls : List ℤ) (x y : List Bool) → length (x ++ y) ≤ 64 → first_unnamed (length x) ls ≡ None → covers (set_of ls) (x ++ y) ≡ fits ls x
asked_front ls x y few h =
    (sets_law ls (x ++ y) few (named_more (length x) (length (x ++ y)) ls (omega (arith, length-append x y)) h)).bar ∙ fits_front ls x y h

take_front : (x y : List Bool) (n : ℕ) → length x ≡ n → take n (x ++ y) ≡ x
take_front [] y n e = ap (λ k. take k y) {x = n} {y = 0} (omega arith)
take_front (b ∷ x) y n e = ap (λ k. take k (b ∷ (x ++ y))) {x = n} {y = suc (length x)} (omega arith) ∙ ap (λ z. b ∷ z) (take_front x y (length x) refl)

-- ---- some values of the inner variables

and_false : (x : Bool) → (x && false) ≡ false
and_false true = refl
and_false false = refl

some_and : (n : ℕ) (p : List Bool → Bool) (b : Bool) → some n (λ x. p x && b) ≡ (some n p && b)
some_and n p true = some_alike n (λ x. p x && true) p (λ x e. and_true (p x)) ∙ sym (and_true (some n p))
some_and n p false = none_from n (λ x. p x && false) (λ x e. and_false (p x)) ∙ sym (and_false (some n p))

module _ (s : ClauseSolver) (ls : List ℤ) (named : first_unnamed s.counts.contacts ls ≡ None) where
  -- what is searched for, at the contacts x and the inner variables y
  whole : List Bool → Bool
  whole z = clause_good s z && agreeing (from_set (set_of ls)) z

  whole_split : (x y : List Bool) → length x ≡ s.counts.contacts → length y ≡ s.counts.inner → whole (x ++ y) ≡ ((all_met s.rules.now (x ++ y) && passes s.additions x) && fits ls x)
  unfolding whole
  whole_split x y ex ey =
      ap₂ (λ p q. (all_met s.rules.now (x ++ y) && p) && q) (ap (passes s.additions) (take_front x y s.counts.contacts ex))
      (asked_front ls x y (omega (arith, length-append x y, s.counts.few_variables)) (ap (λ n. first_unnamed n ls) ex ∙ named))

  stands_split : (x : List Bool) → length x ≡ s.counts.contacts → some s.counts.inner (λ y. whole (x ++ y)) ≡ stands_with (clause_meaning s) ls x
  stands_split x ex =
      some_alike s.counts.inner (λ y. whole (x ++ y)) (λ y. (all_met s.rules.now (x ++ y) && passes s.additions x) && fits ls x) (λ y ey. whole_split x y ex ey)
      ∙ some_and s.counts.inner (λ y. all_met s.rules.now (x ++ y) && passes s.additions x) (fits ls x)
      ∙ ap (λ b. b && fits ls x) (some_and s.counts.inner (λ y. all_met s.rules.now (x ++ y)) (passes s.additions x))

  pub answered_none : Answer (clause_variables s) (clause_good s) (from_set (set_of ls)) None → Answers (clause_meaning s) ls None
  unfolding whole
  answered_none h =
      sym (some_alike s.counts.contacts (λ x. some s.counts.inner (λ y. whole (x ++ y))) (stands_with (clause_meaning s) ls) stands_split)
      ∙ sym (some_append s.counts.contacts s.counts.inner whole) ∙ h

  -- the setting in the answer is the contacts' part of the assignment found
  pub answered_some : (a : Assignment) → Answer (clause_variables s) (clause_good s) (from_set (set_of ls)) (Some a) → Answers (clause_meaning s) ls (Some (low_half a))
  unfolding whole
  answered_some a h =
      let n = s.counts.contacts in
      let m = s.counts.inner in
      let x = reading n (low_half a) in
      let y = drop n (filled (n + m) a) in
      let front : take n (filled (n + m) a) ≡ x =
      take-map-range_with_len (λ k. bit a.closed k) 0 (n + m) n (omega arith) ∙ sym (reading_low n a s.counts.few_contacts) in
      let join : x ++ y ≡ filled (n + m) a = ap (λ z. z ++ y) (sym front) ∙ take-append-drop n (filled (n + m) a) in
      let ex : length x ≡ n = length-map-range_with_len (λ k. bit (low_half a).closed k) 0 n in
      let ey : length y ≡ m = length-drop n (filled (n + m) a) ∙ ap (λ k. k - n) (length_filled (n + m) a) ∙ omega arith in
      sym (stands_split x ex) ∙ some_from m (λ y. whole (x ++ y)) y ey (ap whole join ∙ h)
