-- What a look at rules tells of the settings that agree with an assignment.
use Rattle.std.proofs.Common.{◌≡◌, ℕ, zero, suc, ◌+◌, ◌<◌, ◌≤◌, Bool, true, false, cond, not, ◌&&◌, ◌||◌, List, [], ◌∷◌, length, get_or, take, Some, None, Option, sym, refl, ap, ◌∙◌, subst, ⊎_elim, arith}
use Rattle.std.proofs.lemmas.List.{length-take-le, get_or-take}
use Rattle.std.proofs.lemmas.Bool.{both_ways, and_from, and_parts, or_parts, or_cases, lt-ltb, not-false, cases_eq}
use Rattle.std.proofs.lemmas.Bool.Decides.{nat_tests}
use Rattle.literals.specs.Bits.{bit}
use Rattle.literals.specs.declared.LiteralSet.{LiteralSet}
use Rattle.literals.specs.Literals.{has}
use Rattle.literals.proofs.Bits.{xor}
use Rattle.settings.specs.Settings.{meets, all_met}
use Rattle.search.specs.declared.Assignment.{Assignment}
use Rattle.search.specs.Assignments.{taken, agreeing, decided}
use Rattle.search.proofs.Pointwise.{meets_in, meets_out, covers_out}
use Rattle.rules.specs.declared.Finding.{Finding}
use Rattle.rules.specs.declared.Finding.TheVariants.{Failed, Forced}
use Rattle.rules.specs.Rules.{restricted, met_mask, undecided_in, is_met, several, is_quiet, wanted_at, first_wanted, scanned, any_unmet}
use Rattle.rules.proofs.Masks.{one_bit, has_restricted, met_bits, left_bits, none_met, is_met_at, several_at}

-- what is found on n variables holds of every setting of these and more
abbrev pub Tells : ℕ → List LiteralSet → Assignment → Option Finding → Type 0
Tells n rs a (Some Failed) = (x : List Bool) → n ≤ length x → agreeing a x ≡ true → all_met rs (take n x) ≡ true → ⊥
Tells n rs a (Some (Forced k b)) = (k < n) × (decided a k ≡ false) × ((x : List Bool) → n ≤ length x → agreeing a x ≡ true → all_met rs (take n x) ≡ true → get_or x k false ≡ b)
Tells n rs a None = ((k : ℕ) → k < n → decided a k ≡ true) → (x : List Bool) → n ≤ length x → agreeing a x ≡ true → all_met rs (take n x) ≡ true

-- ---- one variable of a rule that is not met

table_closed : (rc ro ac ao : Bool) → (((rc && ac) || (ro && ao)) || (rc && ro)) ≡ false → ao ≡ false → rc ≡ true → (ac || ao) ≡ false
table_closed rc ro ac ao t g h = grind (arith, nat_tests)

table_opened : (rc ro ac ao : Bool) → (((rc && ac) || (ro && ao)) || (rc && ro)) ≡ false → ac ≡ false → ro ≡ true → (ac || ao) ≡ false
table_opened rc ro ac ao t g h = grind (arith, nat_tests)

table_met_closed : (rc ro ac ao : Bool) → (((rc && ac) || (ro && ao)) || (rc && ro)) ≡ true → ao ≡ false → rc ≡ true
table_met_closed rc ro ac ao t g = grind (arith, nat_tests)

table_met_opened : (rc ro ac ao : Bool) → (((rc && ac) || (ro && ao)) || (rc && ro)) ≡ true → ac ≡ false → ro ≡ true
table_met_opened rc ro ac ao t g = grind (arith, nat_tests)

table_left : (rc ro d : Bool) → d ≡ false → (rc || ro) ≡ true → xor (rc || ro) ((rc || ro) && d) ≡ true
table_left rc ro true g h = absurd (both_ways _ g refl)
table_left true ro false g h = refl
table_left false true false g h = refl
table_left false false false g h = h

table_free : (l d : Bool) → xor l (l && d) ≡ true → d ≡ true → ⊥
table_free true true h e = both_ways _ refl h
table_free true false h e = both_ways _ refl e
table_free false d h e = both_ways _ refl h

-- the value that a rule wants
abbrev Wanted : Bool → Bool → Bool → Option Bool → Type 0
Wanted d rc ro None = d ≡ false → (rc ≡ false) × (ro ≡ false)
Wanted d rc ro (Some true) = (d ≡ false) × (rc ≡ true)
Wanted d rc ro (Some false) = (d ≡ false) × (ro ≡ true)

table_wanted : (d rc ro : Bool) → Wanted d rc ro (cond d None (cond rc (Some true) (cond ro (Some false) None)))
table_wanted true rc ro = λ e. absurd (both_ways _ e refl)
table_wanted false true ro = (refl, refl)
table_wanted false false true = (refl, refl)
table_wanted false false false = λ e. (refl, refl)

module _ (r : LiteralSet) (a : Assignment) (k : ℕ) where
  wants_none : (b : Bool) → wanted_at r a k ≡ None → decided a k ≡ false → has r k b ≡ false
  wants_none true e g = (subst (Wanted (decided a k) (bit r.closed k) (bit r.opened k)) e (table_wanted (decided a k) (bit r.closed k) (bit r.opened k)) g).0
  wants_none false e g = (subst (Wanted (decided a k) (bit r.closed k) (bit r.opened k)) e (table_wanted (decided a k) (bit r.closed k) (bit r.opened k)) g).1

  wants : (b : Bool) → wanted_at r a k ≡ Some b → (decided a k ≡ false) × (has r k b ≡ true)
  wants true e = subst (Wanted (decided a k) (bit r.closed k) (bit r.opened k)) e (table_wanted (decided a k) (bit r.closed k) (bit r.opened k))
  wants false e = subst (Wanted (decided a k) (bit r.closed k) (bit r.opened k)) e (table_wanted (decided a k) (bit r.closed k) (bit r.opened k))

  -- a literal that a setting agrees with, of a rule that is not met, is undecided
  open_at : (b : Bool) → bit (met_mask r a) k ≡ false → has (taken a) k (not b) ≡ false → has r k b ≡ true → decided a k ≡ false
  open_at true t g h = table_closed (bit r.closed k) (bit r.opened k) (bit a.closed k) (bit a.opened k) (sym (met_bits r a k) ∙ t) g h
  open_at false t g h = table_opened (bit r.closed k) (bit r.opened k) (bit a.closed k) (bit a.opened k) (sym (met_bits r a k) ∙ t) g h

  met_at : (b : Bool) → bit (met_mask r a) k ≡ true → has (taken a) k (not b) ≡ false → has r k b ≡ true
  met_at true t g = table_met_closed (bit r.closed k) (bit r.opened k) (bit a.closed k) (bit a.opened k) (sym (met_bits r a k) ∙ t) g
  met_at false t g = table_met_opened (bit r.closed k) (bit r.opened k) (bit a.closed k) (bit a.opened k) (sym (met_bits r a k) ∙ t) g

  has_either : (b : Bool) → has r k b ≡ true → (bit r.closed k || bit r.opened k) ≡ true
  has_either true h = ap (λ x. x || bit r.opened k) h
  has_either false h = grind (arith, nat_tests)

  left_at : (b : Bool) → decided a k ≡ false → has r k b ≡ true → bit (undecided_in r a) k ≡ true
  left_at b g h = left_bits r a k ∙ table_left (bit r.closed k) (bit r.opened k) (decided a k) g (has_either b h)

  -- a rule that is not met has no opposite literals
  one_way : (b c : Bool) → bit (met_mask r a) k ≡ false → has r k b ≡ true → has r k c ≡ true → b ≡ c
  one_way true true t h g = refl
  one_way true false t h g = absurd (both_ways _ (or_parts _ _ (sym (met_bits r a k) ∙ t)).1 (and_from _ _ h g))
  one_way false true t h g = absurd (both_ways _ (or_parts _ _ (sym (met_bits r a k) ∙ t)).1 (and_from _ _ g h))
  one_way false false t h g = refl

-- ---- one rule

module _ (n : ℕ) (few : n ≤ 64) (r : LiteralSet) (a : Assignment) (x : List Bool) (long : n ≤ length x) (fit : agreeing a x ≡ true) where
  agrees_at : (k : ℕ) → k < n → has (taken a) k (not (get_or x k false)) ≡ false
  agrees_at k lt = covers_out (taken a) x fit k (omega arith)

  -- a setting meets a rule on the first n variables at one of them
  met_out : meets r (take n x) ≡ true → (k : ℕ) × (k < n) × (has (restricted n r) k (get_or x k false) ≡ true)
  met_out h =
      let s = meets_out r (take n x) h in
      let lt : s.0 < n = omega (arith, s.1, length-take-le n x long) in
      (s.0, lt, has_restricted n r s.0 _ few ∙ and_from _ _ (ap (has r s.0) (sym (get_or-take n x s.0 false lt)) ∙ s.2) (lt-ltb s.0 n lt))

  met_in : (k : ℕ) → k < n → has (restricted n r) k (get_or x k false) ≡ true → meets r (take n x) ≡ true
  met_in k lt h = meets_in r (take n x) k (omega (arith, length-take-le n x long)) (ap (has r k) (get_or-take n x k false lt) ∙ (and_parts _ _ (sym (has_restricted n r k (get_or x k false) few) ∙ h)).0)

  pub is_met_meets : is_met (restricted n r) a ≡ true → meets r (take n x) ≡ true
  is_met_meets t = let s = is_met_at n r a t in met_in s.0 s.1 (met_at (restricted n r) a s.0 (get_or x s.0 false) s.2 (agrees_at s.0 s.1))

  several_meets : several (undecided_in (restricted n r) a) ≡ true → ((k : ℕ) → k < n → decided a k ≡ true) → ⊥
  several_meets t all =
      let s = several_at n r a t in
      table_free (bit (restricted n r).closed s.0 || bit (restricted n r).opened s.0) (decided a s.0) (sym (left_bits (restricted n r) a s.0) ∙ s.2) (all s.0 s.1)

  quiet_meets : is_quiet (restricted n r) a ≡ true → ((k : ℕ) → k < n → decided a k ≡ true) → meets r (take n x) ≡ true
  quiet_meets t all = ⊎_elim is_met_meets (λ s. absurd (several_meets s all)) (or_cases _ _ t)

  module _ (t : is_quiet (restricted n r) a ≡ false) (met : meets r (take n x) ≡ true) where
    not_met : (k : ℕ) → bit (met_mask (restricted n r) a) k ≡ false
    not_met = none_met (restricted n r) a (or_parts _ _ t).0

    open_out : (k : ℕ) → k < n → has (restricted n r) k (get_or x k false) ≡ true → decided a k ≡ false
    open_out k lt h = open_at (restricted n r) a k (get_or x k false) (not_met k) (agrees_at k lt) h

    failed : ((k : ℕ) → k < n → wanted_at (restricted n r) a k ≡ None) → ⊥
    failed none =
        let s = met_out met in
        both_ways _ (wants_none (restricted n r) a s.0 (get_or x s.0 false) (none s.0 s.1) (open_out s.0 s.1 s.2)) s.2

    forced : (k : ℕ) (b : Bool) → k < n → wanted_at (restricted n r) a k ≡ Some b → get_or x k false ≡ b
    forced k b lt e =
        let s = met_out met in
        let w = wants (restricted n r) a k b e in
        let same : s.0 ≡ k = one_bit (undecided_in (restricted n r) a) s.0 k (or_parts _ _ t).1 (left_at (restricted n r) a s.0 _ (open_out s.0 s.1 s.2) s.2) (left_at (restricted n r) a k b w.0 w.1) in
        one_way (restricted n r) a k (get_or x k false) b (not_met k) (subst (λ j. has (restricted n r) j (get_or x j false) ≡ true) same s.2) w.1

-- ---- a list of rules

module _ (n : ℕ) (few : n ≤ 64) (a : Assignment) where
  tells_more : (r : LiteralSet) (rs : List LiteralSet) (s : Option Finding) → is_quiet (restricted n r) a ≡ true → Tells n rs a s → Tells n (r ∷ rs) a s
  tells_more r rs (Some Failed) t h = λ x long fit met. h x long fit (and_parts (meets r (take n x)) _ met).1
  tells_more r rs (Some (Forced k b)) t h = (h.0, h.1, λ x long fit met. h.2 x long fit (and_parts (meets r (take n x)) _ met).1)
  tells_more r rs None t h = λ all x long fit. and_from _ _ (quiet_meets n few r a x long fit t all) (h all x long fit)

  tells_here : (r : LiteralSet) (rs : List LiteralSet) (k m : ℕ) → k + m ≡ n → is_quiet (restricted n r) a ≡ false → ((j : ℕ) → j < k → wanted_at (restricted n r) a j ≡ None) → Tells n (r ∷ rs) a (Some (first_wanted k m (restricted n r) a))
  tells_here r rs k zero e t none = λ x long fit met. failed n few r a x long fit t (and_parts _ _ met).0 (λ j lt. none j (omega arith))
  tells_here r rs k (suc m) e t none = go (wanted_at (restricted n r) a k) refl (λ h. tells_here r rs (suc k) m (omega arith) t (below_suc h)) where
    below_suc : wanted_at (restricted n r) a k ≡ None → (j : ℕ) → j < suc k → wanted_at (restricted n r) a j ≡ None
    below_suc h j lt = ⊎_elim (λ same. ap (wanted_at (restricted n r) a) same ∙ h) (λ ne. none j (omega (arith, ne))) (cases_eq j k)

    go : (o : Option Bool) → wanted_at (restricted n r) a k ≡ o → (wanted_at (restricted n r) a k ≡ None → Tells n (r ∷ rs) a (Some (first_wanted (suc k) m (restricted n r) a))) → Tells n (r ∷ rs) a (Some (elim o [ Some b ↦ Forced k b | None ↦ first_wanted (suc k) m (restricted n r) a ]))
    go (Some b) h later = (omega arith, (wants (restricted n r) a k b h).0, λ x long fit met. forced n few r a x long fit t (and_parts _ _ met).0 k b (omega arith) h)
    go None h later = later h

  pub tells_all : (rs : List LiteralSet) → Tells n rs a (scanned n rs a)
  tells_all [] = λ all x long fit. refl
  tells_all (r ∷ rs) = go (is_quiet (restricted n r) a) refl (tells_all rs) where
    go : (b : Bool) → is_quiet (restricted n r) a ≡ b → Tells n rs a (scanned n rs a) → Tells n (r ∷ rs) a (cond b (scanned n rs a) (Some (first_wanted 0 n (restricted n r) a)))
    go true t rest = tells_more r rs (scanned n rs a) t rest
    go false t rest = tells_here r rs 0 n (omega arith) t (λ j lt. absurd (omega arith))

  -- where no rule is unmet, what agrees with the assignment meets them all
  pub met_all : (rs : List LiteralSet) → any_unmet n rs a ≡ false → (x : List Bool) → n ≤ length x → agreeing a x ≡ true → all_met rs (take n x) ≡ true
  met_all [] h x long fit = refl
  met_all (r ∷ rs) h x long fit =
      let p = or_parts _ _ h in and_from _ _ (is_met_meets n few r a x long fit (not-false _ p.0)) (met_all rs p.1 x long fit)
