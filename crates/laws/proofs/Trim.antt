-- To leave out entries one after another, where one more entry keeps a list passing.
use Rattle.std.proofs.Common.{◌≡◌, suc, ◌^◌, ◌<◌, ◌≤◌, Bool, true, false, cond, List, [], ◌∷◌, ◌++◌, length, Some, None, sym, refl, ap, ◌∙◌, subst, arith, pow_pos}
use mathlib.Core.List.{nil≢cons, head-eq_of_cons-eq, tail-eq_of_cons-eq}
use Rattle.std.specs.List.{AllByRecursion as All}
use Rattle.std.proofs.lemmas.List.{append_assoc, append-nil}
use Rattle.std.proofs.lemmas.Bool.{both_ways, false≢true, cond-true, cond-false}
use Rattle.settings.specs.Settings.{number}
use Rattle.settings.specs.Least.{least}
use Rattle.laws.specs.Choices.{chosen, part_of, greedy, trim}
use Rattle.laws.proofs.Least.{number_parts, none_when, least_alike, least_is, less_fails}

-- one more entry, anywhere, keeps a list passing
abbrev pub Grows : {A : Type 0} → (List A → Bool) → Type 0
Grows {A} e = (front back : List A) (a : A) → e (front ++ back) ≡ true → e (front ++ a ∷ back) ≡ true

pub grow_all : {A : Type 0} (e : List A → Bool) → Grows e → (kept later : List A) (c : List Bool) → e (kept ++ chosen c later) ≡ true → e (kept ++ later) ≡ true
grow_all e g kept [] [] h = h
grow_all e g kept [] (b ∷ c) h = h
grow_all e g kept (a ∷ later) [] h = g kept later a (grow_all e g kept later [] h)
grow_all e g kept (a ∷ later) (false ∷ c) h = g kept later a (grow_all e g kept later c h)
grow_all e g kept (a ∷ later) (true ∷ c) h =
    subst (λ l. e l ≡ true) (append_assoc kept (a ∷ []) later) (grow_all e g (kept ++ a ∷ []) later c (subst (λ l. e l ≡ true) (sym (append_assoc kept (a ∷ []) (chosen c later))) h))

-- the process comes to the least choice that passes
pub greedy_least : {A : Type 0} (e : List A → Bool) → Grows e → (kept items : List A) → e (kept ++ items) ≡ true → least (length items) (λ c. e (kept ++ chosen c items)) ≡ Some (greedy e kept items)
unfolding least greedy
greedy_least e g kept [] h = ap (λ b. cond b (Some []) None) h
greedy_least {A} e g kept (a ∷ later) h = go (e (kept ++ later)) refl (greedy_least e g kept later) (greedy_least e g (kept ++ a ∷ []) later (subst (λ l. e l ≡ true) (sym (append_assoc kept (a ∷ []) later)) h)) where
  go : (b : Bool) → e (kept ++ later) ≡ b → (e (kept ++ later) ≡ true → least (length later) (λ c. e (kept ++ chosen c later)) ≡ Some (greedy e kept later)) → least (length later) (λ c. e ((kept ++ a ∷ []) ++ chosen c later)) ≡ Some (greedy e (kept ++ a ∷ []) later) → least (suc (length later)) (λ c. e (kept ++ chosen c (a ∷ later))) ≡ Some (cond b (false ∷ greedy e kept later) (true ∷ greedy e (kept ++ a ∷ []) later))
  go true k i j = let m = i k in cc
  go false k i j =
      let none = none_when (length later) (λ c. e (kept ++ chosen c later)) (λ c l. off c (e (kept ++ chosen c later)) refl) in
      let same = least_alike (length later) (λ c. e (kept ++ a ∷ chosen c later)) (λ c. e ((kept ++ a ∷ []) ++ chosen c later)) (λ c l. ap e (sym (append_assoc kept (a ∷ []) (chosen c later)))) in
      cc
    where
      off : (c : List Bool) (b : Bool) → e (kept ++ chosen c later) ≡ b → e (kept ++ chosen c later) ≡ false
      off c false q = q
      off c true q = absurd (both_ways (e (kept ++ later)) k (grow_all e g kept later c q))

pub greedy_length : {A : Type 0} (e : List A → Bool) (kept items : List A) → length (greedy e kept items) ≡ length items
unfolding greedy
greedy_length e kept [] = refl
greedy_length e kept (a ∷ later) = go (e (kept ++ later)) (greedy_length e kept later) (greedy_length e (kept ++ a ∷ []) later) where
  go : (b : Bool) → length (greedy e kept later) ≡ length later → length (greedy e (kept ++ a ∷ []) later) ≡ length later → length (cond b (false ∷ greedy e kept later) (true ∷ greedy e (kept ++ a ∷ []) later)) ≡ suc (length later)
  go true i j = ap suc i
  go false i j = ap suc j

-- what is kept is what the process chooses
pub trim_chosen : {A : Type 0} (e : List A → Bool) (kept items : List A) → trim e kept items ≡ kept ++ chosen (greedy e kept items) items
unfolding greedy trim
trim_chosen e kept [] = sym (append-nil kept)
trim_chosen e kept (a ∷ later) = go (e (kept ++ later)) (trim_chosen e kept later) (trim_chosen e (kept ++ a ∷ []) later) where
  go : (b : Bool) → trim e kept later ≡ kept ++ chosen (greedy e kept later) later → trim e (kept ++ a ∷ []) later ≡ (kept ++ a ∷ []) ++ chosen (greedy e (kept ++ a ∷ []) later) later → cond b (trim e kept later) (trim e (kept ++ a ∷ []) later) ≡ kept ++ chosen (cond b (false ∷ greedy e kept later) (true ∷ greedy e (kept ++ a ∷ []) later)) (a ∷ later)
  go true i j = i
  go false i j = j ∙ append_assoc kept (a ∷ []) (chosen (greedy e (kept ++ a ∷ []) later) later)

not_nil : {A : Type 0} (front back : List A) (a : A) → [] ≡ front ++ a ∷ back → ⊥
not_nil [] back a h = nil≢cons h
not_nil (f ∷ front) back a h = nil≢cons h

-- a choice short of one entry is a choice of smaller number
pub one_less : {A : Type 0} (c : List Bool) (items front back : List A) (a : A) → chosen c items ≡ front ++ a ∷ back → (d : List Bool) × (length d ≡ length c) × (chosen d items ≡ front ++ back) × (number d < number c)
one_less [] items front back a h = absurd (not_nil front back a h)
one_less (b ∷ c) [] front back a h = absurd (not_nil front back a h)
one_less (false ∷ c) (i ∷ items) front back a h =
    let r = one_less c items front back a h in (false ∷ r.0, ap suc r.1, r.2, r.3)
one_less (true ∷ c) (i ∷ items) [] back a h = (false ∷ c, refl, tail-eq_of_cons-eq h, omega (arith, pow_pos (length c)))
one_less (true ∷ c) (i ∷ items) (f ∷ front) back a h =
    let r = one_less c items front back a (tail-eq_of_cons-eq h) in
    let head : i ≡ f = head-eq_of_cons-eq h in
    let rest = r.2 in
    let same : i ∷ chosen r.0 items ≡ f ∷ (front ++ back) = cc in
    let w : 2 ^ length r.0 ≡ 2 ^ length c = ap (λ m. 2 ^ m) r.1 in
    (true ∷ r.0, ap suc r.1, same, omega (arith, r.3))

-- the law of the process
module _ {A : Type 0} (e : List A → Bool) (g : Grows e) (items : List A) (all : e items ≡ true) where
  kept_choice : trim e [] items ≡ chosen (greedy e [] items) items
  kept_choice = trim_chosen e [] items

  least_choice : least (length items) (λ c. e (chosen c items)) ≡ Some (greedy e [] items)
  least_choice = greedy_least e g [] items all

  pub trim_passes : e (trim e [] items) ≡ true
  trim_passes = ap e kept_choice ∙ (least_is (length items) (λ c. e (chosen c items)) (greedy e [] items) least_choice).passes

  pub trim_lean : (front back : List A) (a : A) → trim e [] items ≡ front ++ a ∷ back → e (front ++ back) ≡ false
  trim_lean front back a h =
      let r = one_less (greedy e [] items) items front back a (sym kept_choice ∙ h) in
      let k = less_fails (length items) (λ c. e (chosen c items)) (greedy e [] items) least_choice r.0 (r.1 ∙ greedy_length e [] items) r.3 in
      ap e (sym r.2) ∙ k

-- what holds of each entry holds of each chosen one
pub all_chosen : {A : Type 0} (P : A → Type 0) (c : List Bool) (items : List A) → All P items → All P (chosen c items)
all_chosen P [] items h = tt
all_chosen P (b ∷ c) [] h = tt
all_chosen P (true ∷ c) (i ∷ items) h = (h.0, all_chosen P c items h.1)
all_chosen P (false ∷ c) (i ∷ items) h = all_chosen P c items h.1

pub length_chosen : {A : Type 0} (c : List Bool) (items : List A) → length (chosen c items) ≤ length items
length_chosen [] items = omega arith
length_chosen (b ∷ c) [] = omega arith
length_chosen (true ∷ c) (i ∷ items) = let h = length_chosen c items in omega arith
length_chosen (false ∷ c) (i ∷ items) = let h = length_chosen c items in omega arith

pub all_trim : {A : Type 0} (P : A → Type 0) (e : List A → Bool) (items : List A) → All P items → All P (trim e [] items)
all_trim P e items h = subst (All P) (sym (trim_chosen e [] items)) (all_chosen P (greedy e [] items) items h)

pub length_trim : {A : Type 0} (e : List A → Bool) (items : List A) → length (trim e [] items) ≤ length items
length_trim e items = rw (trim_chosen e [] items) (length_chosen (greedy e [] items) items)

-- a part of a choice is that choice or has a smaller number
pub part_less : (d c : List Bool) → part_of d c ≡ true → (length d ≡ length c) × ((d ≡ c → ⊥) → number d < number c)
part_less [] [] h = (refl, λ ne. absurd (ne refl))
part_less [] (b ∷ c) h = absurd (false≢true h)
part_less (b ∷ d) [] h = absurd (false≢true h)
part_less (true ∷ d) (false ∷ c) h = absurd (false≢true h)
part_less (false ∷ d) (false ∷ c) h = let r = part_less d c h in (ap suc r.0, λ ne. r.1 (λ e. ne (ap (λ t. false ∷ t) e)))
part_less (true ∷ d) (true ∷ c) h =
    let r = part_less d c h in
    let w : 2 ^ length d ≡ 2 ^ length c = ap (λ m. 2 ^ m) r.0 in
    (ap suc r.0, λ ne. let k = r.1 (λ e. ne (ap (λ t. true ∷ t) e)) in omega arith)
part_less (false ∷ d) (true ∷ c) h = let r = part_less d c h in (ap suc r.0, λ ne. number_parts [] d c r.0)

-- the steps of a loop that leaves out
module _ {A : Type 0} (e : List A → Bool) (kept : List A) (a : A) (later : List A) where
  pub trim_without : e (kept ++ later) ≡ true → trim e kept (a ∷ later) ≡ trim e kept later
  unfolding trim
  trim_without h = cond-true (e (kept ++ later)) (trim e kept later) (trim e (kept ++ a ∷ []) later) h

  pub trim_with : e (kept ++ later) ≡ false → trim e kept (a ∷ later) ≡ trim e (kept ++ a ∷ []) later
  unfolding trim
  trim_with h = cond-false (e (kept ++ later)) (trim e kept later) (trim e (kept ++ a ∷ []) later) h

pub trim_end : {A : Type 0} (e : List A → Bool) (kept : List A) → trim e kept [] ≡ kept
unfolding trim
trim_end e kept = refl
