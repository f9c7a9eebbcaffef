-- What LEAST, WHY and TERMS answer, in the words of the subject.
-- A sheet's allowed settings are a test on settings; MAKE and BREAK are the two sheets of TERMS.
use Rattle.std.specs.Prelude.{◌≡◌, ℕ, ◌^◌, ◌<◌, ◌≤◌, Bool, true, false, List, [], ◌∷◌, ◌++◌, length, ℤ, Some, None, Option, ◌≢◌, bit_and}
use Rattle.std.specs.List.{AllByRecursion}
use Rattle.settings.specs.Settings.{fits, covered, number, literals}
use Rattle.settings.specs.Least.{least}
use Rattle.laws.specs.Choices.{chosen, part_of, enough, why, greedy}
use Rattle.laws.specs.Terms.{Outcome, made, shared, full, uncovered, next_term, terms}
use Rattle.settings.specs.TermRecords.{sums, record_covers, wanted}

-- two tests answer alike on every setting of n contacts
abbrev pub Alike : ℕ → (List Bool → Bool) → (List Bool → Bool) → Type 0
Alike n p q = (x : List Bool) → length x ≡ n → p x ≡ q x

-- LEAST: x passes, and every other that passes has a greater number
pub record IsEarliest (n : ℕ) (p : List Bool → Bool) (x : List Bool) : Type 0 where
  pub sized : length x ≡ n
  pub passes : p x ≡ true
  pub others_later : (y : List Bool) → length y ≡ n → p y ≡ true → (y ≢ x) → number x < number y

abbrev pub NonePasses : ℕ → (List Bool → Bool) → Type 0
NonePasses n p = (y : List Bool) → length y ≡ n → p y ≡ false

abbrev pub Earliest : ℕ → (List Bool → Bool) → Option (List Bool) → Type 0
Earliest n p None = NonePasses n p
Earliest n p (Some x) = IsEarliest n p x

abbrev pub LeastLaw : Type 0
LeastLaw = (n : ℕ) (p : List Bool → Bool) → Earliest n p (least n p)

abbrev pub LeastAlike : Type 0
LeastAlike = (n : ℕ) (p q : List Bool → Bool) → Alike n p q → least n p ≡ least n q

-- no allowed setting agrees with all of the literals; some allowed setting does
abbrev pub Enough : ℕ → (List Bool → Bool) → List ℤ → Type 0
Enough n allowed ls = (x : List Bool) → length x ≡ n → allowed x ≡ true → fits ls x ≡ false

pub record NotEnough (n : ℕ) (allowed : List Bool → Bool) (ls : List ℤ) : Type 0 where
  pub setting : List Bool
  pub sized : length setting ≡ n
  pub is_allowed : allowed setting ≡ true
  pub agrees_with_all : fits ls setting ≡ true

-- WHY: the choice is enough, every other enough choice has a greater number, no part of it is enough, nor is it short of any one literal,
-- and leaving out the held literals from the first to the last, where the rest is still enough, comes to the same choice
pub record Reason (n : ℕ) (allowed : List Bool → Bool) (held : List ℤ) (c : List Bool) : Type 0 where
  pub sized : length c ≡ length held
  pub is_enough : Enough n allowed (chosen c held)
  pub others_greater : (d : List Bool) → length d ≡ length held → Enough n allowed (chosen d held) → (d ≢ c) → number c < number d
  pub no_part_enough : (d : List Bool) → part_of d c ≡ true → (d ≢ c) → NotEnough n allowed (chosen d held)
  pub no_literal_less : (front back : List ℤ) (l : ℤ) → chosen c held ≡ front ++ l ∷ back → NotEnough n allowed (front ++ back)
  pub first_to_last : c ≡ greedy (enough n allowed) [] held

-- there is such a choice, or the held literals are not enough all together
abbrev pub Reasoned : ℕ → (List Bool → Bool) → List ℤ → Option (List Bool) → Type 0
Reasoned n allowed held None = NotEnough n allowed held
Reasoned n allowed held (Some c) = Reason n allowed held c

abbrev pub WhyLaw : Type 0
WhyLaw = (n : ℕ) (allowed : List Bool → Bool) (held : List ℤ) → Reasoned n allowed held (why n allowed held)

abbrev pub WhyAlike : Type 0
WhyAlike = (n : ℕ) (p q : List Bool → Bool) → Alike n p q → (held : List ℤ) → why n p held ≡ why n q held

-- the record of a term of n contacts covers the settings that the term covers, says which literals it wants, wants no contact both ways and fits n bits
pub record Recorded (n : ℕ) (ls : List ℤ) : Type 0 where
  pub covers_same : (x : List Bool) → length x ≡ n → record_covers (sums n ls) (number x) ≡ fits ls x
  pub wants_same : wanted n (sums n ls) ≡ ls
  pub no_both_ways : bit_and (sums n ls).closed (sums n ls).opened ≡ 0
  pub closed_fits : (sums n ls).closed < 2 ^ n
  pub opened_fits : (sums n ls).opened < 2 ^ n

-- a choice of a setting's literals can be written as a record
abbrev pub RecordsLaw : Type 0
RecordsLaw = (c x : List Bool) → length c ≡ length x → Recorded (length x) (chosen c (literals 0 x))

-- a MAKE setting that the terms miss
pub record Missed (n : ℕ) (make : List Bool → Bool) (ts : List (List ℤ)) : Type 0 where
  pub setting : List Bool
  pub sized : length setting ≡ n
  pub is_make : make setting ≡ true
  pub not_covered : covered ts setting ≡ false

-- TERMS: the terms cover every MAKE setting and no BREAK setting, a term short of any one literal would cover a BREAK setting,
-- and the list short of any one term would miss a MAKE setting
pub record Card (n : ℕ) (make brk : List Bool → Bool) (ts : List (List ℤ)) : Type 0 where
  pub every_make : (x : List Bool) → length x ≡ n → make x ≡ true → covered ts x ≡ true
  pub no_break : (x : List Bool) → length x ≡ n → brk x ≡ true → covered ts x ≡ false
  pub at_most_64 : length ts ≤ 64
  pub recorded : AllByRecursion (Recorded n) ts
  pub no_literal_less : (before after : List (List ℤ)) (front back : List ℤ) (l : ℤ) → ts ≡ before ++ (front ++ l ∷ back) ∷ after → NotEnough n brk (front ++ back)
  pub no_term_less : (before after : List (List ℤ)) (t : List ℤ) → ts ≡ before ++ t ∷ after → Missed n make (before ++ after)

-- a term was made for the earliest MAKE setting that those before it do not cover, which BREAK does not allow: it covers that setting, covers no BREAK setting
-- and is WHY's choice of the setting's literals
pub record MadeNext (n : ℕ) (make brk : List Bool → Bool) (before : List (List ℤ)) (t : List ℤ) : Type 0 where
  pub setting : List Bool
  pub picked : IsEarliest n (uncovered make before) setting
  pub clear : brk setting ≡ false
  pub covers_it : fits t setting ≡ true
  pub no_break : Enough n brk t
  pub chosen_by_why : t ≡ next_term n brk setting

-- each term was made next behind those before it
abbrev pub MadeInTurn : ℕ → (List Bool → Bool) → (List Bool → Bool) → List (List ℤ) → List (List ℤ) → Type 0
MadeInTurn n make brk before [] = Unit {0}
MadeInTurn n make brk before (t ∷ ts) = MadeNext n make brk before t × MadeInTurn n make brk (before ++ t ∷ []) ts

-- both sheets allow the setting, and it is the earliest MAKE setting that the terms made so far do not cover
pub record Shared (n : ℕ) (make brk : List Bool → Bool) (x : List Bool) : Type 0 where
  pub is_make : make x ≡ true
  pub is_break : brk x ≡ true
  pub so_far : List (List ℤ)
  pub in_turn : MadeInTurn n make brk [] so_far
  pub at_most_64 : length so_far ≤ 64
  pub picked : IsEarliest n (uncovered make so_far) x

-- 64 terms were made, and a MAKE setting outside BREAK wants one more
pub record Overfull (n : ℕ) (make brk : List Bool → Bool) : Type 0 where
  pub so_far : List (List ℤ)
  pub in_turn : MadeInTurn n make brk [] so_far
  pub all_64 : length so_far ≡ 64
  pub setting : List Bool
  pub picked : IsEarliest n (uncovered make so_far) setting
  pub clear : brk setting ≡ false

abbrev pub Settled : ℕ → (List Bool → Bool) → (List Bool → Bool) → Outcome → Type 0
Settled n make brk (made ts) = Card n make brk ts
Settled n make brk (shared x) = Shared n make brk x
Settled n make brk full = Overfull n make brk

abbrev pub TermsLaw : Type 0
TermsLaw = (n : ℕ) (make brk : List Bool → Bool) → Settled n make brk (terms n make brk)

abbrev pub TermsAlike : Type 0
TermsAlike = (n : ℕ) (make make' brk brk' : List Bool → Bool) → Alike n make make' → Alike n brk brk' → terms n make brk ≡ terms n make' brk'
