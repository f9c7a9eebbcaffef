-- Worked positions, one table: sheets over clause texts, what is held, and the answers.
use Rattle.std.specs.Prelude.{◌≡◌, ℕ, zero, suc, ◌-◌, Bool, true, false, ◌&&◌, List, [], ◌∷◌, ℤ, pos, negsuc, Some, None, Option}
use Rattle.std.specs.Option.{option_map}
use Rattle.settings.specs.Settings.{fits, number, literals}
use Rattle.settings.specs.Least.{least}
use Rattle.laws.specs.Texts.{text_allows}
use Rattle.laws.specs.Choices.{chosen, enough, why}
use Rattle.laws.specs.Terms.{Outcome, made, shared, terms, gather}

-- the literal k, and -k
abbrev c : ℕ → ℤ
c k = pos k

abbrev o : ℕ → ℤ
o zero = pos zero
o (suc k) = negsuc k

-- a clause text of so many variables and its rules
pub record Text : Type 0 where
  pub variables : ℕ
  pub rules : List (List ℤ)

-- the settings of n contacts that it allows
abbrev pub allows : ℕ → Text → List Bool → Bool
allows n t = text_allows (t.variables - n) t.rules

-- what LEAST and WHY write, with these literals held
abbrev pub least_written : ℕ → Text → List ℤ → Option (List ℤ)
least_written n t held = option_map (literals 0) (least n (λ x. allows n t x && fits held x))

abbrev pub why_written : ℕ → Text → List ℤ → Option (List ℤ)
why_written n t held = option_map (λ choice. chosen choice held) (why n (allows n t) held)

abbrev pub why_number : ℕ → Text → List ℤ → Option ℕ
why_number n t held = option_map number (why n (allows n t) held)

-- the terms before any is struck, and what TERMS answers
abbrev pub terms_made : ℕ → Text → Text → Outcome
terms_made n make brk = gather n (allows n make) (allows n brk) 64 []

abbrev pub terms_written : ℕ → Text → Text → Outcome
terms_written n make brk = terms n (allows n make) (allows n brk)

abbrev pub text : ℕ → List (List ℤ) → Text
text v rs = record { variables = v; rules = rs }

-- (1 2), (-1 3)
abbrev pub first_text : Text
first_text = text 3 ((c 1 ∷ c 2 ∷ []) ∷ (o 1 ∷ c 3 ∷ []) ∷ [])

-- (-1), (-2 -3)
abbrev pub fourth_text : Text
fourth_text = text 3 ((o 1 ∷ []) ∷ (o 2 ∷ o 3 ∷ []) ∷ [])

-- MAKE (-1 -2), (1 -3) and BREAK (-1 2), (1 3)
abbrev pub eighth_make : Text
eighth_make = text 3 ((o 1 ∷ o 2 ∷ []) ∷ (c 1 ∷ o 3 ∷ []) ∷ [])

abbrev pub eighth_break : Text
eighth_break = text 3 ((o 1 ∷ c 2 ∷ []) ∷ (c 1 ∷ c 3 ∷ []) ∷ [])

pub record Positions : Type 0 where
  pub least_of_none_held : least_written 3 first_text [] ≡ Some (o 1 ∷ c 2 ∷ o 3 ∷ [])
  pub least_of_one_held : least_written 3 first_text (c 1 ∷ []) ≡ Some (c 1 ∷ o 2 ∷ c 3 ∷ [])
  pub least_of_two_held : least_written 3 first_text (c 1 ∷ o 3 ∷ []) ≡ None
  pub why_of_two_held : why_written 3 first_text (c 1 ∷ o 3 ∷ []) ≡ Some (c 1 ∷ o 3 ∷ [])
  pub why_of_smallest_number : why_written 3 fourth_text (c 1 ∷ c 2 ∷ c 3 ∷ []) ≡ Some (c 2 ∷ c 3 ∷ [])
  pub its_number : why_number 3 fourth_text (c 1 ∷ c 2 ∷ c 3 ∷ []) ≡ Some 3
  pub first_alone_enough : enough 3 (allows 3 fourth_text) (c 1 ∷ []) ≡ true
  pub first_alone_number : number (true ∷ false ∷ false ∷ []) ≡ 4
  pub why_of_empty_rule : why_written 3 (text 3 ([] ∷ [])) (c 1 ∷ []) ≡ Some []
  pub why_of_one_twice : why 1 (allows 1 (text 1 ((o 1 ∷ []) ∷ []))) (c 1 ∷ c 1 ∷ []) ≡ Some (false ∷ true ∷ [])
  pub terms_of_two : terms_written 2 (text 2 ((c 1 ∷ c 2 ∷ []) ∷ [])) (text 2 ((o 1 ∷ []) ∷ (o 2 ∷ []) ∷ [])) ≡ made ((c 2 ∷ []) ∷ (c 1 ∷ []) ∷ [])
  pub terms_before_striking : terms_made 3 eighth_make eighth_break ≡ made ((o 2 ∷ o 3 ∷ []) ∷ (o 1 ∷ o 3 ∷ []) ∷ (c 1 ∷ o 2 ∷ []) ∷ [])
  pub terms_first_struck : terms_written 3 eighth_make eighth_break ≡ made ((o 1 ∷ o 3 ∷ []) ∷ (c 1 ∷ o 2 ∷ []) ∷ [])
  pub terms_of_no_rules : terms_written 1 (text 1 []) (text 1 []) ≡ shared (false ∷ [])
  pub its_place : number (false ∷ []) ≡ 0
  pub least_with_inner : least_written 1 (text 2 ((c 1 ∷ c 2 ∷ []) ∷ (o 2 ∷ []) ∷ [])) [] ≡ Some (c 1 ∷ [])
