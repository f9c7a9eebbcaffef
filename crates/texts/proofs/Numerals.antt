-- Lemmas on numbers.
use Rattle.std.proofs.Common.{◌≡◌, ℕ, zero, suc, ◌+◌, ◌-◌, ◌*◌, ◌<◌, min, true, false, ltb, List, [], ◌∷◌, length, get_or, take, refl, ap, ◌∙◌, ⊎_elim, add-one, arith}
use Rattle.std.specs.Str.Parse.{digits_value}
use Rattle.std.specs.Char.{is_ascii_digit, digit_value as digitValue}
use Rattle.std.specs.Str.{all_ascii_digits}
use Rattle.std.proofs.lemmas.Int.Digits.{digits_value_more}
use Rattle.std.proofs.lemmas.Bool.{and_parts, and_from, and_left, and_right, le-ltb, lt-ltb, ne_eqb, not_from_false, cases_lt}
use Rattle.texts.specs.Numerals.{numeral}
use Rattle.std.proofs.lemmas.Bool.Decides.{nat_tests}

digits_suc : (w : List ℕ) (i : ℕ) → all_ascii_digits (take i w) ≡ true → is_ascii_digit (get_or w i 0) ≡ true → all_ascii_digits (take (suc i) w) ≡ true
digits_suc [] i a d = refl
digits_suc (x ∷ w) zero a d = and_from _ _ d refl
digits_suc (x ∷ w) (suc i) a d = let q = and_parts (is_ascii_digit x) _ a in and_from (is_ascii_digit x) _ q.0 (digits_suc w i q.1 d)

pub digits_more : (w : List ℕ) (i : ℕ) → all_ascii_digits (take i w) ≡ true → is_ascii_digit (get_or w i 0) ≡ true → all_ascii_digits (take (i + 1) w) ≡ true
digits_more w i a d = rw add-one (digits_suc w i a d)

pub no_digit : (w : List ℕ) (i : ℕ) → i < length w → is_ascii_digit (get_or w i 0) ≡ false → all_ascii_digits w ≡ false
no_digit [] i h d = absurd (omega arith)
no_digit (x ∷ w) zero h d = and_left (is_ascii_digit x) _ d
no_digit (x ∷ w) (suc i) h d = and_right (is_ascii_digit x) _ (no_digit w i (omega arith) d)

digit_value : (c : ℕ) → is_ascii_digit c ≡ true → digitValue c ≡ c - 48
digit_value c h = grind (arith, nat_tests)

pub capped : (v d : ℕ) → min (min v 1000000 * 10 + d) 1000000 ≡ min (v * 10 + d) 1000000
capped v d = omega arith

pub value_step : (w : List ℕ) (i : ℕ) → i < length w → is_ascii_digit (get_or w i 0) ≡ true → digits_value 10 (take (i + 1) w) ≡ digits_value 10 (take i w) * 10 + (get_or w i 0 - 48)
value_step w i h d = digits_value_more 10 w i h ∙ ap (λ n. digits_value 10 (take i w) * 10 + n) (digit_value _ d)

-- the three parts of a number
pub numeral_word : (w : List ℕ) → 0 < length w → (1 < length w → get_or w 0 0 ≡ 48 → ⊥) → all_ascii_digits w ≡ true → numeral w ≡ true
numeral_word w some lead all =
    and_from _ _ (lt-ltb 0 _ some) (and_from _ _ all (not_from_false _ (⊎_elim (λ h. and_right _ _ (ne_eqb _ _ (lead h))) (λ h. and_left _ _ (le-ltb _ _ h)) (cases_lt 1 (length w)))))

pub numeral_not : (w : List ℕ) → all_ascii_digits w ≡ false → numeral w ≡ false
numeral_not w none = and_right (ltb 0 (length w)) _ (and_left (all_ascii_digits w) _ none)

-- what a reading of a number goes by
pub ruleset readings = (digits_more, no_digit, capped, value_step, numeral_word, numeral_not)
