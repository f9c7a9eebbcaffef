-- What a lexeme was that gave what was due.
use Rattle.std.proofs.Common.{◌≡◌, ℕ, zero, suc, ◌+◌, ◌^◌, ◌<◌, ◌≤◌, Bool, true, false, cond, ◌&&◌, ltb, leb, List, [], ◌∷◌, length, get_or, Ok, Err, decimal, Result, sym, refl, ap, ◌∙◌, ⊎_elim, arith}
use Rattle.std.specs.Str.Parse.{digits_value}
use Rattle.std.specs.Str.{all_ascii_digits, bytes_eq}
use Rattle.std.proofs.lemmas.Fmt.{decimal-digits_value, decimal_digit, digits_decimal, digits_value-decimal, decimal_nonempty, first_decimal}
use Rattle.std.proofs.lemmas.Str.Parse.{IsNumeralModel, numerals_by_value, tells_all_ascii_digits}
use Rattle.std.proofs.lemmas.Slice.Eq.{bytes_eq-Decides}
use Rattle.std.proofs.lemmas.Bool.{and_parts, leb-true, ltb-true, both_ways, not-true, lt-ltb, eq-eqb, and_from, cases_lt, cond-true, le-leb}
use Rattle.faults.specs.declared.TextFault.{TextFault}
use Rattle.faults.specs.declared.TextFault.TheVariants.{Shape, Limit}
use Rattle.texts.specs.Lexemes.{Lexeme, word, line_end, end}
use Rattle.texts.specs.Numerals.{numeral}
use Rattle.texts.proofs.Numerals.{numeral_word}
use Rattle.texts.specs.Due.{leaving, and_then, one, limited, number, line_end_due, exactly}

abbrev pub from_ok : {A : Type 0} → A → Result A TextFault → A
from_ok d (Ok x) = x
from_ok d (Err e) = d

-- the two readings of one after another
pub first_then : {A B : Type 0} (r : Result A TextFault) (f : A → Result B TextFault) (b : B) → and_then r f ≡ Ok b → (a : A) × (r ≡ Ok a) × (f a ≡ Ok b)
first_then (Ok a) f b e = (a, refl, e)
first_then (Err x) f b e = cc

-- the lexeme that was judged
pub judged : {A : Type 0} (f : Lexeme → Result A TextFault) (ts : List Lexeme) (a : A × List Lexeme) → one f ts ≡ Ok a → (t : Lexeme) × (ts ≡ t ∷ a.1) × (f t ≡ Ok a.0)
judged f [] a e = cc
judged {A} f (t ∷ ts) a e = go (f t) refl e
  where
    go : (r : Result A TextFault) → f t ≡ r → leaving r ts ≡ Ok a → (t' : Lexeme) × (t ∷ ts ≡ t' ∷ a.1) × (f t' ≡ Ok a.0)
    go (Ok v) h e =
        (t, ap (λ (y : Result (A × List Lexeme) TextFault). t ∷ (from_ok a y).1) e, h ∙ ap (λ (y : Result (A × List Lexeme) TextFault). Ok (from_ok a y).0) e)
    go (Err x) h e = cc

-- a condition that let a value pass
passed : {A : Type 0} (b : Bool) (r : Result A TextFault) (f : TextFault) (a : A) → cond b r (Err f) ≡ Ok a → (b ≡ true) × (r ≡ Ok a)
passed true r f a e = (refl, e)
passed false r f a e = cc

pub limited_is : (low high : ℕ) (w : List ℕ) (p n : ℕ) → limited low high w p ≡ Ok n → (numeral w ≡ true) × (digits_value 10 w ≡ n) × (low ≤ n) × (n ≤ high)
limited_is low high w p n e =
    let outer = passed (numeral w) _ (Shape p) n e in
    let inner = passed (leb low (digits_value 10 w) && leb (digits_value 10 w) high) (Ok (digits_value 10 w)) (Limit p) n outer.1 in
    let same : digits_value 10 w ≡ n = ap (from_ok 0) inner.1 in
    let both = and_parts (leb low (digits_value 10 w)) (leb (digits_value 10 w) high) inner.0 in
    let a = leb-true low (digits_value 10 w) both.0 in
    let b = leb-true (digits_value 10 w) high both.1 in
    (outer.0, same, omega arith, omega arith)

pub own : IsNumeralModel (λ ds. all_ascii_digits ds ≡ true) (digits_value 10)
own = numerals_by_value (λ ds. all_ascii_digits ds ≡ true) tells_all_ascii_digits

-- a number is written in one way only
pub one_way : (w : List ℕ) → numeral w ≡ true → digits_value 10 w < 2 ^ 64 → decimal (digits_value 10 w) ≡ w
one_way w h lt =
    let outer = and_parts (ltb 0 (length w)) _ h in
    let inner = and_parts (all_ascii_digits w) _ outer.1 in
    let some = ltb-true 0 (length w) outer.0 in
    let single : get_or w 0 0 ≡ 48 → length w ≡ 1 = λ z.
    ⊎_elim
    (λ more. absurd (both_ways _ (not-true _ inner.1) (and_from _ _ (lt-ltb 1 (length w) more) (eq-eqb _ 48 z))))
    (λ le. omega arith)
    (cases_lt 1 (length w)) in
    decimal-digits_value own w inner.0 some single lt

-- a number that was due is the word that writes it
pub number_is : (low high : ℕ) (t : Lexeme) (n : ℕ) → high < 2 ^ 64 → number low high t ≡ Ok n → (p : ℕ) × (t ≡ word (decimal n) p) × (low ≤ n) × (n ≤ high)
number_is low high (word w p) n h e =
    let q = limited_is low high w p n e in
    let same = q.1 in
    (p, ap (λ l. word l p) (sym (one_way w q.0 (omega (arith, q.3))) ∙ ap decimal same), q.2, q.3)
number_is low high (line_end p) n h e = cc
number_is low high (end p) n h e = cc

pub exactly_is : (due : List ℕ) (t : Lexeme) (u : Unit {0}) → exactly due t ≡ Ok u → (p : ℕ) × (t ≡ word due p)
exactly_is due (word w p) u e = (p, ap (λ l. word l p) ((bytes_eq-Decides w due).0 (passed (bytes_eq w due) (Ok tt) (Shape p) u e).0))
exactly_is due (line_end p) u e = cc
exactly_is due (end p) u e = cc

pub line_end_is : (t : Lexeme) (n : ℕ) → line_end_due t ≡ Ok n → (p : ℕ) × (t ≡ line_end p) × (n ≡ p + 1)
line_end_is (word w p) n e = cc
line_end_is (line_end p) n e = (p, refl, sym (ap (from_ok 0) e))
line_end_is (end p) n e = cc

-- a number has no needless zero in front
no_zero_in_front : (n : ℕ) → n < 2 ^ 64 → 1 < length (decimal n) → get_or (decimal n) 0 0 ≡ 48 → ⊥
no_zero_in_front zero h more e = omega (arith, ap length (decimal_digit 0 (omega arith)))
no_zero_in_front (suc n) h more e = omega (arith, first_decimal (suc n) (omega arith) h)

pub numeral_decimal : (n : ℕ) → n < 2 ^ 64 → numeral (decimal n) ≡ true
numeral_decimal n h = numeral_word (decimal n) (decimal_nonempty n h) (no_zero_in_front n h) (digits_decimal own n h)

-- a number within its limits passes
pub limited_ok : (low high n p : ℕ) (w : List ℕ) → numeral w ≡ true → digits_value 10 w ≡ n → low ≤ n → n ≤ high → limited low high w p ≡ Ok n
limited_ok low high n p w num e a b =
    cond-true (numeral w) _ _ num
    ∙ cond-true (leb low (digits_value 10 w) && leb (digits_value 10 w) high) _ _ (and_from _ _ (le-leb low (digits_value 10 w) (omega arith)) (le-leb (digits_value 10 w) high (omega arith)))
    ∙ ap Ok e

pub number_ok : (low high n p : ℕ) → n < 2 ^ 64 → low ≤ n → n ≤ high → limited low high (decimal n) p ≡ Ok n
number_ok low high n p h a b = limited_ok low high n p (decimal n) (numeral_decimal n h) (digits_value-decimal own n h) a b
