-- The words that are literals.
use Rattle.std.proofs.Common.{◌≡◌, ℕ, zero, suc, ◌^◌, ◌<◌, ◌≤◌, Bool, true, false, cond, eqb, List, [], ◌∷◌, get_or, drop, ℤ, pos, negsuc, Some, None, Ok, codes, decimal, Option, Result, sym, refl, ap, ◌∙◌, subst, arith}
use Rattle.std.specs.Fmt.{signed_decimal}
use Rattle.std.proofs.lemmas.Fmt.{first_decimal, decimal_digit}
use Rattle.std.proofs.lemmas.Bool.{cond-false, ne_eqb, eqb-true, ltb-true, lt-ltb, both_ways}
use Rattle.faults.specs.declared.TextFault.{TextFault}
use Rattle.literals.specs.Literals.{names}
use Rattle.texts.specs.Lexemes.{Lexeme, word, line_end, end}
use Rattle.texts.specs.Due.{and_then, limited}
use Rattle.texts.proofs.Dues.{from_ok, first_then, limited_is, one_way, number_ok}
use Rattle.dimacs.specs.Literals.{greatest, plain, minus, negated, literal}

-- a literal names one of V variables
abbrev pub Named : ℕ → ℤ → Type 0
Named V l = names V l ≡ true

minus_front : (w : List ℕ) → get_or w 0 0 ≡ 45 → w ≡ 45 ∷ drop 1 w
minus_front [] h = absurd (omega arith)
minus_front (b ∷ w) h = ap (λ x. x ∷ w) h

-- the word that writes a literal, or the closing 0
abbrev pub spelled : Option ℤ → List ℕ
spelled None = codes "0"
spelled (Some l) = signed_decimal l

-- what was read is a literal of one of V variables, or the closing 0
abbrev pub Known : ℕ → Option ℤ → Type 0
Known V None = Unit {0}
Known V (Some l) = Named V l

abbrev Spells : ℕ → List ℕ → Option ℤ → Type 0
Spells V w o = (w ≡ spelled o) × Known V o

negative : (V : ℕ) (w : List ℕ) (p n : ℕ) (o : Option ℤ) → V < 2 ^ 64 → get_or w 0 0 ≡ 45 → limited 0 (greatest V) (drop 1 w) p ≡ Ok n → minus p n ≡ Ok o → Spells V w o
negative V w p zero o v h e m = cc
negative V w p (suc k) o v h e m =
    let q = limited_is 0 (greatest V) (drop 1 w) p (suc k) e in
    let same = q.1 in
    let is : Some (negsuc k) ≡ o = ap (from_ok o) m in
    let lt : k < V = omega (arith, q.3) in
    (minus_front w h ∙ ap (λ ds. 45 ∷ ds) (sym (one_way (drop 1 w) q.0 (omega (arith, q.3))) ∙ ap decimal same) ∙ ap spelled is, subst (Known V) is (lt-ltb k V lt))

-- a number is written as what it stands for
plain_is : (V n : ℕ) → n ≤ V → (decimal n ≡ spelled (plain n)) × Known V (plain n)
plain_is V zero h = (decimal_digit 0 (omega arith), tt)
plain_is V (suc k) h = (refl, lt-ltb k V (omega arith))

positive : (V : ℕ) (w : List ℕ) (p n : ℕ) (o : Option ℤ) → V < 2 ^ 64 → limited 0 (greatest V) w p ≡ Ok n → ◌≡◌ {A = Result (Option ℤ) TextFault} (Ok (plain n)) (Ok o) → Spells V w o
positive V w p n o v e m =
    let q = limited_is 0 (greatest V) w p n e in
    let is : plain n ≡ o = ap (from_ok o) m in
    let writes : w ≡ decimal n = sym (one_way w q.0 (omega (arith, q.3))) ∙ ap decimal q.1 in
    let plainly = plain_is V n (omega (arith, q.3)) in
    (writes ∙ plainly.0 ∙ ap spelled is, subst (Known V) is plainly.1)

word_is : (V : ℕ) (w : List ℕ) (p : ℕ) (o : Option ℤ) (b : Bool) → V < 2 ^ 64 → eqb (get_or w 0 0) 45 ≡ b → cond b (negated V (drop 1 w) p) (and_then (limited 0 (greatest V) w p) (λ n. Ok (plain n))) ≡ Ok o → Spells V w o
word_is V w p o true v h e =
    let q = first_then (limited 0 (greatest V) (drop 1 w) p) (minus p) o e in
    negative V w p q.0 o v (eqb-true _ 45 h) q.1 q.2
word_is V w p o false v h e =
    let q = first_then (limited 0 (greatest V) w p) (λ n. Ok (plain n)) o e in
    positive V w p q.0 o v q.1 q.2

-- a lexeme that was read is the word that writes what was read
pub literal_is : (V : ℕ) (t : Lexeme) (o : Option ℤ) → V < 2 ^ 64 → literal V t ≡ Ok o → (p : ℕ) × (t ≡ word (spelled o) p) × Known V o
literal_is V (word w p) o v e = let q = word_is V w p o (eqb (get_or w 0 0) 45) v refl e in (p, ap (λ x. word x p) q.0, q.1)
literal_is V (line_end p) o v e = cc
literal_is V (end p) o v e = cc

-- the word that writes a literal gives it
pub literal_ok : (V : ℕ) (l : ℤ) (p : ℕ) → V ≤ 64 → Named V l → literal V (word (signed_decimal l) p) ≡ Ok (Some l)
literal_ok V (pos zero) p v h = absurd (both_ways false refl h)
literal_ok V (pos (suc k)) p v h =
    let lt = ltb-true k V h in
    let big = first_decimal (suc k) (omega arith) (omega arith) in
    cond-false (eqb (get_or (decimal (suc k)) 0 0) 45) _ _ (ne_eqb _ 45 (λ e. omega arith))
    ∙ ap (λ r. and_then r (λ n. Ok (plain n))) (number_ok 0 (greatest V) (suc k) p (omega arith) (omega arith) (omega arith))
literal_ok V (negsuc k) p v h =
    let lt = ltb-true k V h in
    ap (λ r. and_then r (minus p)) (number_ok 0 (greatest V) (suc k) p (omega arith) (omega arith) (omega arith))

pub zero_ok : (V p : ℕ) → literal V (word (codes "0") p) ≡ Ok None
zero_ok V p = ap (λ w. literal V (word w p)) (sym (decimal_digit 0 (omega arith))) ∙ cond-false (eqb (get_or (decimal 0) 0 0) 45) _ _ (ap (λ w. eqb (get_or w 0 0) 45) (decimal_digit 0 (omega arith))) ∙ ap (λ r. and_then r (λ n. Ok (plain n))) (number_ok 0 (greatest V) 0 p (omega arith) (omega arith) (omega arith))
