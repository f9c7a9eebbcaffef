-- Lines of a text, and the end behind them.
use Rattle.std.proofs.Common.{◌≡◌, ℕ, ◌+◌, ◌^◌, ◌<◌, ◌≤◌, Bool, true, false, cond, eqb, ltb, List, [], ◌∷◌, ◌++◌, length, Ok, Err, decimal, Result, sym, refl, ap, subst, arith}
use Rattle.std.specs.Char.{is_ascii_digit}
use Rattle.std.specs.Str.{all_ascii_digits}
use Rattle.std.proofs.lemmas.Fmt.{digits_decimal}
use Rattle.std.proofs.lemmas.Bool.{and_parts, cond-true, cond-false, eq-eqb, eqb-true, le-ltb, ltb-false}
use Rattle.std.proofs.lemmas.Bool.Decides.{nat_tests}
use Rattle.faults.specs.declared.TextFault.{TextFault}
use Rattle.faults.specs.declared.TextFault.TheVariants.{Shape, Limit}
use Rattle.texts.specs.Lexemes.{Lexeme, word, line_end, end, blank}
use Rattle.texts.specs.Lines.{Lines, Ends}
use Rattle.texts.specs.Due.{length_due, ended}
use Rattle.texts.proofs.Cuts.{Solid}
use Rattle.texts.proofs.Dues.{from_ok, own}

-- lines and then more lines
pub lines_join : (xs ys : List (List (List ℕ))) (a m b : ℕ) (ts us rest : List Lexeme) → Lines xs a ts m us → Lines ys m us b rest → Lines (xs ++ ys) a ts b rest
lines_join [] ys a m b ts us rest h k = subst (λ n. Lines ys n ts b rest) (sym h.0) (subst (λ l. Lines ys m l b rest) (sym h.1) k)
lines_join (ws ∷ xs) ys a m b ts us rest h k = (h.0, h.1, h.2, lines_join xs ys (h.0 + 1) m b h.1 us rest h.3 k)

pub lines_split : (xs ys : List (List (List ℕ))) (a b : ℕ) (ts rest : List Lexeme) → Lines (xs ++ ys) a ts b rest → (m : ℕ) × (us : List Lexeme) × Lines xs a ts m us × Lines ys m us b rest
lines_split [] ys a b ts rest h = (a, ts, (refl, refl), h)
lines_split (ws ∷ xs) ys a b ts rest h =
    let q = lines_split xs ys (h.0 + 1) b h.1 rest h.3 in
    (q.0, q.1, (h.0, h.1, h.2, q.2), q.3)

-- the value of a reading
pub given : {A : Type 0} (P : A → Type 0) (x a : A) → ◌≡◌ {A = Result A TextFault} (Ok x) (Ok a) → P x → P a
given {A} P x a e h = subst P (ap (λ (y : Result A TextFault). from_ok x y) e) h

pub ended_is : (b : ℕ) (ts : List Lexeme) (u : Unit {0}) → ended b ts ≡ Ok u → Ends b ts
ended_is b [] u e = cc
ended_is b (word w p ∷ ts) u e = cc
ended_is b (line_end p ∷ ts) u e = cc
ended_is b (end p ∷ ts) u e = go (eqb p b) refl e
  where
    go : (t : Bool) → eqb p b ≡ t → ◌≡◌ {A = Result (Unit {0}) TextFault} (cond t (Ok tt) (Err (Shape p))) (Ok u) → p ≡ b
    go true h e = eqb-true p b h
    go false h e = cc

pub ended_ok : (b : ℕ) (ts : List Lexeme) → Ends b ts → ended b ts ≡ Ok tt
ended_ok b [] h = absurd h
ended_ok b (word w p ∷ ts) h = absurd h
ended_ok b (line_end p ∷ ts) h = absurd h
ended_ok b (end p ∷ ts) h = cond-true (eqb p b) _ _ (eq-eqb p b h)

-- a text of a length that is due
pub short_is : (text : List ℕ) (u : Unit {0}) → length_due text ≡ Ok u → length text ≤ 60000
short_is text u e = go (ltb 60000 (length text)) refl e
  where
    go : (b : Bool) → ltb 60000 (length text) ≡ b → ◌≡◌ {A = Result (Unit {0}) TextFault} (cond b (Err (Limit 60000)) (Ok tt)) (Ok u) → length text ≤ 60000
    go true h e = cc
    go false h e = ltb-false 60000 (length text) h

pub short_ok : (text : List ℕ) → length text ≤ 60000 → length_due text ≡ Ok tt
short_ok text h = cond-false (ltb 60000 (length text)) _ _ (le-ltb 60000 (length text) h)

-- a number is one word
solid_digit : (c : ℕ) → is_ascii_digit c ≡ true → blank c ≡ false
solid_digit c h = grind (arith, nat_tests)

pub solid_digits : (w : List ℕ) → all_ascii_digits w ≡ true → Solid w
solid_digits [] h = tt
solid_digits (c ∷ w) h = let q = and_parts (is_ascii_digit c) (all_ascii_digits w) h in (solid_digit c q.0, solid_digits w q.1)

pub solid_decimal : (n : ℕ) → n < 2 ^ 64 → Solid (decimal n)
solid_decimal n h = solid_digits (decimal n) (digits_decimal own n h)
