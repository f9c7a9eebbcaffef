-- Bytes put into a buffer.
use Rattle.std.proofs.Common.{◌≡◌, ℕ, suc, ◌+◌, ◌≤◌, Bool, true, false, cond, List, [], ◌∷◌, ◌++◌, length, set, ℤ, decimal, sym, refl, ap, ap₂, subst, ◌∙◌, append_assoc, add-zero, arith, length-append}
use Rattle.std.proofs.lemmas.Fmt.{length-decimal-le}
use Rattle.literals.specs.declared.LiteralSet.{LiteralSet}
use Rattle.literals.specs.Literals.{has, when, listed_from}
use Rattle.dimacs_write.specs.declared.Output.{Output}
use Rattle.dimacs_write.specs.Puts.{over, Put, literal_of, variable_text}
use Rattle.dimacs_write.specs.Texts.{literal_text, rule_text}

pub over_append : (s : List ℕ) (i : ℕ) (a b : List ℕ) → over s i (a ++ b) ≡ over (over s i a) (i + length a) b
over_append s i [] b = ap (λ n. over s n b) (sym (add-zero i))
over_append s i (x ∷ a) b = over_append (set s i x) (i + 1) a b ∙ ap (λ n. over (over (set s i x) (i + 1) a) n b) (omega arith)

-- xs, and then ys
pub put_append : (s t u : Output) (xs ys : List ℕ) → Put s xs t → Put t ys u → Put s (xs ++ ys) u
put_append s t u xs ys p q = record {
  bytes = q.bytes ∙ ap₂ (λ l n. over l n ys) p.bytes p.counted ∙ sym (over_append s.buffer.now s.length xs ys);
  counted = omega (arith, p.counted, q.counted, length-append xs ys);
  same_buffer = q.same_buffer ∙ p.same_buffer;
}

-- the same, where that is zs
pub put_both : (s t u : Output) (xs ys zs : List ℕ) → zs ≡ xs ++ ys → Put s xs t → Put t ys u → Put s zs u
put_both s t u xs ys zs e p q = subst (λ l. Put s l u) (sym e) (put_append s t u xs ys p q)

pub put_nothing : (s : Output) → Put s [] s
put_nothing s = record { bytes = refl; counted = sym (add-zero s.length); same_buffer = refl }

pub put_none : (s : Output) (xs : List ℕ) → xs ≡ [] → Put s xs s
put_none s xs e = subst (λ l. Put s l s) (sym e) (put_nothing s)

-- a variable's literals in front of a rule's line
variable_first : (b d : Bool) (x y : ℤ) (ls : List ℤ) → rule_text (when b x ++ (when d y ++ ls)) ≡ (cond b (literal_text x) [] ++ cond d (literal_text y) []) ++ rule_text ls
variable_first true true x y ls = simp append_assoc
variable_first true false x y ls = simp append_assoc
variable_first false true x y ls = refl
variable_first false false x y ls = refl

pub rule_from : (m n k k' : ℕ) (s : LiteralSet) → m ≡ suc n → k' ≡ suc k → rule_text (listed_from k m s) ≡ variable_text s k ++ rule_text (listed_from k' n s)
rule_from m n k k' s h e =
    ap (λ i. rule_text (listed_from k i s)) h
    ∙ variable_first (has s k true) (has s k false) (literal_of false k) (literal_of true k) (listed_from (suc k) n s)
    ∙ ap (λ j. variable_text s k ++ rule_text (listed_from j n s)) (sym e)

pub two_digits : (n : ℕ) → n ≤ 64 → length (decimal n) ≤ 2
two_digits n h = length-decimal-le 2 n (omega arith) (omega arith) (omega arith)

pub few_digits : (n : ℕ) → n ≤ 4096 → length (decimal n) ≤ 4
few_digits n h = length-decimal-le 4 n (omega arith) (omega arith) (omega arith)

-- what putting one thing behind another goes by
pub ruleset puts = (put_append, put_nothing, two_digits, few_digits)

-- what two things put one behind the other come to, byte by byte
pub ruleset appends = (over_append, length-append)
