-- What the loops over words come to, one step at a time.
use Rattle.std.proofs.Common.{◌≡◌, ℕ, suc, ◌+◌, ◌^◌, ◌<◌, ◌≤◌, Bool, true, false, cond, not, ◌||◌, eqb, List, map, length, get_or, drop, sym, refl, ap, ◌∙◌, ⊎_elim, arith}
use lib.Bits.{bit_and, bit_or}
use Rattle.std.proofs.lemmas.Nat.{or_lt, pow_pos}
use Rattle.std.proofs.lemmas.List.{at_drop_more, length-take-le}
use Rattle.tables.specs.declared.table.Table.{Table}
use Rattle.tables.specs.Tables.{items}
use Rattle.std.proofs.lemmas.Bool.{cases_eq, eq-eqb, ne_eqb}
use Rattle.literals.specs.Bits.{bit}
use Rattle.literals.specs.Literals.{no_literals}
use Rattle.literals.specs.declared.LiteralSet.{LiteralSet}
use Rattle.literals.proofs.Bits.{bit_more, bit_beyond}
use Rattle.literals.proofs.Booleans.{or_false}
use Rattle.search.specs.declared.Assignment.{Assignment}
use Rattle.search.specs.Assignments.{decided, undecided}
use Rattle.rules.specs.Rules.{as_rule}
use Rattle.lanes.specs.Words.{next_rank, literals_word, met_word, all_met_word, with_bit}

-- one input of a rule, and one rule
pub met_more : (lanes i : ℕ) (s : LiteralSet) (ws : List ℕ) → i < length ws → met_word (bit_or lanes (literals_word s i (get_or ws i 0))) (i + 1) s (drop (i + 1) ws) ≡ met_word lanes i s (drop i ws)
met_more lanes i s ws lt =
    ap (λ k. met_word (bit_or lanes (literals_word s i (get_or ws i 0))) k s (drop (i + 1) ws)) {x = i + 1} {y = suc i} (omega arith)
    ∙ sym (at_drop_more (met_word lanes i s) ws i 0 lt)

pub all_met_more : (lanes i : ℕ) (bars : Bool) (ss : List LiteralSet) (ws : List ℕ) → i < length ss → all_met_word (bit_and lanes (met_word 0 0 (as_rule bars (get_or ss i no_literals)) ws)) (map (as_rule bars) (drop (i + 1) ss)) ws ≡ all_met_word lanes (map (as_rule bars) (drop i ss)) ws
all_met_more lanes i bars ss ws lt = sym (at_drop_more (λ ss. all_met_word lanes (map (as_rule bars) ss) ws) ss i no_literals lt)

-- one input more is counted
pub rank_more : (a : Assignment) (k : ℕ) → next_rank a k (undecided k a) ≡ undecided (k + 1) a
rank_more a k = go (decided a k) ∙ ap (λ n. undecided n a) {x = suc k} {y = k + 1} (omega arith) where
  go : (d : Bool) → cond d (undecided k a) (undecided k a + 1) ≡ cond (not d) 1 0 + undecided k a
  go true = omega arith
  go false = omega arith

pub rank_small : (a : Assignment) (k rank : ℕ) → next_rank a k rank ≤ rank + 1
rank_small a k rank = go (decided a k) where
  go : (d : Bool) → cond d rank (rank + 1) ≤ rank + 1
  go true = omega arith
  go false = omega arith

-- one bit of a mask more
pub bit_with : (m i k : ℕ) (b : Bool) → m < 2 ^ i → k < i + 1 → bit (with_bit m i b) k ≡ cond (eqb k i) b (bit m k)
bit_with m i k b small lt = ⊎_elim (λ e. here b e) (λ ne. there b ne) (cases_eq k i) where
  top : k ≡ i → bit m k ≡ false
  top e = bit_beyond m i k small (omega arith)

  here : (b : Bool) → k ≡ i → bit (with_bit m i b) k ≡ cond (eqb k i) b (bit m k)
  here true e = bit_more m i k ∙ ap (λ d. bit m k || d) (eq-eqb k i e) ∙ or_true (bit m k) ∙ sym (ap (λ d. cond d true (bit m k)) (eq-eqb k i e)) where
    or_true : (b : Bool) → (b || true) ≡ true
    or_true true = refl
    or_true false = refl
  here false e = top e ∙ sym (ap (λ d. cond d false (bit m k)) (eq-eqb k i e))

  there : (b : Bool) → (k ≡ i → ⊥) → bit (with_bit m i b) k ≡ cond (eqb k i) b (bit m k)
  there true ne = bit_more m i k ∙ ap (λ d. bit m k || d) (ne_eqb k i ne) ∙ or_false (bit m k) ∙ sym (ap (λ d. cond d true (bit m k)) (ne_eqb k i ne))
  there false ne = sym (ap (λ d. cond d false (bit m k)) (ne_eqb k i ne))

pub with_small : (m i : ℕ) (b : Bool) → m < 2 ^ i → with_bit m i b < 2 ^ (i + 1)
with_small m i true small = or_lt (i + 1) m (2 ^ i) (omega (arith, twice)) (omega (arith, twice, pow_pos i)) where
  twice : 2 ^ (i + 1) ≡ 2 ^ i + 2 ^ i
  twice = ap (λ n. 2 ^ n) {x = i + 1} {y = suc i} (omega arith) ∙ omega arith
with_small m i false small = omega (arith, ap (λ n. 2 ^ n) {x = i + 1} {y = suc i} (omega arith))

-- a table for the inputs has no more than 32 entries
pub few_items : (t : Table ℕ 32) → length (items t) ≤ 32
few_items t = omega (arith, length-take-le t.len t.slots t.within, t.within, t.whole)
