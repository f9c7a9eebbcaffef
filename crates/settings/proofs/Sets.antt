-- A set of literals, one literal more at a time.
use Rattle.std.proofs.Common.{◌≡◌, ℕ, zero, suc, ◌+◌, ◌<◌, ◌≤◌, Bool, true, false, cond, not, ◌&&◌, ◌||◌, eqb, List, [], ◌∷◌, length, get_or, ℤ, pos, negsuc, Some, None, fold, Option, sym, refl, ap, ◌∙◌, ap₂, arith}
use Rattle.std.specs.Option.{option_map}
use Rattle.std.proofs.lemmas.Bool.{eq-eqb, ne_eqb, lt-ltb, ltb-true, cond-true}
use Rattle.std.proofs.lemmas.Bool.Decides.{nat_tests}
use Rattle.literals.specs.declared.LiteralSet.{LiteralSet}
use Rattle.literals.specs.Literals.{names, first_unnamed, no_literals, inserted, with_literal, has}
use Rattle.literals.proofs.Bits.{bit_zero, bit_more}
use Rattle.literals.proofs.Booleans.{and_assoc, and_true, not_not, not_or, or_assoc, or_false}
use Rattle.settings.specs.Settings.{agrees, met, fits, literal, meets_from, covers_from, meets, covers, opposite}
use Rattle.settings.specs.Laws.{SetsLaw}

-- ---- lists whose literals all name a contact

step : (b : Bool) (o : Option ℕ) → cond b (option_map suc o) (Some 0) ≡ None → (b ≡ true) × (o ≡ None)
step true None e = (refl, refl)
step true (Some i) e = absurd (let z : ◌≡◌ {A = ℕ} 0 1 = cc in omega arith)
step false o e = absurd (let z : ◌≡◌ {A = ℕ} 0 1 = cc in omega arith)

pub named_parts : (n : ℕ) (l : ℤ) (ls : List ℤ) → first_unnamed n (l ∷ ls) ≡ None → (names n l ≡ true) × (first_unnamed n ls ≡ None)
named_parts n l ls h = step (names n l) (first_unnamed n ls) h

pub names_more : (n m : ℕ) (l : ℤ) → n ≤ m → names n l ≡ true → names m l ≡ true
names_more n m (pos zero) le h = h
names_more n m (pos (suc k)) le h = lt-ltb k m (omega (arith, ltb-true k n h))
names_more n m (negsuc k) le h = lt-ltb k m (omega (arith, ltb-true k n h))

-- ---- one literal more

-- two Bools are the same
unfoldable pub same : Bool → Bool → Bool
same true b = b
same false b = not b

pub has_literal : (s : LiteralSet) (i : ℕ) (b : Bool) (k : ℕ) (c : Bool) → has (inserted s (literal i b)) k c ≡ (has s k c || (eqb k i && same b c))
unfolding same
has_literal s i true k true = bit_more s.closed i k ∙ grind (arith, nat_tests)
has_literal s i true k false = grind (arith, nat_tests)
has_literal s i false k true = grind (arith, nat_tests)
has_literal s i false k false = bit_more s.opened i k ∙ grind (arith, nat_tests)

-- the contact of index i, among those from index j on, stands as b wants
stands_as : ℕ → ℕ → Bool → List Bool → Bool
stands_as j i b [] = false
stands_as j i b (c ∷ x) = (eqb j i && same b c) || stands_as (suc j) i b x

regroup : (h e r w : Bool) → ((h || e) || (r || w)) ≡ ((h || r) || (e || w))
regroup h e r w = grind (arith, nat_tests)

meets_inserted : (j : ℕ) (s : LiteralSet) (i : ℕ) (b : Bool) (x : List Bool) → meets_from j (inserted s (literal i b)) x ≡ (meets_from j s x || stands_as j i b x)
unfolding stands_as
meets_inserted j s i b [] = refl
meets_inserted j s i b (c ∷ x) =
    ap₂ (λ p q. p || q) (has_literal s i b j c) (meets_inserted (suc j) s i b x)
    ∙ regroup (has s j c) (eqb j i && same b c) (meets_from (suc j) s x) (stands_as (suc j) i b x)

gone : (j i : ℕ) (b : Bool) (x : List Bool) → i < j → stands_as j i b x ≡ false
unfolding stands_as
gone j i b [] lt = refl
gone j i b (c ∷ x) lt = ap₂ (λ p q. (p && same b c) || q) (ne_eqb j i (omega arith)) (gone (suc j) i b x (omega arith))

stands_at : (j m : ℕ) (b : Bool) (x : List Bool) → m < length x → stands_as j (j + m) b x ≡ same b (get_or x m false)
unfolding stands_as
stands_at j m b [] lt = absurd (omega arith)
stands_at j zero b (c ∷ x) lt =
    ap₂ (λ p q. (p && same b c) || q) (eq-eqb j (j + 0) (omega arith)) (gone (suc j) (j + 0) b x (omega arith)) ∙ or_false (same b c)
stands_at j (suc m) b (c ∷ x) lt =
    let move : j + suc m ≡ suc j + m = omega arith in
    ap (λ p. (p && same b c) || stands_as (suc j) (j + suc m) b x) (ne_eqb j (j + suc m) (omega arith))
    ∙ ap (λ i. stands_as (suc j) i b x) move ∙ stands_at (suc j) m b x (omega arith)

agrees_literal : (x : List Bool) (i : ℕ) (b : Bool) → agrees x (literal i b) ≡ same b (get_or x i false)
unfolding same
agrees_literal x i true = refl
agrees_literal x i false = refl

meets_one : (s : LiteralSet) (i : ℕ) (b : Bool) (x : List Bool) → i < length x → meets (inserted s (literal i b)) x ≡ (meets s x || agrees x (literal i b))
meets_one s i b x lt =
    meets_inserted 0 s i b x
    ∙ ap (λ p. meets s x || p) (ap (λ k. stands_as 0 k b x) {x = i} {y = 0 + i} (omega arith) ∙ stands_at 0 i b x lt ∙ sym (agrees_literal x i b))

pub meets_more : (s : LiteralSet) (l : ℤ) (x : List Bool) → names (length x) l ≡ true → meets (inserted s l) x ≡ (meets s x || agrees x l)
meets_more s (pos zero) x h = absurd (let z : ◌≡◌ {A = ℕ} 0 1 = cc in omega arith)
meets_more s (pos (suc k)) x h = meets_one s k true x (ltb-true k (length x) h)
meets_more s (negsuc k) x h = meets_one s k false x (ltb-true k (length x) h)

-- ---- a bar as the rule of the opposite literals

has_opposite : (s : LiteralSet) (k : ℕ) (b : Bool) → has (opposite s) k b ≡ has s k (not b)
has_opposite s k true = refl
has_opposite s k false = refl

covers_opposite : (j : ℕ) (s : LiteralSet) (x : List Bool) → covers_from j s x ≡ not (meets_from j (opposite s) x)
covers_opposite j s [] = refl
covers_opposite j s (b ∷ x) =
    ap₂ (λ p q. not p && q) (sym (has_opposite s j b)) (covers_opposite (suc j) s x)
    ∙ sym (not_or (has (opposite s) j b) (meets_from (suc j) (opposite s) x))

-- a setting is covered by no bar exactly where it meets the rule of the bar's opposite literals
pub bar_is_rule : (s : LiteralSet) (x : List Bool) → covers s x ≡ not (meets (opposite s) x)
bar_is_rule s x = covers_opposite 0 s x

covers_one : (s : LiteralSet) (i : ℕ) (b : Bool) (x : List Bool) → i < length x → covers (inserted s (literal i b)) x ≡ (covers s x && agrees x (literal i b))
covers_one s i true x lt =
    bar_is_rule (inserted s (literal i true)) x ∙ ap not (meets_one (opposite s) i false x lt) ∙ not_or (meets (opposite s) x) (not (get_or x i false))
    ∙ ap₂ (λ p q. p && q) (sym (bar_is_rule s x)) (not_not (get_or x i false))
covers_one s i false x lt =
    bar_is_rule (inserted s (literal i false)) x ∙ ap not (meets_one (opposite s) i true x lt) ∙ not_or (meets (opposite s) x) (get_or x i false)
    ∙ ap (λ p. p && not (get_or x i false)) (sym (bar_is_rule s x))

pub covers_more : (s : LiteralSet) (l : ℤ) (x : List Bool) → names (length x) l ≡ true → covers (inserted s l) x ≡ (covers s x && agrees x l)
covers_more s (pos zero) x h = absurd (let z : ◌≡◌ {A = ℕ} 0 1 = cc in omega arith)
covers_more s (pos (suc k)) x h = covers_one s k true x (ltb-true k (length x) h)
covers_more s (negsuc k) x h = covers_one s k false x (ltb-true k (length x) h)

-- ---- all the literals of a list

module _ (x : List Bool) (short : length x ≤ 64) where
  with_named : (s : LiteralSet) (l : ℤ) → names (length x) l ≡ true → with_literal s l ≡ inserted s l
  with_named s l h = cond-true (names 64 l) (inserted s l) s (names_more (length x) 64 l short h)

  meets_all : (s : LiteralSet) (ls : List ℤ) → first_unnamed (length x) ls ≡ None → meets (fold with_literal s ls) x ≡ (meets s x || met ls x)
  meets_all s [] h = sym (or_false (meets s x))
  meets_all s (l ∷ ls) h =
      let named = named_parts (length x) l ls h in
      meets_all (with_literal s l) ls named.1
      ∙ ap (λ p. p || met ls x) (ap (λ t. meets t x) (with_named s l named.0) ∙ meets_more s l x named.0)
      ∙ or_assoc (meets s x) (agrees x l) (met ls x)

  covers_all : (s : LiteralSet) (ls : List ℤ) → first_unnamed (length x) ls ≡ None → covers (fold with_literal s ls) x ≡ (covers s x && fits ls x)
  covers_all s [] h = sym (and_true (covers s x))
  covers_all s (l ∷ ls) h =
      let named = named_parts (length x) l ls h in
      covers_all (with_literal s l) ls named.1
      ∙ ap (λ p. p && fits ls x) (ap (λ t. covers t x) (with_named s l named.0) ∙ covers_more s l x named.0)
      ∙ and_assoc (covers s x) (agrees x l) (fits ls x)

has_none : (k : ℕ) (b : Bool) → has no_literals k b ≡ false
has_none k true = bit_zero k
has_none k false = bit_zero k

meets_none : (j : ℕ) (x : List Bool) → meets_from j no_literals x ≡ false
meets_none j [] = refl
meets_none j (b ∷ x) = ap₂ (λ p q. p || q) (has_none j b) (meets_none (suc j) x)

covers_none : (j : ℕ) (x : List Bool) → covers_from j no_literals x ≡ true
covers_none j [] = refl
covers_none j (b ∷ x) = ap₂ (λ p q. not p && q) (has_none j (not b)) (covers_none (suc j) x)

pub sets_law : SetsLaw
sets_law ls x short named = record {
  rule = meets_all x short no_literals ls named ∙ ap (λ p. p || met ls x) (meets_none 0 x);
  bar = covers_all x short no_literals ls named ∙ ap (λ p. p && fits ls x) (covers_none 0 x);
}
