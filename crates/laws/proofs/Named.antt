-- Lists of literals each of which names one of n contacts.
use Rattle.std.proofs.Common.{◌≡◌, ℕ, zero, suc, ◌+◌, ◌<◌, ◌≤◌, Bool, true, false, cond, ◌&&◌, List, [], ◌∷◌, ◌++◌, map, length, drop, ℤ, Some, None, refl, ap, ◌∙◌, ap₂, arith}
use Rattle.std.specs.List.{remove, AllByRecursion as All}
use Rattle.std.specs.Option.{option_map}
use Rattle.std.proofs.lemmas.Bool.{lt-ltb}
use Rattle.literals.specs.Literals.{names, first_unnamed, set_of}
use Rattle.settings.specs.Settings.{literal, literals, all_met}
use Rattle.settings.proofs.Sets.{named_parts as parts, sets_law}
use Rattle.laws.specs.Texts.{every_met}

module _ (n : ℕ) where
  abbrev pub Named : List ℤ → Type 0
  Named ls = first_unnamed n ls ≡ None

  pub named_parts : (l : ℤ) (ls : List ℤ) → Named (l ∷ ls) → (names n l ≡ true) × Named ls
  named_parts = parts n

  pub named_cons : (l : ℤ) (ls : List ℤ) → names n l ≡ true → Named ls → Named (l ∷ ls)
  named_cons l ls h t = ap (λ v. cond v (option_map suc (first_unnamed n ls)) (Some 0)) h ∙ ap (option_map suc) t

  pub named_append : (a b : List ℤ) → Named a → Named b → Named (a ++ b)
  named_append [] b ha hb = hb
  named_append (l ∷ a) b ha hb = let s = named_parts l a ha in named_cons l (a ++ b) s.0 (named_append a b s.1 hb)

  pub named_drop : (k : ℕ) (ls : List ℤ) → Named ls → Named (drop k ls)
  named_drop zero ls h = h
  named_drop (suc k) [] h = refl
  named_drop (suc k) (l ∷ ls) h = named_drop k ls (named_parts l ls h).1

  pub named_removed : (ls : List ℤ) (i : ℕ) → Named ls → Named (remove ls i)
  named_removed [] zero h = refl
  named_removed [] (suc i) h = refl
  named_removed (l ∷ ls) zero h = (named_parts l ls h).1
  named_removed (l ∷ ls) (suc i) h = let s = named_parts l ls h in named_cons l (remove ls i) s.0 (named_removed ls i s.1)

  pub names_literal : (k : ℕ) (b : Bool) → k < n → names n (literal k b) ≡ true
  names_literal k true h = lt-ltb k n h
  names_literal k false h = lt-ltb k n h

  pub named_literals : (j : ℕ) (x : List Bool) → j + length x ≤ n → Named (literals j x)
  named_literals j [] h = refl
  named_literals j (b ∷ x) h = named_cons (literal j b) (literals (suc j) x) (names_literal j b (omega arith)) (named_literals (suc j) x (omega arith))

-- a setting meets the sets of rules' literals where it meets the rules
pub sets_met : (rules : List (List ℤ)) (x : List Bool) → length x ≤ 64 → All (Named (length x)) rules → all_met (map set_of rules) x ≡ every_met rules x
sets_met [] x short named = refl
sets_met (r ∷ rules) x short named = ap₂ (λ a b. a && b) (sets_law r x short named.0).rule (sets_met rules x short named.1)
