-- A first place by recursion over the list is what `position` finds.
use Rattle.std.proofs.Common.{◌≡◌, ℕ, suc, ◌+◌, Bool, true, false, cond, not, List, [], ◌∷◌, ℤ, length, Some, None, Option, nat_lt, sym, refl, ap, ◌∙◌, arith, rules}
use Rattle.std.proofs.lemmas.Grind.{common_steps}
use Rattle.std.specs.List.{position, position_or_len}
use Rattle.std.specs.Option.{option_map}
use Rattle.literals.specs.Literals.{names, first_unnamed}

shifted : (m n : ℕ) → cond (nat_lt (1 + m) (suc n)) (Some (1 + m)) None ≡ option_map suc (cond (nat_lt m n) (Some m) None)
shifted m n = grind (arith, common_steps)

module _ {A : Type 0} (p : A → Bool) (f : List A → Option ℕ) (none : f [] ≡ None) (more : (x : A) (xs : List A) → f (x ∷ xs) ≡ cond (p x) (Some 0) (option_map suc (f xs))) where
  pub position_by_recursion : (xs : List A) → position p xs ≡ f xs
  position_by_recursion [] = sym none
  position_by_recursion (x ∷ xs) = here (p x) refl (position_by_recursion xs) ∙ sym (more x xs)
    where
      here : (b : Bool) → p x ≡ b → position p xs ≡ f xs → position p (x ∷ xs) ≡ cond (p x) (Some 0) (option_map suc (f xs))
      here true e rest = grind (arith, e)
      here false e rest =
          let moved : position_or_len p (x ∷ xs) ≡ 1 + position_or_len p xs = grind (arith, e) in
          ap (λ k. cond (nat_lt k (suc (length xs))) (Some k) None) moved ∙ shifted (position_or_len p xs) (length xs) ∙ ap (option_map suc) rest ∙ sym (ap (λ b. cond b (Some 0) (option_map suc (f xs))) e)

-- what `position` finds is the first literal that names none of n variables
pub found_unnamed : (n : ℕ) (ls : List ℤ) (r : Option ℕ) → r ≡ position (λ l. not (names n l)) ls → r ≡ first_unnamed n ls
found_unnamed n ls r found = found ∙ position_by_recursion (λ l. not (names n l)) (first_unnamed n) refl (λ x xs. search rules) ls
