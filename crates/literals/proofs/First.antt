-- A loop that looks for the first place: the answer so far, by what is left of the list.
use Rattle.std.proofs.Common.{◌≡◌, ℕ, suc, ◌+◌, ◌<◌, ◌≤◌, List, [], ◌∷◌, length, get_or, drop, Some, None, Option, sym, refl, ap, ◌∙◌, arith}
use Rattle.std.specs.Option.{option_map}
use Rattle.std.proofs.lemmas.List.{at_drop_more, at_drop_all}

mapped_same : (f : ℕ → ℕ) (o : Option ℕ) → ((k : ℕ) → f k ≡ k) → option_map f o ≡ o
mapped_same f None h = refl
mapped_same f (Some k) h = ap Some (h k)

mapped_mapped : (f g h : ℕ → ℕ) (o : Option ℕ) → ((k : ℕ) → f (g k) ≡ h k) → option_map f (option_map g o) ≡ option_map h o
mapped_mapped f g h None e = refl
mapped_mapped f g h (Some k) e = ap Some (e k)

module _ {A : Type 0} (f : List A → Option ℕ) (xs : List A) where
  -- nothing was found below i
  abbrev pub From : ℕ → Type 0
  From i = f xs ≡ option_map (λ k. i + k) (f (drop i xs))

  pub from_none : From 0
  from_none = sym (mapped_same (λ k. 0 + k) (f xs) (λ k. omega arith))

  pub from_more : (i : ℕ) (d : A) → i < length xs → f (get_or xs i d ∷ drop (i + 1) xs) ≡ option_map suc (f (drop (i + 1) xs)) → From i → From (i + 1)
  from_more i d lt here at =
      at ∙ ap (option_map (λ k. i + k)) (at_drop_more f xs i d lt ∙ here) ∙ mapped_mapped (λ k. i + k) suc (λ k. i + 1 + k) (f (drop (i + 1) xs)) (λ k. omega arith)

  pub from_here : (i : ℕ) (d : A) → i < length xs → f (get_or xs i d ∷ drop (i + 1) xs) ≡ Some 0 → From i → Some i ≡ f xs
  from_here i d lt here at = sym (at ∙ ap (option_map (λ k. i + k)) (at_drop_more f xs i d lt ∙ here) ∙ ap Some (omega arith))

  pub from_all : (i : ℕ) → length xs ≤ i → f [] ≡ None → From i → None ≡ f xs
  from_all i le none at = sym (at ∙ ap (option_map (λ k. i + k)) (at_drop_all f xs i le ∙ none))
