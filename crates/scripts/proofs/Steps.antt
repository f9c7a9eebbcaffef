-- The literals of a rule, word by word.
use Rattle.std.proofs.Common.{◌≡◌, ℕ, List, [], ◌∷◌, ◌++◌, ℤ, Some, None, Option, sym, refl, ap, ◌∙◌, append_assoc}
use Rattle.std.specs.Option.{option_map}
use Rattle.scripts.specs.Grammar.{literal_of, literals_of, and_then}

pub one_more : (xs : List ℤ) (w : List ℕ) (ws : List (List ℕ)) (l : ℤ) → literal_of w ≡ Some l → option_map (λ ls. xs ++ ls) (literals_of (w ∷ ws)) ≡ option_map (λ ls. (xs ++ l ∷ []) ++ ls) (literals_of ws)
one_more xs w ws l e = ap (λ o. option_map (λ ls. xs ++ ls) (and_then o (λ k. option_map (λ ls. k ∷ ls) (literals_of ws)))) e ∙ go (literals_of ws)
  where
    go : (o : Option (List ℤ)) → option_map (λ ls. xs ++ ls) (option_map (λ ls. l ∷ ls) o) ≡ option_map (λ ls. (xs ++ l ∷ []) ++ ls) o
    go None = refl
    go (Some ls) = ap Some (sym (append_assoc xs (l ∷ []) ls))
