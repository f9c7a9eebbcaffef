-- The place that `position` finds is the first one that passes.
use Rattle.std.proofs.Common.{◌≡◌, ℕ, suc, ◌+◌, Bool, true, false, cond, not, ltb, List, [], ◌∷◌, length, Some, None, refl, ap, ◌∙◌, arith}
use Rattle.std.specs.List.{position_or_len}
use Rattle.std.specs.Option.{option_map}
use Rattle.sheets.specs.Sheets.{first_place}

-- the places behind one entry more
one_behind : (k n : ℕ) → cond (ltb (1 + k) (suc n)) (Some (1 + k)) None ≡ option_map suc (cond (ltb k n) (Some k) None)
one_behind k n = grind arith

pub place_found : {A : Type 0} (test : A → Bool) (xs : List A) → cond (ltb (position_or_len test xs) (length xs)) (Some (position_or_len test xs)) None ≡ first_place test xs
place_found test [] = refl
place_found test (x ∷ xs) = go (test x) (place_found test xs) where
  k : ℕ
  k = position_or_len test xs

  go : (b : Bool) → cond (ltb k (length xs)) (Some k) None ≡ first_place test xs → cond (ltb (cond (not b) (1 + k) 0) (suc (length xs))) (Some (cond (not b) (1 + k) 0)) None ≡ cond b (Some 0) (option_map suc (first_place test xs))
  go true rest = grind arith
  go false rest = one_behind k (length xs) ∙ ap (option_map suc) rest
