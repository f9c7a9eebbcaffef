-- Rules and bars as a scan over literals, or over contacts, finds them.
use Rattle.std.proofs.Common.{◌≡◌, ℕ, zero, suc, ◌+◌, Bool, not, ◌&&◌, ◌||◌, List, [], ◌∷◌, ℤ, map, refl, ap, ◌∙◌, add-one}
use Rattle.std.specs.List.{list_any, list_all, range_with_len}
use Rattle.literals.specs.declared.LiteralSet.{LiteralSet}
use Rattle.literals.specs.Literals.{has}
use Rattle.settings.specs.Settings.{agrees, met, fits, meets_from, covers_from}

pub met_by_any : (x : List Bool) (ls : List ℤ) → list_any (agrees x) ls ≡ met ls x
met_by_any x [] = refl
met_by_any x (l ∷ ls) = ap (λ b. agrees x l || b) (met_by_any x ls)

pub fits_by_all : (x : List Bool) (ls : List ℤ) → list_all (agrees x) ls ≡ fits ls x
fits_by_all x [] = refl
fits_by_all x (l ∷ ls) = ap (λ b. agrees x l && b) (fits_by_all x ls)

module _ (f : ℕ → Bool) (s : LiteralSet) where
  pub meets_by_any : (j n : ℕ) → list_any (λ k. has s k (f k)) (range_with_len j n) ≡ meets_from j s (map f (range_with_len j n))
  meets_by_any j zero = refl
  meets_by_any j (suc n) = ap (λ b. has s j (f j) || b) (meets_by_any (j + 1) n ∙ ap (λ k. meets_from k s (map f (range_with_len (j + 1) n))) (add-one j))

  pub covers_by_all : (j n : ℕ) → list_all (λ k. not (has s k (not (f k)))) (range_with_len j n) ≡ covers_from j s (map f (range_with_len j n))
  covers_by_all j zero = refl
  covers_by_all j (suc n) = ap (λ b. not (has s j (not (f j))) && b) (covers_by_all (j + 1) n ∙ ap (λ k. covers_from k s (map f (range_with_len (j + 1) n))) (add-one j))
