-- What terms cover and leave uncovered.
use Rattle.std.proofs.Common.{◌≡◌, Bool, true, false, not, ◌||◌, List, [], ◌∷◌, ◌++◌, ℤ, sym, refl, ap, ◌∙◌}
use Rattle.std.proofs.lemmas.List.{append-nil}
use Rattle.std.proofs.lemmas.Bool.{and_parts, and_from, not-true, false≢true}
use Rattle.settings.specs.Settings.{fits, covered}
use Rattle.laws.specs.Terms.{uncovered}

-- one term more covers what it covers itself besides
pub covered_with : (front back : List (List ℤ)) (t : List ℤ) (x : List Bool) → covered (front ++ t ∷ back) x ≡ (fits t x || covered (front ++ back) x)
covered_with [] back t x = refl
covered_with (f ∷ front) back t x = ap (λ b. fits f x || b) (covered_with front back t x) ∙ swap (fits f x) (fits t x) where
  swap : (a b : Bool) → (a || (b || covered (front ++ back) x)) ≡ (b || (a || covered (front ++ back) x))
  swap true true = refl
  swap true false = refl
  swap false b = refl

-- what one term more leaves uncovered was uncovered before
pub uncovered_less : (make : List Bool → Bool) (ts : List (List ℤ)) (t : List ℤ) (x : List Bool) → uncovered make (ts ++ t ∷ []) x ≡ true → uncovered make ts x ≡ true
uncovered_less make ts t x h =
    let parts = and_parts (make x) (not (covered (ts ++ t ∷ []) x)) h in
    let missed : (fits t x || covered (ts ++ []) x) ≡ false = sym (covered_with ts [] t x) ∙ not-true (covered (ts ++ t ∷ []) x) parts.1 in
    and_from (make x) (not (covered ts x)) parts.0 (ap not (ap (λ us. covered us x) (sym (append-nil ts)) ∙ second (fits t x) (covered (ts ++ []) x) missed))
  where
    second : (a b : Bool) → (a || b) ≡ false → b ≡ false
    second false b h = h
    second true b h = absurd (false≢true (sym h))
