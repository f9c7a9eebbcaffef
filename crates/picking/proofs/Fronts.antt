-- What one turn of the search for the shared front keeps.
use Rattle.std.proofs.Common.{◌≡◌, ℕ, ◌+◌, ◌<◌, ◌≤◌, Bool, true, false, cond, List, [], ◌∷◌, ◌++◌, length, get_or, drop, ℤ, pos, sym, refl, ap, ◌∙◌, arith}
use Rattle.std.proofs.lemmas.List.{drop_more, drop_all, length-append}
use Rattle.solver.specs.Meaning.{Meaning}
use Rattle.queries.specs.Queries.{possible_with}
use Rattle.picking.specs.Picking.{shared_front}

pub record FrontSoFar (m : Meaning) (near : List ℤ) (k : ℕ) (front : List ℤ) : Type 0 where
  pub onward : shared_front m [] near ≡ shared_front m front (drop k near)
  pub few : length front ≤ k

pub front_none : (m : Meaning) (near : List ℤ) → FrontSoFar m near 0 []
front_none m near = record { onward = refl; few = omega arith }

module _ (m : Meaning) (near : List ℤ) (k : ℕ) (front : List ℤ) (lt : k < length near) (at : FrontSoFar m near k front) where
  abbrev literal : ℤ
  literal = get_or near k (pos 0)

  step : (b : Bool) → possible_with m (front ++ literal ∷ []) ≡ b → shared_front m [] near ≡ cond b (shared_front m (front ++ literal ∷ []) (drop (k + 1) near)) front
  unfolding shared_front
  step b h = at.onward ∙ ap (shared_front m front) (drop_more near k (pos 0) lt) ∙ ap (λ c. cond c (shared_front m (front ++ literal ∷ []) (drop (k + 1) near)) front) h

  pub front_more : (next : List ℤ) → possible_with m (front ++ literal ∷ []) ≡ true → next ≡ cond (possible_with m (front ++ literal ∷ [])) (front ++ literal ∷ []) front → FrontSoFar m near (k + 1) next
  front_more next h is =
      let longer : next ≡ front ++ literal ∷ [] = is ∙ ap (λ c. cond c (front ++ literal ∷ []) front) h in
      record {
        onward = step true h ∙ ap (λ f. shared_front m f (drop (k + 1) near)) (sym longer);
        few = omega (arith, ap length longer, length-append front (literal ∷ []), at.few);
      }

  pub front_stops : (next : List ℤ) → possible_with m (front ++ literal ∷ []) ≡ false → next ≡ cond (possible_with m (front ++ literal ∷ [])) (front ++ literal ∷ []) front → next ≡ shared_front m [] near
  front_stops next h is = is ∙ ap (λ c. cond c (front ++ literal ∷ []) front) h ∙ sym (step false h)

pub front_all : (m : Meaning) (near : List ℤ) (k : ℕ) (front : List ℤ) → length near ≤ k → FrontSoFar m near k front → front ≡ shared_front m [] near
unfolding shared_front
front_all m near k front le at = sym (at.onward ∙ ap (shared_front m front) (drop_all k near le))
