-- The first setting of a list that passes answers whether any setting of the base set does.
use Rattle.std.proofs.Common.{◌≡◌, ℕ, Bool, true, false, cond, ◌&&◌, ◌||◌, List, [], ◌∷◌, ℤ, Some, None, Option, sym, refl, ap, ◌∙◌}
use Rattle.std.proofs.lemmas.Bool.{and_parts, and_from, or_left, or_right, false≢true}
use Rattle.settings.specs.declared.Setting.{Setting}
use Rattle.settings.specs.Settings.{fits}
use Rattle.settings.specs.Readings.{reading, first_passing}
use Rattle.additions.specs.declared.Additions.{Additions}
use Rattle.additions.specs.Additions.{meaning_with, passes}
use Rattle.solver.specs.Meaning.{Answers, stands_with}
use Rattle.laws.proofs.Least.{none_from}
use Rattle.enumerated.specs.Enumerated.{same_setting, listed, passes_with}
use Rattle.literals.proofs.Booleans.{and_assoc}

same_refl : (x : List Bool) → same_setting x x ≡ true
same_refl [] = refl
same_refl (true ∷ x) = same_refl x
same_refl (false ∷ x) = same_refl x

same_is : (x y : List Bool) → same_setting x y ≡ true → x ≡ y
same_is [] [] h = refl
same_is [] (b ∷ y) h = absurd (false≢true h)
same_is (a ∷ x) [] h = absurd (false≢true h)
same_is (true ∷ x) (true ∷ y) h = ap (λ t. true ∷ t) (same_is x y h)
same_is (true ∷ x) (false ∷ y) h = absurd (false≢true h)
same_is (false ∷ x) (true ∷ y) h = absurd (false≢true h)
same_is (false ∷ x) (false ∷ y) h = ap (λ t. false ∷ t) (same_is x y h)

-- none passes: then no setting on the list does
none_listed : (n : ℕ) (p : List Bool → Bool) (ss : List Setting) → first_passing n p ss ≡ None → (y : List Bool) → (listed n ss y && p y) ≡ false
none_listed n p [] e y = refl
none_listed n p (s ∷ ss) e y = go (p (reading n s)) refl e (λ rest. none_listed n p ss rest y) where
  split : (c : Bool) → same_setting (reading n s) y ≡ c → p (reading n s) ≡ false → (listed n ss y && p y) ≡ false → ((c || listed n ss y) && p y) ≡ false
  split true q h rest = ap p (sym (same_is (reading n s) y q)) ∙ h
  split false q h rest = rest

  go : (b : Bool) → p (reading n s) ≡ b → cond b (Some s) (first_passing n p ss) ≡ None → (first_passing n p ss ≡ None → (listed n ss y && p y) ≡ false) → ((same_setting (reading n s) y || listed n ss y) && p y) ≡ false
  go true h e rest = absurd (let z : ◌≡◌ {A = Bool} false true = cc in false≢true z)
  go false h e rest = split (same_setting (reading n s) y) refl h (rest e)

-- one passes: it is on the list
found_listed : (n : ℕ) (p : List Bool → Bool) (ss : List Setting) (s : Setting) → first_passing n p ss ≡ Some s → (listed n ss (reading n s) && p (reading n s)) ≡ true
found_listed n p [] s e = absurd (let z : ◌≡◌ {A = Bool} false true = cc in false≢true z)
found_listed n p (t ∷ ss) s e = go (p (reading n t)) refl e (found_listed n p ss s) where
  go : (b : Bool) → p (reading n t) ≡ b → cond b (Some t) (first_passing n p ss) ≡ Some s → (first_passing n p ss ≡ Some s → (listed n ss (reading n s) && p (reading n s)) ≡ true) → ((same_setting (reading n t) (reading n s) || listed n ss (reading n s)) && p (reading n s)) ≡ true
  go true h e rest =
      let same : t ≡ s = cc in
      and_from _ _ (or_left _ _ (ap (λ u. same_setting (reading n t) (reading n u)) (sym same) ∙ same_refl (reading n t))) (ap (λ u. p (reading n u)) (sym same) ∙ h)
  go false h e rest =
      let r = and_parts (listed n ss (reading n s)) (p (reading n s)) (rest e) in
      and_from _ _ (or_right _ _ r.0) r.1

pub first_answers : (n : ℕ) (a : Additions) (ss : List Setting) (ls : List ℤ) (r : Option Setting) → r ≡ first_passing n (passes_with a ls) ss → Answers (meaning_with n (listed n ss) a) ls r
first_answers n a ss ls None e =
    none_from n (stands_with (meaning_with n (listed n ss) a) ls) (λ y l. and_assoc (listed n ss y) (passes a y) (fits ls y) ∙ none_listed n (passes_with a ls) ss (sym e) y)
first_answers n a ss ls (Some s) e = and_assoc (listed n ss (reading n s)) (passes a (reading n s)) (fits ls (reading n s)) ∙ found_listed n (passes_with a ls) ss s (sym e)
