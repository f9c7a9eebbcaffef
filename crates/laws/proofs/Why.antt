-- The law of WHY.
use Rattle.std.proofs.Common.{◌≡◌, ℕ, Bool, true, false, not, ◌&&◌, List, [], ◌∷◌, ◌++◌, length, ℤ, Some, None, sym, refl, ap, ◌∙◌, subst}
use Rattle.std.specs.Option.{option_map}
use Rattle.std.proofs.lemmas.Bool.{both_ways, and_right}
use Rattle.settings.specs.Settings.{agrees, fits}
use Rattle.laws.specs.Choices.{chosen, enough, why, greedy, trim}
use Rattle.laws.specs.Laws.{Alike, Enough, NotEnough, Reason, Reasoned, WhyLaw, WhyAlike}
use Rattle.laws.proofs.Least.{none_when, least_alike, some_alike, least_is, less_fails, neither, neither_from, both_at}
use Rattle.laws.proofs.Trim.{Grows, grow_all, greedy_least, trim_chosen, one_less, part_less}

-- a setting that does not agree with all of some literals does not agree with all of more
fits_more : (front back : List ℤ) (l : ℤ) (x : List Bool) → fits (front ++ back) x ≡ false → fits (front ++ l ∷ back) x ≡ false
fits_more [] back l x h = and_right (agrees x l) (fits back x) h
fits_more (f ∷ front) back l x h = go (agrees x f) h (fits_more front back l x) where
  go : (b : Bool) → (b && fits (front ++ back) x) ≡ false → (fits (front ++ back) x ≡ false → fits (front ++ l ∷ back) x ≡ false) → (b && fits (front ++ l ∷ back) x) ≡ false
  go true h i = i h
  go false h i = refl

module _ (n : ℕ) (allowed : List Bool → Bool) where
  pub enough_means : (ls : List ℤ) → enough n allowed ls ≡ true → Enough n allowed ls
  enough_means ls = neither n allowed (fits ls)

  pub enough_from : (ls : List ℤ) → Enough n allowed ls → enough n allowed ls ≡ true
  enough_from ls = neither_from n allowed (fits ls)

  pub not_enough_means : (ls : List ℤ) → enough n allowed ls ≡ false → NotEnough n allowed ls
  not_enough_means ls h =
      let w = both_at n allowed (fits ls) h in record { setting = w.0; sized = w.1; is_allowed = w.2; agrees_with_all = w.3 }

  pub enough_grows : Grows (enough n allowed)
  enough_grows front back l h =
      enough_from (front ++ l ∷ back) (λ x s a. fits_more front back l x (enough_means (front ++ back) h x s a))

  -- where all the held literals are enough, the process gives the answer
  pub why_greedy : (held : List ℤ) → enough n allowed held ≡ true → why n allowed held ≡ Some (greedy (enough n allowed) [] held)
  why_greedy held h = greedy_least (enough n allowed) enough_grows [] held h

  pub why_trim : (held : List ℤ) → enough n allowed held ≡ true → option_map (λ c. chosen c held) (why n allowed held) ≡ Some (trim (enough n allowed) [] held)
  why_trim held h = ap (option_map (λ c. chosen c held)) (why_greedy held h) ∙ ap Some (sym (trim_chosen (enough n allowed) [] held))

  pub why_none : (held : List ℤ) → enough n allowed held ≡ false → why n allowed held ≡ None
  why_none held h = none_when (length held) (λ c. enough n allowed (chosen c held)) (λ c s. go c (enough n allowed (chosen c held)) refl) where
    go : (c : List Bool) (b : Bool) → enough n allowed (chosen c held) ≡ b → enough n allowed (chosen c held) ≡ false
    go c false q = q
    go c true q = absurd (both_ways (enough n allowed held) h (grow_all (enough n allowed) enough_grows [] held c q))

  why_reason : (held : List ℤ) (c : List Bool) → c ≡ greedy (enough n allowed) [] held → why n allowed held ≡ Some c → Reason n allowed held c
  why_reason held c p e =
      let test : List Bool → Bool = λ c. enough n allowed (chosen c held) in
      let k = least_is (length held) test c e in
      record {
        sized = k.sized;
        is_enough = enough_means (chosen c held) k.passes;
        others_greater = λ d s h ne. k.others_later d s (enough_from (chosen d held) h) ne;
        no_part_enough = λ d h ne. let r = part_less d c h in not_enough_means (chosen d held) (less_fails (length held) test c e d (r.0 ∙ k.sized) (r.1 ne));
        no_literal_less = λ front back l h.
            let r = one_less c held front back l h in
            subst (NotEnough n allowed) r.2 (not_enough_means (chosen r.0 held) (less_fails (length held) test c e r.0 (r.1 ∙ k.sized) r.3));
        first_to_last = p;
      }

  pub why_reasoned : (held : List ℤ) → Reasoned n allowed held (why n allowed held)
  why_reasoned held = go (enough n allowed held) refl where
    go : (b : Bool) → enough n allowed held ≡ b → Reasoned n allowed held (why n allowed held)
    go true h = rw (why_greedy held h) (why_reason held (greedy (enough n allowed) [] held) refl (why_greedy held h))
    go false h = rw (why_none held h) (not_enough_means held h)

pub why_law : WhyLaw
why_law n allowed held = why_reasoned n allowed held

-- sheets that allow alike give one answer
enough_alike : (n : ℕ) (p q : List Bool → Bool) → Alike n p q → (ls : List ℤ) → enough n p ls ≡ enough n q ls
enough_alike n p q h ls = ap not (some_alike n (λ x. p x && fits ls x) (λ x. q x && fits ls x) (λ x l. ap (λ b. b && fits ls x) (h x l)))

pub why_alike : WhyAlike
why_alike n p q h held = least_alike (length held) (λ c. enough n p (chosen c held)) (λ c. enough n q (chosen c held)) (λ c l. enough_alike n p q h (chosen c held))
