-- The striking of records comes to the records of the struck terms.
use Rattle.std.proofs.Common.{◌≡◌, ℕ, Bool, true, false, cond, not, ◌&&◌, ◌||◌, List, [], ◌∷◌, ◌++◌, map, length, ℤ, Ok, sym, refl, ap, ◌∙◌, ap₂}
use Rattle.std.specs.List.{AllByRecursion as All}
use Rattle.std.proofs.ByRecursion.{All-push, All-weaker}
use Rattle.std.proofs.lemmas.List.{append_assoc, map-append}
use Rattle.std.proofs.lemmas.Bool.{both_ways}
use Rattle.literals.proofs.Booleans.{not_not}
use Rattle.settings.specs.Settings.{fits, covered}
use Rattle.settings.specs.Least.{some}
use Rattle.settings.specs.TermRecords.{sums, wanted}
use Rattle.laws.specs.Choices.{trim}
use Rattle.laws.specs.Laws.{Recorded}
use Rattle.laws.specs.Terms.{Outcome, made, shared, full, uncovered, covers_all, gather, struck, terms}
use Rattle.laws.proofs.Least.{some_alike}
use Rattle.laws.proofs.Terms.{covers_means, gather_covers, gather_recorded}
use Rattle.solver.specs.Meaning.{Meaning, stands}
use Rattle.striking.specs.Striking.{needed, unstruck}
use Rattle.terms.specs.Answers.{recorded, card_answer}
use Rattle.terms.specs.Steps.{then_struck, card_steps}
use Rattle.terms.proofs.Covered.{covered_with}

module _ (m : Meaning) where
  abbrev make : List Bool → Bool
  make = stands m

  abbrev Returns : List ℤ → Type 0
  Returns t = wanted m.contacts (sums m.contacts t) ≡ t

  all_return : (ts : List (List ℤ)) → All Returns ts → map (wanted m.contacts) (map (sums m.contacts) ts) ≡ ts
  all_return [] h = refl
  all_return (t ∷ ts) h = ap₂ (λ u us. u ∷ us) h.0 (all_return ts h.1)

  -- where all the terms cover every MAKE setting, a setting that the others miss is one that the term covers
  module _ (kept later : List (List ℤ)) (t : List ℤ) (complete : covers_all m.contacts make (kept ++ t ∷ later) ≡ true) where
    abbrev others : List (List ℤ)
    others = kept ++ later

    missed_alike : (x : List Bool) → length x ≡ m.contacts → (make x && (fits t x && not (covered others x))) ≡ uncovered make others x
    missed_alike x sized = go (make x) refl (fits t x) refl (covered others x) refl where
      go : (a : Bool) → make x ≡ a → (b : Bool) → fits t x ≡ b → (c : Bool) → covered others x ≡ c → (a && (b && not c)) ≡ (a && not c)
      go false ea b eb c ec = refl
      go true ea true eb c ec = refl
      go true ea false eb true ec = refl
      go true ea false eb false ec =
          absurd (both_ways (covered (kept ++ t ∷ later) x) (covered_with kept later t x ∙ ap₂ (λ b c. b || c) eb ec) (covers_means m.contacts make make (kept ++ t ∷ later) complete x sized ea))

    needed_tells : All Returns kept → wanted m.contacts (sums m.contacts t) ≡ t → All Returns later → needed m (sums m.contacts t) (map (sums m.contacts) kept ++ map (sums m.contacts) later) ≡ not (covers_all m.contacts make others)
    needed_tells k own l =
        let back : map (wanted m.contacts) (map (sums m.contacts) kept ++ map (sums m.contacts) later) ≡ others = map-append (wanted m.contacts) (map (sums m.contacts) kept) (map (sums m.contacts) later) ∙ ap₂ (λ xs ys. xs ++ ys) (all_return kept k) (all_return later l) in
        ap₂ (λ u us. some m.contacts (λ x. make x && (fits u x && not (covered us x)))) own back
        ∙ some_alike m.contacts (λ x. make x && (fits t x && not (covered others x))) (uncovered make others) missed_alike
        ∙ sym (not_not (some m.contacts (uncovered make others)))

  unstruck_records : (kept later : List (List ℤ)) → All Returns kept → All Returns later → covers_all m.contacts make (kept ++ later) ≡ true → unstruck m (map (sums m.contacts) kept) (map (sums m.contacts) later) ≡ map (sums m.contacts) (trim (covers_all m.contacts make) kept later)
  unfolding trim unstruck
  unstruck_records kept [] k l complete = refl
  unstruck_records kept (t ∷ later) k l complete =
      ap (λ b. cond b (unstruck m (map (sums m.contacts) kept ++ sums m.contacts t ∷ []) (map (sums m.contacts) later)) (unstruck m (map (sums m.contacts) kept) (map (sums m.contacts) later))) (needed_tells kept later t complete k l.0 l.1)
      ∙ go (covers_all m.contacts make (kept ++ later)) refl (unstruck_records kept later k l.1)
      (ap (λ us. unstruck m us (map (sums m.contacts) later)) (sym (map-append (sums m.contacts) kept (t ∷ [])))
      ∙ unstruck_records (kept ++ t ∷ []) later (All-push Returns kept t k l.0) l.1 (ap (covers_all m.contacts make) (append_assoc kept (t ∷ []) later) ∙ complete))
    where
      go : (b : Bool) → covers_all m.contacts make (kept ++ later) ≡ b → (covers_all m.contacts make (kept ++ later) ≡ true → unstruck m (map (sums m.contacts) kept) (map (sums m.contacts) later) ≡ map (sums m.contacts) (trim (covers_all m.contacts make) kept later)) → unstruck m (map (sums m.contacts) kept ++ sums m.contacts t ∷ []) (map (sums m.contacts) later) ≡ map (sums m.contacts) (trim (covers_all m.contacts make) (kept ++ t ∷ []) later) → cond (not b) (unstruck m (map (sums m.contacts) kept ++ sums m.contacts t ∷ []) (map (sums m.contacts) later)) (unstruck m (map (sums m.contacts) kept) (map (sums m.contacts) later)) ≡ map (sums m.contacts) (cond b (trim (covers_all m.contacts make) kept later) (trim (covers_all m.contacts make) (kept ++ t ∷ []) later))
      go true h without with_it = without h
      go false h without with_it = with_it

-- the steps as they are taken are the steps of the definition
pub steps_answer : (m b : Meaning) → card_steps m b ≡ card_answer m b
unfolding terms
steps_answer m b = go (gather m.contacts (stands m) (stands b) 64 []) refl where
  go : (o : Outcome) → gather m.contacts (stands m) (stands b) 64 [] ≡ o → then_struck m (recorded m.contacts o) ≡ recorded m.contacts (struck (covers_all m.contacts (stands m)) o)
  go (made ts) h =
      let n : ℕ = m.contacts in
      let back : All (Returns m) ts = All-weaker (Recorded n) (Returns m) (λ t r. r.wants_same) ts (gather_recorded n (stands m) (stands b) ts h) in
      ap Ok (unstruck_records m [] ts tt back (gather_covers n (stands m) (stands b) ts h))
  go (shared x) h = refl
  go full h = refl
