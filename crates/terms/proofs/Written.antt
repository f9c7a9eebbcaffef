-- The laws of what TERMS writes, from its definition.
use Rattle.std.proofs.Common.{◌≡◌, ℕ, ◌≤◌, Bool, true, false, cond, eqb, ltb, List, [], map, length, Err, Result, sym, refl, ap, ◌∙◌, subst, arith}
use Rattle.std.proofs.lemmas.List.{length-map}
use Rattle.std.proofs.lemmas.Bool.{ltb-false}
use Rattle.faults.specs.declared.SheetFault.{SheetFault}
use Rattle.faults.specs.declared.SheetFault.TheVariants.{ShortBuffer, OtherContacts}
use Rattle.settings.specs.declared.Term.{Term}
use Rattle.settings.specs.TermRecords.{sums}
use Rattle.laws.specs.Laws.{Settled}
use Rattle.laws.specs.Terms.{Outcome, made, shared, full, terms}
use Rattle.laws.proofs.Terms.{terms_law}
use Rattle.solver.specs.Meaning.{Meaning, stands}
use Rattle.sheets.specs.Sheets.{SheetMeaning}
use Rattle.sheets.specs.Answers.{counted, written}
use Rattle.sheets.proofs.Written.{over_front}
use Rattle.striking.proofs.Bars.{no_bars}
use Rattle.terms.specs.Answers.{recorded, terms_answer, TermsLaw}
use Rattle.terms.specs.Steps.{card_steps, terms_steps}
use Rattle.terms.proofs.Struck.{steps_answer}

absurd_zero : ◌≡◌ {A = ℕ} 0 1 → ⊥
absurd_zero z = omega arith

module _ (p q : SheetMeaning) (out : List Term) where
  abbrev n : ℕ
  n = p.meaning.contacts

  -- the answer by its two questions and the outcome of the steps
  abbrev by : Bool → Bool → Outcome → Result (List Term) SheetFault
  by same short o = cond same (cond short (Err ShortBuffer) (recorded n o)) (Err OtherContacts)

  law_so : (same short : Bool) → ltb (length out) 64 ≡ short → (o : Outcome) → Settled n (stands p.meaning) (stands q.meaning) o → TermsLaw p q (written (by same short o) out) (counted (by same short o))
  law_so false short h o s =
      record { accepted = λ count k. absurd (absurd_zero (cc)); both_allow = λ place k. absurd (absurd_zero (cc)); too_many = λ k. absurd (absurd_zero (cc)) }
  law_so true true h o s =
      record { accepted = λ count k. absurd (absurd_zero (cc)); both_allow = λ place k. absurd (absurd_zero (cc)); too_many = λ k. absurd (absurd_zero (cc)) }
  law_so true false h (made ts) s =
      record {
        accepted = λ count k.
            let told : count ≡ length (map (sums n) ts) = cc in
            let long : length (map (sums n) ts) ≡ length ts = length-map ts (sums n) in
            let room : 64 ≤ length out = ltb-false (length out) 64 h in
            record {
              terms = ts;
              records_written = over_front (map (sums n) ts) out count (sym told) (omega (arith, s.at_most_64));
              count_told = told ∙ long;
              card = s;
            };
        both_allow = λ place k. absurd (absurd_zero (cc));
        too_many = λ k. absurd (absurd_zero (cc));
      }
  law_so true false h (shared x) s =
      record {
        accepted = λ count k. absurd (absurd_zero (cc));
        both_allow = λ place k. record { setting = x; numbered = cc; shared = s };
        too_many = λ k. absurd (absurd_zero (cc));
      }
  law_so true false h full s =
      record { accepted = λ count k. absurd (absurd_zero (cc)); both_allow = λ place k. absurd (absurd_zero (cc)); too_many = λ k. s }

  pub terms_written : (after : List Term) (r : Result ℕ SheetFault) → after ≡ written (terms_answer p q (length out)) out → r ≡ counted (terms_answer p q (length out)) → TermsLaw p q after r
  terms_written after r buffer answer =
      let law = law_so (eqb n q.meaning.contacts) (ltb (length out) 64) refl (terms n (stands p.meaning) (stands q.meaning)) (terms_law n (stands p.meaning) (stands q.meaning)) in
      subst (λ t. TermsLaw p q t r) (sym buffer) (subst (TermsLaw p q (written (terms_answer p q (length out)) out)) (sym answer) law)

  -- MAKE holds no bar, so the steps as they are taken are those of the answer
  pub steps_told : p.meaning.bars ≡ [] → terms_steps p.meaning q.meaning (length out) ≡ terms_answer p q (length out)
  steps_told none =
      let m : Meaning = p.meaning in
      ap (λ a. cond (eqb n q.meaning.contacts) (cond (ltb (length out) 64) (Err ShortBuffer) a) (Err OtherContacts)) (ap (λ u. card_steps u q.meaning) (no_bars m none) ∙ steps_answer m q.meaning)
