-- The laws of what LEAST and WHY write, from their definitions.
use Rattle.std.proofs.Common.{◌≡◌, ℕ, ◌≤◌, Bool, true, false, cond, ◌&&◌, ltb, leb, List, ◌++◌, length, take, drop, ℤ, Some, None, Err, Option, Result, sym, refl, ap, ◌∙◌, subst, arith}
use Rattle.std.specs.Option.{option_map, ok_or}
use Rattle.std.proofs.lemmas.List.{take_at, length-map}
use Rattle.std.proofs.lemmas.Bool.{and_parts, and_from, cond-true, le-leb, ltb-false}
use Rattle.faults.specs.declared.SheetFault.{SheetFault}
use Rattle.faults.specs.declared.SheetFault.TheVariants.{ShortBuffer, NoneAllowed, SomeAllowed}
use Rattle.settings.specs.Settings.{fits, literals}
use Rattle.settings.specs.Least.{least}
use Rattle.laws.specs.Choices.{chosen, why}
use Rattle.laws.specs.Laws.{Earliest, Reasoned}
use Rattle.laws.proofs.Least.{least_law}
use Rattle.laws.proofs.Literals.{length_literals}
use Rattle.laws.proofs.Trim.{length_chosen}
use Rattle.laws.proofs.Why.{why_reasoned}
use Rattle.solver.specs.Meaning.{stands, stands_with}
use Rattle.sheets.specs.Sheets.{SheetMeaning, held_literals}
use Rattle.sheets.specs.Answers.{over, least_answer, why_answer, told, counted, written, LeastLaw, WhyLaw}

-- what is written stands at the front
pub over_front : {A : Type 0} (ls out : List A) (n : ℕ) → length ls ≡ n → n ≤ length out → take n (over ls out) ≡ ls
over_front ls out n long room =
    ap (take n) (cond-true (leb (length ls) (length out)) (ls ++ drop (length ls) out) out (le-leb (length ls) (length out) (omega arith)))
    ∙ take_at ls (drop (length ls) out) n long

absurd_zero : ◌≡◌ {A = ℕ} 0 1 → ⊥
absurd_zero z = omega arith

module _ (p : SheetMeaning) (out : List ℤ) where
  abbrev held : List ℤ
  held = held_literals p.held

  abbrev short : Bool
  short = ltb (length out) p.meaning.contacts

  least_so : (b : Bool) → short ≡ b → (o : Option (List Bool)) → Earliest p.meaning.contacts (stands_with p.meaning held) o → LeastLaw p (written (cond b (Err ShortBuffer) (ok_or (option_map (literals 0) o) NoneAllowed)) out) (told (cond b (Err ShortBuffer) (ok_or (option_map (literals 0) o) NoneAllowed)))
  least_so true h o e =
      record { accepted = λ k. absurd (absurd_zero (cc)); none_allowed = λ k. absurd (absurd_zero (cc)) }
  least_so false h None e = record { accepted = λ k. absurd (absurd_zero (cc)); none_allowed = λ k y l a. sym (ap (λ b. b && fits held y) a) ∙ e y l }
  least_so false h (Some x) e =
      record {
        accepted = λ k.
            let both = and_parts (stands p.meaning x) (fits held x) e.passes in
            record {
              setting = x;
              literals_written = over_front (literals 0 x) out p.meaning.contacts (length_literals 0 x ∙ e.sized) (ltb-false (length out) p.meaning.contacts h);
              sized = e.sized;
              is_allowed = both.0;
              agrees_with_held = both.1;
              others_later = λ y l a f ne. e.others_later y l (and_from (stands p.meaning y) (fits held y) a f) ne;
            };
        none_allowed = λ k. absurd (absurd_zero (cc));
      }

  pub least_written : (after : List ℤ) (r : Result (Unit {0}) SheetFault) → after ≡ written (least_answer p (length out)) out → r ≡ told (least_answer p (length out)) → LeastLaw p after r
  least_written after r buffer answer =
      let law = least_so short refl (least p.meaning.contacts (stands_with p.meaning held)) (least_law p.meaning.contacts (stands_with p.meaning held)) in
      subst (λ t. LeastLaw p t r) (sym buffer) (subst (LeastLaw p (written (least_answer p (length out)) out)) (sym answer) law)

  abbrev few : Bool
  few = ltb (length out) (length p.held)

  why_so : (b : Bool) → few ≡ b → (o : Option (List Bool)) → Reasoned p.meaning.contacts (stands p.meaning) held o → WhyLaw p (written (cond b (Err ShortBuffer) (ok_or (option_map (λ c. chosen c held) o) SomeAllowed)) out) (counted (cond b (Err ShortBuffer) (ok_or (option_map (λ c. chosen c held) o) SomeAllowed)))
  why_so true h o e = record { accepted = λ size k. absurd (absurd_zero (cc)); some_allowed = λ k. absurd (absurd_zero (cc)) }
  why_so false h None e = record { accepted = λ size k. absurd (absurd_zero (cc)); some_allowed = λ k. e }
  why_so false h (Some c) e =
      record {
        accepted = λ size k.
            let told_size : size ≡ length (chosen c held) = cc in
            let all : length held ≡ length p.held = length-map p.held (λ h. h.literal) in
            let room = ltb-false (length out) (length p.held) h in
            record {
              choice = c;
              literals_written = over_front (chosen c held) out size (sym told_size) (omega (arith, length_chosen c held));
              size_told = told_size;
              sized = e.sized ∙ all;
              is_enough = e.is_enough;
              others_greater = λ d l. e.others_greater d (l ∙ sym all);
            };
        some_allowed = λ k. absurd (absurd_zero (cc));
      }

  pub why_written : (after : List ℤ) (r : Result ℕ SheetFault) → after ≡ written (why_answer p (length out)) out → r ≡ counted (why_answer p (length out)) → WhyLaw p after r
  why_written after r buffer answer =
      let law = why_so few refl (why p.meaning.contacts (stands p.meaning) held) (why_reasoned p.meaning.contacts (stands p.meaning) held) in
      subst (λ t. WhyLaw p t r) (sym buffer) (subst (WhyLaw p (written (why_answer p (length out)) out)) (sym answer) law)
