-- What stands when terms are barred: the settings that none of them covers.
use Rattle.std.proofs.Common.{◌≡◌, ℕ, ◌+◌, ◌<◌, ◌≤◌, min, Bool, true, not, ◌&&◌, ◌||◌, ltb, List, [], ◌∷◌, ◌++◌, map, length, Some, None, sym, refl, ap, ◌∙◌, subst, ap₂, arith}
use Rattle.std.proofs.lemmas.List.{append_assoc, append-nil, length-append}
use Rattle.std.proofs.lemmas.Bool.{lt-ltb, cond-true}
use Rattle.std.proofs.lemmas.Bool.Decides.{nat_tests}
use Rattle.faults.specs.declared.SolverFault.TheVariants.{TooManyBars}
use Rattle.literals.specs.declared.LiteralSet.{LiteralSet}
use Rattle.literals.specs.Literals.{first_unnamed, set_of}
use Rattle.settings.specs.declared.Term.{Term}
use Rattle.settings.specs.Settings.{fits, covered, all_met, any_covers}
use Rattle.settings.specs.Least.{least, some}
use Rattle.settings.specs.TermRecords.{wanted}
use Rattle.settings.proofs.Sets.{sets_law}
use Rattle.settings.proofs.Wanted.{wanted_named}
use Rattle.laws.specs.Terms.{uncovered, pick}
use Rattle.laws.proofs.Least.{least_alike, some_alike}
use Rattle.queries.proofs.Answers.{fault_none}
use Rattle.solver.specs.Meaning.{Meaning, stands, stands_with, full_fault, bar_fault, appended, with_bar, without_bars}
use Rattle.striking.specs.Striking.{with_term, with_terms, covers_some, needed}

-- a meaning with these bars in place of its own
abbrev barred : Meaning → List LiteralSet → Meaning
barred m bs = record { contacts = m.contacts; base = m.base; added = m.added; bars = bs }

pub no_bars : (m : Meaning) → m.bars ≡ [] → without_bars m ≡ m
no_bars m none = ap (barred m) (sym none)

abbrev bar_of : ℕ → Term → LiteralSet
bar_of n t = set_of (wanted n t)

at_most : (n : ℕ) → n ≤ 32 → min n 32 ≡ n
at_most n le = omega arith

barred_one : (m : Meaning) (t : Term) → m.contacts ≤ 32 → length m.bars < 64 → with_term m t ≡ barred m (m.bars ++ bar_of m.contacts t ∷ [])
barred_one m t few lt =
    let n : ℕ = m.contacts in
    let free : bar_fault m (wanted n t) ≡ None = ap (λ o. full_fault o m.bars TooManyBars) (fault_none m (wanted n t) (wanted_named n t)) ∙ cond-true (ltb (length m.bars) 64) None (Some TooManyBars) (lt-ltb (length m.bars) 64 lt) in
    ap (λ k. with_bar m (wanted k t)) (at_most n few) ∙ ap (λ o. barred m (appended o m.bars (wanted n t))) free

barred_all : (m : Meaning) (ts : List Term) → m.contacts ≤ 32 → length m.bars + length ts ≤ 64 → with_terms m ts ≡ barred m (m.bars ++ map (bar_of m.contacts) ts)
barred_all m [] few room = ap (barred m) (sym (append-nil m.bars))
barred_all m (t ∷ ts) few room =
    let b : LiteralSet = bar_of m.contacts t in
    let next : Meaning = barred m (m.bars ++ b ∷ []) in
    ap (λ v. with_terms v ts) (barred_one m t few (omega arith))
    ∙ barred_all next ts few (omega (arith, length-append m.bars (b ∷ [])))
    ∙ ap (barred m) (append_assoc m.bars (b ∷ []) (map (bar_of m.contacts) ts))

bars_cover : (n : ℕ) (ts : List Term) (x : List Bool) → length x ≡ n → n ≤ 32 → any_covers (map (bar_of n) ts) x ≡ covered (map (wanted n) ts) x
bars_cover n [] x sized few = refl
bars_cover n (t ∷ ts) x sized few =
    let named : first_unnamed (length x) (wanted n t) ≡ None = subst (λ k. first_unnamed k (wanted n t) ≡ None) (sym sized) (wanted_named n t) in
    ap₂ (λ a b. a || b) (sets_law (wanted n t) x (omega arith) named).bar (bars_cover n ts x sized few)

-- bars one after another
pub with_both : (m : Meaning) (front back : List Term) → with_terms (with_terms m front) back ≡ with_terms m (front ++ back)
with_both m [] back = refl
with_both m (t ∷ front) back = with_both (with_term m t) front back

pub only_bars : (m : Meaning) (ts : List Term) → without_bars (with_terms m ts) ≡ without_bars m
only_bars m [] = refl
only_bars m (t ∷ ts) = only_bars (with_term m t) ts

same_tests : (a b c : Bool) → ((a && (b && c)) && true) ≡ ((a && (b && true)) && c)
same_tests a b c = grind (arith, nat_tests)

last_first : (a b c d : Bool) → ((a && (b && c)) && d) ≡ ((a && (b && true)) && (d && c))
last_first a b c d = grind (arith, nat_tests)

module _ (m : Meaning) (ts : List Term) (few : m.contacts ≤ 32) (room : length ts ≤ 64) where
  abbrev free : Meaning
  free = without_bars m

  all_barred : with_terms free ts ≡ barred m (map (bar_of m.contacts) ts)
  all_barred = barred_all free ts few (omega arith)

  pub left_uncovered : (x : List Bool) → length x ≡ m.contacts → stands_with (with_terms free ts) [] x ≡ uncovered (stands free) (map (wanted m.contacts) ts) x
  left_uncovered x sized =
      ap (λ v. stands_with v [] x) all_barred
      ∙ same_tests (m.base x) (all_met m.added x) (not (any_covers (map (bar_of m.contacts) ts) x))
      ∙ ap (λ b. (m.base x && (all_met m.added x && true)) && not b) (bars_cover m.contacts ts x sized few)

  pub barred_contacts : (with_terms free ts).contacts ≡ m.contacts
  barred_contacts = ap (λ v. v.contacts) all_barred

  -- the earliest setting that stands is the earliest that no term covers
  pub barred_pick : least (with_terms free ts).contacts (stands_with (with_terms free ts) []) ≡ pick m.contacts (stands free) (map (wanted m.contacts) ts)
  barred_pick =
      ap (λ v. least v.contacts (stands_with (with_terms free ts) [])) all_barred
      ∙ least_alike m.contacts (stands_with (with_terms free ts) []) (uncovered (stands free) (map (wanted m.contacts) ts)) left_uncovered

  -- a term covers some setting that stands where it is needed beside the barred terms
  pub barred_tells : (t : Term) → covers_some (with_terms free ts) t ≡ needed free t ts
  barred_tells t =
      let n : ℕ = m.contacts in
      let uncovered_too : (x : List Bool) → length x ≡ n → stands_with (barred m (map (bar_of n) ts)) (wanted n t) x ≡ (stands free x && (fits (wanted n t) x && not (covered (map (wanted n) ts) x))) = λ x sized. last_first (m.base x) (all_met m.added x) (not (any_covers (map (bar_of n) ts) x)) (fits (wanted n t) x) ∙ ap (λ b. stands free x && (fits (wanted n t) x && not b)) (bars_cover n ts x sized few) in
      ap (λ v. covers_some v t) all_barred
      ∙ ap (λ k. some n (stands_with (barred m (map (bar_of n) ts)) (wanted k t))) (at_most n few)
      ∙ some_alike n (stands_with (barred m (map (bar_of n) ts)) (wanted n t)) (λ x. stands free x && (fits (wanted n t) x && not (covered (map (wanted n) ts) x))) uncovered_too
