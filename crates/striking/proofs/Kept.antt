-- What one turn of the striking keeps.
use Rattle.std.proofs.Common.{◌≡◌, ℕ, ◌+◌, ◌<◌, ◌≤◌, Bool, true, false, cond, List, [], ◌∷◌, ◌++◌, length, get_or, drop, sym, refl, ap, ◌∙◌, subst, arith}
use Rattle.std.proofs.lemmas.List.{drop_more, drop_all, length-append, length-drop}
use Rattle.std.proofs.lemmas.Bool.{cond_both}
use Rattle.settings.specs.declared.Term.{Term}
use Rattle.settings.specs.TermRecords.{no_wants}
use Rattle.solver.specs.Meaning.{Meaning, without_bars}
use Rattle.striking.specs.Striking.{with_terms, covers_some, needed, unstruck}
use Rattle.striking.proofs.Bars.{with_both, barred_tells}

-- the terms kept of the first k
pub record Kept (m : Meaning) (ts : List Term) (k : ℕ) (kept : List Term) : Type 0 where
  pub left : unstruck m [] ts ≡ unstruck m kept (drop k ts)
  pub few : length kept ≤ k

pub kept_none : (m : Meaning) (ts : List Term) → Kept m ts 0 []
kept_none m ts = record { left = refl; few = omega arith }

-- a term is kept where it is needed
unstruck_next : (m : Meaning) (kept later next : List Term) (t : Term) (b : Bool) → needed m t (kept ++ later) ≡ b → next ≡ cond b (kept ++ t ∷ []) kept → unstruck m kept (t ∷ later) ≡ unstruck m next later
unfolding unstruck
unstruck_next m kept later next t true h is = ap (λ b. cond b (unstruck m (kept ++ t ∷ []) later) (unstruck m kept later)) h ∙ ap (λ l. unstruck m l later) (sym is)
unstruck_next m kept later next t false h is = ap (λ b. cond b (unstruck m (kept ++ t ∷ []) later) (unstruck m kept later)) h ∙ ap (λ l. unstruck m l later) (sym is)

module _ (m : Meaning) (ts : List Term) (small : m.contacts ≤ 32) (room : length ts ≤ 64) where
  pub kept_next : (k : ℕ) (kept next : List Term) → k < length ts → Kept (without_bars m) ts k kept → next ≡ cond (covers_some (with_terms (with_terms (without_bars m) kept) (drop (k + 1) ts)) (get_or ts k no_wants)) (kept ++ get_or ts k no_wants ∷ []) kept → Kept (without_bars m) ts (k + 1) next
  kept_next k kept next lt at step =
      let t : Term = get_or ts k no_wants in
      let later : List Term = drop (k + 1) ts in
      let b : Bool = covers_some (with_terms (with_terms (without_bars m) kept) later) t in
      let fit : length (kept ++ later) ≤ 64 = omega (arith, length-append kept later, length-drop (k + 1) ts, at.few) in
      let told : needed (without_bars m) t (kept ++ later) ≡ b = sym (ap (λ v. covers_some v t) (with_both (without_bars m) kept later) ∙ barred_tells m (kept ++ later) small fit t) in
      record {
        left = at.left ∙ ap (unstruck (without_bars m) kept) (drop_more ts k no_wants lt) ∙ unstruck_next (without_bars m) kept later next t b told step;
        few = subst (λ l. length l ≤ k + 1) (sym step) (cond_both b (kept ++ t ∷ []) kept (λ l. length l ≤ k + 1) (λ _. omega (arith, at.few, length-append kept (t ∷ []))) (λ _. omega (arith, at.few)));
      }

pub kept_all : (m : Meaning) (ts : List Term) (k : ℕ) (kept : List Term) → length ts ≤ k → Kept m ts k kept → kept ≡ unstruck m [] ts
unfolding unstruck
kept_all m ts k kept le at = sym (at.left ∙ ap (unstruck m kept) (drop_all k ts le))
