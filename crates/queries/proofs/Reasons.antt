-- What one turn of the loop of WHY keeps.
use Rattle.std.proofs.Common.{◌≡◌, ℕ, ◌+◌, ◌<◌, ◌≤◌, Bool, true, false, cond, not, List, [], ◌∷◌, ◌++◌, length, get_or, drop, ℤ, pos, sym, refl, ap, ◌∙◌, subst, arith}
use Rattle.std.proofs.lemmas.List.{length-append, drop_more, drop_all}
use Rattle.std.proofs.lemmas.Bool.{cond_both}
use Rattle.settings.specs.Least.{some}
use Rattle.laws.specs.Choices.{enough, trim}
use Rattle.laws.proofs.Named.{Named, named_append, named_cons, named_parts, named_drop}
use Rattle.laws.proofs.Trim.{trim_with, trim_without, trim_end}
use Rattle.solver.specs.Meaning.{Meaning, stands, stands_with}
use Rattle.queries.specs.Queries.{possible_with}
use Rattle.queries.proofs.Answers.{possible_named}

-- the literals kept of the first k, all of which name contacts
pub record Kept (m : Meaning) (held : List ℤ) (k : ℕ) (kept : List ℤ) : Type 0 where
  pub left : trim (enough m.contacts (stands m)) [] held ≡ trim (enough m.contacts (stands m)) kept (drop k held)
  pub named : Named m.contacts kept
  pub few : length kept ≤ k

module _ (m : Meaning) (held : List ℤ) (all_named : Named m.contacts held) where
  pub kept_none : Kept m held 0 []
  kept_none = record { left = refl; named = refl; few = omega arith }

  kept_one : (k : ℕ) (kept later next : List ℤ) (l : ℤ) → drop k held ≡ l ∷ later → Kept m held k kept → next ≡ cond (some m.contacts (stands_with m (kept ++ later))) (kept ++ l ∷ []) kept → trim (enough m.contacts (stands m)) kept (drop k held) ≡ trim (enough m.contacts (stands m)) next later
  kept_one k kept later next l here at is = go (some m.contacts (stands_with m (kept ++ later))) refl is where
    go : (b : Bool) → some m.contacts (stands_with m (kept ++ later)) ≡ b → next ≡ cond b (kept ++ l ∷ []) kept → trim (enough m.contacts (stands m)) kept (drop k held) ≡ trim (enough m.contacts (stands m)) next later
    go true h e =
        ap (trim (enough m.contacts (stands m)) kept) here ∙ trim_with (enough m.contacts (stands m)) kept l later (ap not h) ∙ ap (λ t. trim (enough m.contacts (stands m)) t later) (sym e)
    go false h e =
        ap (trim (enough m.contacts (stands m)) kept) here ∙ trim_without (enough m.contacts (stands m)) kept l later (ap not h) ∙ ap (λ t. trim (enough m.contacts (stands m)) t later) (sym e)

  pub kept_next : (k : ℕ) (kept next : List ℤ) → k < length held → Kept m held k kept → next ≡ cond (possible_with m (kept ++ drop (k + 1) held)) (kept ++ get_or held k (pos 0) ∷ []) kept → Kept m held (k + 1) next
  kept_next k kept next lt at step =
      let l : ℤ = get_or held k (pos 0) in
      let later : List ℤ = drop (k + 1) held in
      let here : drop k held ≡ l ∷ later = drop_more held k (pos 0) lt in
      let own = named_parts m.contacts l later (subst (Named m.contacts) here (named_drop m.contacts k held all_named)) in
      let with_it = named_append m.contacts kept (l ∷ []) at.named (named_cons m.contacts l [] own.0 refl) in
      let told : possible_with m (kept ++ later) ≡ some m.contacts (stands_with m (kept ++ later)) = possible_named m (kept ++ later) (named_append m.contacts kept later at.named own.1) in
      let is : next ≡ cond (some m.contacts (stands_with m (kept ++ later))) (kept ++ l ∷ []) kept = step ∙ ap (λ b. cond b (kept ++ l ∷ []) kept) told in
      record {
        left = at.left ∙ kept_one k kept later next l here at is;
        named = subst (Named m.contacts) (sym is) (cond_both (some m.contacts (stands_with m (kept ++ later))) (kept ++ l ∷ []) kept (Named m.contacts) (λ _. with_it) (λ _. at.named));
        few = subst (λ t. length t ≤ k + 1) (sym is) (cond_both (some m.contacts (stands_with m (kept ++ later))) (kept ++ l ∷ []) kept (λ t. length t ≤ k + 1) (λ _. omega (arith, at.few, length-append kept (l ∷ []))) (λ _. omega (arith, at.few)));
      }

  pub kept_all : (k : ℕ) (kept : List ℤ) → length held ≤ k → Kept m held k kept → kept ≡ trim (enough m.contacts (stands m)) [] held
  kept_all k kept le at =
      sym (at.left ∙ ap (trim (enough m.contacts (stands m)) kept) (drop_all k held le) ∙ trim_end (enough m.contacts (stands m)) kept)
