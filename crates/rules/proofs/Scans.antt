-- A look over the variables of a rule, step by step.
use Rattle.std.proofs.Common.{◌≡◌, ℕ, suc, ◌+◌, ◌-◌, ◌<◌, ◌≤◌, Bool, true, false, not, ◌||◌, List, map, length, get_or, drop, Some, None, Option, sym, ap, ◌∙◌, arith}
use Rattle.std.proofs.lemmas.List.{at_drop_more}
use Rattle.std.proofs.lemmas.Bool.{cond-true, cond-false}
use Rattle.literals.specs.Literals.{no_literals}
use Rattle.literals.specs.declared.LiteralSet.{LiteralSet}
use Rattle.literals.proofs.Booleans.{or_assoc}
use Rattle.search.specs.declared.Assignment.{Assignment}
use Rattle.rules.specs.declared.Finding.TheVariants.{Failed, Forced}
use Rattle.search.specs.Assignments.{low_mask}
use Rattle.rules.specs.Rules.{as_rule, masked, restricted, is_met, is_quiet, wanted_at, first_wanted, scanned, any_unmet}

module _ (r : LiteralSet) (a : Assignment) (n k : ℕ) where
  one_more : k < n → first_wanted k (n - k) r a ≡ first_wanted k (suc (n - (k + 1))) r a
  one_more lt = ap (λ m. first_wanted k m r a) {x = n - k} {y = suc (n - (k + 1))} (omega arith)

  pub wanted_next : k < n → wanted_at r a k ≡ None → first_wanted k (n - k) r a ≡ first_wanted (k + 1) (n - (k + 1)) r a
  wanted_next lt h =
      one_more lt ∙ ap (λ (o : Option Bool). elim o [ Some b ↦ Forced k b | None ↦ first_wanted (suc k) (n - (k + 1)) r a ]) h
      ∙ ap (λ j. first_wanted j (n - (k + 1)) r a) {x = suc k} {y = k + 1} (omega arith)

  pub wanted_here : (b : Bool) → k < n → wanted_at r a k ≡ Some b → first_wanted k (n - k) r a ≡ Forced k b
  wanted_here b lt h = one_more lt ∙ ap (λ (o : Option Bool). elim o [ Some b ↦ Forced k b | None ↦ first_wanted (suc k) (n - (k + 1)) r a ]) h

  pub wanted_none : n ≤ k → first_wanted k (n - k) r a ≡ Failed
  wanted_none le = ap (λ m. first_wanted k m r a) {x = n - k} {y = 0} (omega arith)

-- the rule at a place, as the look takes it
module _ (n : ℕ) (a : Assignment) (bars : Bool) (ss : List LiteralSet) (i : ℕ) (lt : i < length ss) (mask : ℕ) (r : LiteralSet) (em : mask ≡ low_mask n) (er : r ≡ masked mask (as_rule bars (get_or ss i no_literals))) where
  taken_so : r ≡ restricted n (as_rule bars (get_or ss i no_literals))
  taken_so = er ∙ ap (λ m. masked m (as_rule bars (get_or ss i no_literals))) em

  pub scan_next : is_quiet r a ≡ true → scanned n (map (as_rule bars) (drop i ss)) a ≡ scanned n (map (as_rule bars) (drop (i + 1) ss)) a
  scan_next h =
      at_drop_more (λ ss. scanned n (map (as_rule bars) ss) a) ss i no_literals lt
      ∙ cond-true (is_quiet (restricted n (as_rule bars (get_or ss i no_literals))) a) _ _ (ap (λ r. is_quiet r a) (sym taken_so) ∙ h)

  pub scan_here : is_quiet r a ≡ false → scanned n (map (as_rule bars) (drop i ss)) a ≡ Some (first_wanted 0 n r a)
  scan_here h =
      at_drop_more (λ ss. scanned n (map (as_rule bars) ss) a) ss i no_literals lt
      ∙ cond-false (is_quiet (restricted n (as_rule bars (get_or ss i no_literals))) a) _ _ (ap (λ r. is_quiet r a) (sym taken_so) ∙ h)
      ∙ ap (λ r. Some (first_wanted 0 n r a)) (sym taken_so)

  pub unmet_next : (t t' : Bool) → t' ≡ (t || not (is_met r a)) → (t || any_unmet n (map (as_rule bars) (drop i ss)) a) ≡ (t' || any_unmet n (map (as_rule bars) (drop (i + 1) ss)) a)
  unmet_next t t' e =
      ap (λ b. t || b) (at_drop_more (λ ss. any_unmet n (map (as_rule bars) ss) a) ss i no_literals lt)
      ∙ ap (λ r. t || (not (is_met r a) || any_unmet n (map (as_rule bars) (drop (i + 1) ss)) a)) (sym taken_so)
      ∙ sym (or_assoc t (not (is_met r a)) (any_unmet n (map (as_rule bars) (drop (i + 1) ss)) a))
      ∙ ap (λ b. b || any_unmet n (map (as_rule bars) (drop (i + 1) ss)) a) (sym e)
