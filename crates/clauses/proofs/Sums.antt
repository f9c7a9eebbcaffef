-- What the looks over the loaded rules, the added ones and the bars tell together.
use Rattle.std.proofs.Common.{◌≡◌, ◌≤◌, Bool, true, false, ◌&&◌, List, map, length, take, None, sym, ap, ◌∙◌, subst, ap₂, ⊎_elim, arith, take_all}
use Rattle.std.proofs.lemmas.Bool.{and_from, or_parts, cases_Bool}
use Rattle.settings.specs.Settings.{all_met}
use Rattle.additions.specs.Additions.{passes}
use Rattle.search.specs.declared.Assignment.{Assignment}
use Rattle.search.specs.declared.Found.TheVariants.{Met}
use Rattle.search.specs.Assignments.{agreeing, filled}
use Rattle.search.specs.Search.{Says}
use Rattle.search.proofs.Assignments.{length_filled, agreeing_own}
use Rattle.rules.specs.Rules.{as_rule, scanned, scanned_both, Choice}
use Rattle.rules.proofs.Forces.{tells_all, met_all}
use Rattle.rules.proofs.Sums.{Sums, sums_and, sums_same, sums_whole, sums_both, all_met_rules, all_met_bars}
use Rattle.clauses.specs.declared.ClauseSolver.{ClauseSolver}
use Rattle.clauses.specs.Clauses.{clause_variables, clause_added, clause_bars, clause_good, clause_scan, clause_unmet}

module _ (s : ClauseSolver) where
  -- what the looks over the three lists find, taken together
  found_good : List Bool → Bool
  found_good x =
      all_met (map (as_rule false) s.rules.now) x
      && (all_met (map (as_rule false) (clause_added s)) (take s.counts.contacts x) && all_met (map (as_rule true) (clause_bars s)) (take s.counts.contacts x))

  found_same : (x : List Bool) → found_good x ≡ clause_good s x
  unfolding found_good
  found_same x =
      ap₂ (λ p q. p && q) (all_met_rules s.rules.now x) (ap₂ (λ p q. p && q) (all_met_rules (clause_added s) (take s.counts.contacts x)) (all_met_bars (clause_bars s) (take s.counts.contacts x)))

module _ (s : ClauseSolver) (a : Assignment) where
  few : s.counts.contacts ≤ 64
  few = omega (arith, s.counts.few_variables)

  pub scan_sums : Sums (clause_variables s) (clause_good s) a (clause_scan s a)
  scan_sums =
      let n = clause_variables s in
      let m = s.counts.contacts in
      let loaded = map (as_rule false) s.rules.now in
      let added = clause_added s in
      let bars = clause_bars s in
      sums_same n a (λ x. all_met loaded x && passes s.additions (take m x)) (clause_good s) (clause_scan s a) (λ x. ap (λ p. p && passes s.additions (take m x)) (all_met_rules s.rules.now x))
      (sums_and n a (all_met loaded) (λ x. passes s.additions (take m x)) (scanned n loaded a) (scanned_both m added bars a)
      (sums_whole n a loaded (scanned n loaded a) (tells_all n s.counts.few_variables a loaded))
      (sums_both n a m added bars (omega arith) few))

  none_unmet : clause_unmet s a ≡ false → (x : List Bool) → length x ≡ clause_variables s → agreeing a x ≡ true → clause_good s x ≡ true
  unfolding found_good
  none_unmet h x e fit =
      let n = clause_variables s in
      let m = s.counts.contacts in
      let loaded = map (as_rule false) s.rules.now in
      let p = or_parts _ _ h in
      let q = or_parts _ _ p.0 in
      sym (found_same s x)
      ∙ and_from _ _ (ap (all_met loaded) (sym (take_all n x (omega arith))) ∙ met_all n s.counts.few_variables a loaded q.0 x (omega arith) fit)
      (and_from _ _ (met_all m few a (map (as_rule false) (clause_added s)) q.1 x (omega arith) fit) (met_all m few a (map (as_rule true) (clause_bars s)) p.1 x (omega arith) fit))

  -- a quiet look and no variable to try: the assignment meets all, with the rest open
  pub quiet_met : None ≡ clause_scan s a → Choice (clause_variables s) a (clause_unmet s a) None → Says (clause_variables s) (clause_good s) a Met
  quiet_met q none clear =
      let n = clause_variables s in
      ⊎_elim
      (λ unmet. subst (Sums n (clause_good s) a) (sym q) scan_sums (none unmet) (filled n a) (length_filled n a) (agreeing_own n a clear))
      (λ met. none_unmet met (filled n a) (length_filled n a) (agreeing_own n a clear))
      (cases_Bool (clause_unmet s a))
