-- What a look at an assignment tells of the settings that stand.
use Rattle.std.proofs.Common.{◌≡◌, ℕ, ◌+◌, ◌<◌, Bool, true, false, not, ◌&&◌, ◌||◌, eqb, List, length, get_or, take, Some, Ok, Err, sym, refl, ap, ◌∙◌, subst, ⊎_elim, arith, take_all}
use Rattle.std.proofs.lemmas.List.FromFn.{fill_by_all}
use Rattle.std.proofs.lemmas.Bool.{and_parts, both_ways}
use Rattle.literals.specs.Bits.{bit}
use Rattle.literals.specs.Literals.{has}
use Rattle.additions.specs.Additions.{passes}
use Rattle.search.specs.declared.Assignment.{Assignment}
use Rattle.search.specs.declared.Found.TheVariants.{Conflict, Met}
use Rattle.search.specs.Assignments.{agreeing, taken, decided, filled, low_half}
use Rattle.search.specs.Search.{Says, Narrows}
use Rattle.search.proofs.Assignments.{reading_low, differ}
use Rattle.search.proofs.Pointwise.{covers_out}
use Rattle.settings.specs.Readings.{reading}
use Rattle.rules.specs.declared.Finding.{Finding}
use Rattle.rules.specs.declared.Finding.TheVariants.{Failed, Forced}
use Rattle.rules.specs.Rules.{found_by}
use Rattle.rules.proofs.Sums.{Sums, sums_both}
use Rattle.networks.specs.Circuits.{circuit_allows}
use Rattle.networks.proofs.Circuits.{computed_input}
use Rattle.implications.specs.declared.Contradiction.{Contradiction}
use Rattle.implications.specs.declared.known.Implied.{Implied}
use Rattle.implications.specs.Ternaries.{narrowed, Agree}
use Rattle.implications.specs.Implied.{Implies, Right}
use Rattle.implications.proofs.Narrowing.{narrowed_reaches}
use Rattle.gates.specs.declared.network_solver.GateSolver.{GateSolver}
use Rattle.gates.specs.Gates.{gate_contacts, gate_added, gate_bars, gate_good, gate_scan}

-- where all is decided, one setting alone agrees
table_decided : (p q b : Bool) → (p || q) ≡ true → (b ≡ false → p ≡ false) → (b ≡ true → q ≡ false) → b ≡ p
table_decided true q true d f g = refl
table_decided true q false d f g = sym (f refl)
table_decided false true true d f g = g refl
table_decided false true false d f g = refl
table_decided false false b d f g = absurd (both_ways _ refl d)

pub only : (n : ℕ) (a : Assignment) → ((k : ℕ) → k < n → decided a k ≡ true) → (x : List Bool) → length x ≡ n → agreeing a x ≡ true → x ≡ filled n a
only n a all x long fit = fill_by_all (λ k. bit a.closed k) x n false long (λ k lt. here k lt (covers_out (taken a) x fit k (omega arith))) where
  here : (k : ℕ) → k < n → has (taken a) k (not (get_or x k false)) ≡ false → get_or x k false ≡ bit a.closed k
  here k lt free =
      table_decided (bit a.closed k) (bit a.opened k) (get_or x k false) (all k lt) (λ e. subst (λ b. has (taken a) k (not b) ≡ false) e free) (λ e. subst (λ b. has (taken a) k (not b) ≡ false) e free)

module _ (s : GateSolver) (a : Assignment) where
  -- evaluated with the rest open
  pub stands_met : gate_good s (reading (gate_contacts s) (low_half a)) ≡ true → Says (gate_contacts s) (gate_good s) a Met
  stands_met h clear = ap (gate_good s) (sym (reading_low (gate_contacts s) a s.circuit.few_inputs)) ∙ h

  pub fails_none : gate_good s (reading (gate_contacts s) (low_half a)) ≡ false → ((k : ℕ) → k < gate_contacts s → decided a k ≡ true) → Says (gate_contacts s) (gate_good s) a Conflict
  fails_none h all x long g fit =
      both_ways _ h (sym (ap (gate_good s) (only (gate_contacts s) a all x long fit ∙ sym (reading_low (gate_contacts s) a s.circuit.few_inputs))) ∙ g)

  -- what follows through the gates
  pub implied_none : (f : Contradiction) → Implies s.circuit a (Err f) → Says (gate_contacts s) (gate_good s) a Conflict
  implied_none f h x long g fit = h x long (and_parts _ _ g).0 fit

  right : (k : Implied) → Implies s.circuit a (Ok k) → Right (gate_contacts s) (gate_good s) a k.values
  right k h x long g fit i lt =
      subst (Agree (get_or k.values (i + 1) _)) (computed_input s.circuit.gates.now x (gate_contacts s) long i lt) (h x long (and_parts _ _ g).0 fit (i + 1))

  pub narrower : (k : Implied) (b : Assignment) → Implies s.circuit a (Ok k) → b ≡ narrowed (gate_contacts s) k.values a → not (eqb b.closed a.closed && eqb b.opened a.opened) ≡ true → Narrows (gate_contacts s) (gate_good s) a b
  narrower k b h e differs =
      subst (Narrows (gate_contacts s) (gate_good s) a) (sym e)
      (⊎_elim
      (λ alike. absurd (differ b a differs (e ∙ alike)))
      (λ p. p)
      (narrowed_reaches (gate_contacts s) (omega (arith, s.circuit.few_inputs)) (gate_good s) a k.values (right k h)))

  -- what the added rules and bars tell
  scan_tells : Sums (gate_contacts s) (λ x. passes s.additions (take (gate_contacts s) x)) a (gate_scan s a)
  scan_tells = sums_both (gate_contacts s) a (gate_contacts s) (gate_added s) (gate_bars s) (omega arith) (omega (arith, s.circuit.few_inputs))

  passing : (x : List Bool) → length x ≡ gate_contacts s → gate_good s x ≡ true → passes s.additions (take (gate_contacts s) x) ≡ true
  passing x long g = ap (passes s.additions) (take_all (gate_contacts s) x (omega arith)) ∙ (and_parts (circuit_allows s.circuit x) _ g).1

  pub scan_says : (f : Finding) → Some f ≡ gate_scan s a → Says (gate_contacts s) (gate_good s) a (found_by f)
  scan_says Failed e = λ x long g fit.
      subst (Sums (gate_contacts s) (λ x. passes s.additions (take (gate_contacts s) x)) a) (sym e) scan_tells x long (passing x long g) fit
  scan_says (Forced k b) e =
      let h = subst (Sums (gate_contacts s) (λ x. passes s.additions (take (gate_contacts s) x)) a) (sym e) scan_tells in
      (h.0, h.1, λ x long g fit. h.2 x long (passing x long g) fit)
