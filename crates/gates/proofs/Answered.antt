-- What the search answers is what ASK promises.
use Rattle.std.proofs.Common.{◌≡◌, Bool, ◌&&◌, List, length, ℤ, Some, None, sym, ap, ◌∙◌, arith}
use Rattle.literals.specs.Literals.{first_unnamed, set_of}
use Rattle.settings.proofs.Sets.{sets_law}
use Rattle.laws.proofs.Least.{some_alike}
use Rattle.solver.specs.Meaning.{Answers, stands_with}
use Rattle.search.specs.declared.Assignment.{Assignment}
use Rattle.search.specs.Assignments.{from_set, agreeing, filled, low_half}
use Rattle.search.specs.Search.{Answer}
use Rattle.search.proofs.Assignments.{length_filled, reading_low}
use Rattle.gates.specs.declared.network_solver.GateSolver.{GateSolver}
use Rattle.gates.specs.Gates.{gate_contacts, gate_good, gate_meaning}

module _ (s : GateSolver) (ls : List ℤ) (named : first_unnamed (gate_contacts s) ls ≡ None) where
  -- a good setting that agrees with what is asked is one that stands and fits
  alike : (x : List Bool) → length x ≡ gate_contacts s → (gate_good s x && agreeing (from_set (set_of ls)) x) ≡ stands_with (gate_meaning s) ls x
  alike x long = ap (λ b. gate_good s x && b) (sets_law ls x (omega (arith, s.circuit.few_inputs)) (ap (λ n. first_unnamed n ls) long ∙ named)).bar

  pub answered_none : Answer (gate_contacts s) (gate_good s) (from_set (set_of ls)) None → Answers (gate_meaning s) ls None
  answered_none h = sym (some_alike (gate_contacts s) (λ x. gate_good s x && agreeing (from_set (set_of ls)) x) (stands_with (gate_meaning s) ls) alike) ∙ h

  pub answered_some : (a : Assignment) → Answer (gate_contacts s) (gate_good s) (from_set (set_of ls)) (Some a) → Answers (gate_meaning s) ls (Some (low_half a))
  answered_some a h =
      ap (stands_with (gate_meaning s) ls) (reading_low (gate_contacts s) a s.circuit.few_inputs) ∙ sym (alike (filled (gate_contacts s) a) (length_filled (gate_contacts s) a)) ∙ h
