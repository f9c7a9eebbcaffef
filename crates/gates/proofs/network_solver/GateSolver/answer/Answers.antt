use Rattle.std.proofs.Common.{Some, None, sym, ap, ◌∙◌, subst}
use Rattle.search.specs.Search.{Answer}
use Rattle.solver.specs.Meaning.{Answers}
use Rattle.search.specs.Assignments.{from_set}
use Rattle.gates.specs.Gates.{gate_contacts, gate_good, gate_meaning}
use Rattle.gates.proofs.Answered.{answered_none, answered_some}
use Rattle.gates.proofs.network_solver.GateSolver.answer.Goals as goal

pub returns-in_err-found : goal.returns-in_err-found
returns-in_err-found c =
    let s = c.args.self.now in
    let ls = c.args.literals.now in
    record {
      answer = subst (Answers (gate_meaning s) ls) (sym c.from_residual.ensures)
          (answered_none s ls c.requires.named
          (subst (λ a. Answer (gate_contacts s) (gate_good s) a None) (c.into.ensures ∙ ap from_set c.from.ensures) c.in_err-found.ensures.answer));
    }

pub returns : goal.returns
returns c =
    let s = c.args.self.now in
    let ls = c.args.literals.now in
    let found = c.in_ok-found.found in
    record {
      answer = subst (λ x. Answers (gate_meaning s) ls (Some x)) (sym c.into-2.ensures)
          (answered_some s ls c.requires.named found
          (subst (λ a. Answer (gate_contacts s) (gate_good s) a (Some found)) (c.into.ensures ∙ ap from_set c.from.ensures) c.in_ok-found.ensures.answer));
    }
