use Rattle.std.proofs.Common.{None, sym, subst}
use Rattle.rules.specs.Rules.{Choice}
use Rattle.search.specs.Search.{Says}
use Rattle.clauses.specs.Clauses.{clause_variables, clause_good, clause_unmet}
use Rattle.rules.proofs.Sums.{Sums}
use Rattle.clauses.proofs.Sums.{scan_sums, quiet_met}
use Rattle.clauses.proofs.ClauseSolverLook.look.Goals as goal

pub returns-in-Some : goal.returns-in-Some
returns-in-Some c =
    let s = c.args.self.now in
    let a = c.args.assignment in
    record { says = subst (Says (clause_variables s) (clause_good s) a) (sym c.into.ensures) (subst (Sums (clause_variables s) (clause_good s) a) (sym c.in-Some.ensures.first) (scan_sums s a)) }

pub returns-in-None-choose : goal.returns-in-None-choose
returns-in-None-choose c =
    let s = c.args.self.now in
    let a = c.args.assignment in
    record { says = quiet_met s a c.in-None.ensures.first (subst (λ n. Choice n a (clause_unmet s a) None) c.variables.ensures.sum (subst (λ b. Choice c.variables.result a b None) c.tally.ensures.unmet c.in-None-choose.ensures.choice)) }
