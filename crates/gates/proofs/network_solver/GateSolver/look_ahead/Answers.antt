use Rattle.std.proofs.Common.{sym, subst}
use Rattle.search.specs.Search.{Says}
use Rattle.gates.specs.Gates.{gate_contacts, gate_good}
use Rattle.gates.proofs.Looks.{scan_says}
use Rattle.gates.proofs.network_solver.GateSolver.look_ahead.Goals as goal

pub returns-in-Some : goal.returns-in-Some
returns-in-Some c =
    let s = c.args.self.now in
    let a = c.args.assignment in
    record { says = subst (Says (gate_contacts s) (gate_good s) a) (sym c.into.ensures) (scan_says s a c.in-Some.finding c.in-Some.ensures.first) }
