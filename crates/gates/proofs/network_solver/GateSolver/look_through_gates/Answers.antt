use Rattle.std.proofs.Common.{sym, ◌∙◌}
use Rattle.gates.proofs.Looks.{narrower}
use Rattle.gates.proofs.network_solver.GateSolver.look_through_gates.Goals as goal

pub returns-then-differ : goal.returns-then-differ
returns-then-differ c =
    record { says = narrower c.args.self.now c.args.assignment c.in-Ok.known c.narrowed-narrower.result c.in-Ok.ensures.implied c.narrowed-narrower.ensures.narrowed (sym c.differ.ensures.differ ∙ c.if-differ.true) }
