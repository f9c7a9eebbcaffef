use Rattle.std.proofs.Common.{◌≡◌}
use Rattle.tables.specs.Tables.{items}
use Rattle.solver.specs.Over.{meaning_of}
use Rattle.picking.proofs.Fronts.{FrontSoFar}
use Rattle.picking.proofs.shared_front.Given as goal

abbrev pub invariant-loop-literal : goal.invariant-loop-literal
invariant-loop-literal g l =
    FrontSoFar (meaning_of g.S.Solver l.initial.solver) (items l.near) l.literal-index (items l.front)
    × (meaning_of g.S.Solver l.solver ≡ meaning_of g.S.Solver l.initial.solver)
