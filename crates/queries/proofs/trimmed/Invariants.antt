use Rattle.std.proofs.Common.{◌≡◌}
use Rattle.tables.specs.Tables.{items}
use Rattle.solver.specs.Over.{meaning_of}
use Rattle.queries.proofs.Reasons.{Kept}
use Rattle.queries.proofs.trimmed.Given as goal

abbrev pub invariant-loop-k : goal.invariant-loop-k
invariant-loop-k g l =
    Kept (meaning_of g.S.Solver l.initial.solver) l.all l.k (items l.choice)
    × (meaning_of g.S.Solver l.solver ≡ meaning_of g.S.Solver l.initial.solver)
