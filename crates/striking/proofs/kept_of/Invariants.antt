use Rattle.std.proofs.Common.{◌≡◌}
use Rattle.tables.specs.Tables.{items}
use Rattle.solver.specs.Meaning.{without_bars}
use Rattle.solver.specs.Over.{meaning_of}
use Rattle.striking.proofs.Kept.{Kept}
use Rattle.striking.proofs.kept_of.Given as goal

abbrev pub invariant-loop-k : goal.invariant-loop-k
invariant-loop-k g l =
    Kept (without_bars (meaning_of g.S.Solver l.initial.solver)) l.all l.k (items l.standing)
    × (without_bars (meaning_of g.S.Solver l.solver) ≡ without_bars (meaning_of g.S.Solver l.initial.solver))
