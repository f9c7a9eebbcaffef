use Rattle.std.proofs.Common.{◌≡◌, ◌-◌, length}
use Rattle.tables.specs.Tables.{items}
use Rattle.solver.specs.Over.{meaning_of}
use Rattle.terms.proofs.Turns.{Making}
use Rattle.terms.proofs.gather.Given as goal

abbrev pub invariant-loop : goal.invariant-loop
invariant-loop g l =
    Making (meaning_of g.M.Solver l.initial.make) (meaning_of g.B.Solver l.initial.brk) (meaning_of g.M.Solver l.make) (items l.terms) (items l.last)
    × (meaning_of g.B.Solver l.brk ≡ meaning_of g.B.Solver l.initial.brk)

abbrev pub decreases-loop : goal.decreases-loop
decreases-loop g l = 64 - length (items l.terms)
