use Rattle.std.proofs.Common.{◌≡◌}
use Rattle.tables.specs.Tables.{items}
use Rattle.solver.specs.Over.{meaning_of}
use Rattle.queries.proofs.Contacts.{Placed}
use Rattle.queries.proofs.decided.Given as goal

abbrev pub invariant-loop : goal.invariant-loop
invariant-loop g l =
    Placed (meaning_of g.S.Solver l.initial.solver) (items l.initial.placing.held.now) l.counter (items l.placing.placed) l.placing.last
    × (l.placing.held ≡ l.initial.placing.held)
    × (meaning_of g.S.Solver l.solver ≡ meaning_of g.S.Solver l.initial.solver)
