use Rattle.std.proofs.Common.{◌≡◌, take}
use Rattle.solver.specs.Over.{meaning_of}
use Rattle.striking.specs.Striking.{with_terms}
use Rattle.striking.proofs.bar_terms.Given as goal

abbrev pub invariant-loop-term : goal.invariant-loop-term
invariant-loop-term g l =
    meaning_of g.S.Solver l.solver ≡ with_terms (meaning_of g.S.Solver l.initial.solver) (take l.term-index l.terms)
