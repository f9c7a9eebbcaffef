use Rattle.std.proofs.Common.{◌≡◌}
use Rattle.implications.specs.Ternaries.{narrowed}
use Rattle.implications.proofs.known.Implied.narrowed.Given as goal

abbrev pub invariant-loop-index : goal.invariant-loop-index
invariant-loop-index l = l.narrower ≡ narrowed l.index l.self.values l.initial.narrower
