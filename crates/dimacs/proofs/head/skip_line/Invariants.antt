use Rattle.std.proofs.Common.{◌≡◌, ◌≤◌, true, length}
use Rattle.texts.specs.Lexemes.{ahead}
use Rattle.dimacs.specs.Cnf.{opening}
use Rattle.dimacs.proofs.head.skip_line.Given as goal

abbrev pub invariant-loop-at : goal.invariant-loop-at
invariant-loop-at l = (opening true (ahead l.initial.words) ≡ opening true (ahead l.words)) × (length (ahead l.words) ≤ length (ahead l.initial.words))

abbrev pub decreases-loop-at : goal.decreases-loop-at
decreases-loop-at l = length (ahead l.words)
