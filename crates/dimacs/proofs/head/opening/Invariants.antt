use Rattle.std.proofs.Common.{◌≡◌, false, length}
use Rattle.texts.specs.Lexemes.{ahead}
use Rattle.dimacs.specs.Cnf.{opening}
use Rattle.dimacs.proofs.head.opening.Given as goal

abbrev pub invariant-loop-words : goal.invariant-loop-words
invariant-loop-words l = opening false (ahead l.initial.words) ≡ opening false (ahead l.words)

abbrev pub decreases-loop-words : goal.decreases-loop-words
decreases-loop-words l = length (ahead l.words)
