use Rattle.std.proofs.Common.{◌≡◌, length}
use Rattle.texts.specs.Lexemes.{ahead}
use Rattle.dimacs.specs.Reader.{set_line, set_line_from}
use Rattle.dimacs.proofs.body.set_line.Given as goal

abbrev pub invariant-loop-literal : goal.invariant-loop-literal
invariant-loop-literal l = set_line l.vars (ahead l.initial.words) ≡ set_line_from l.vars l.rule (ahead l.words)

abbrev pub decreases-loop-literal : goal.decreases-loop-literal
decreases-loop-literal l = length (ahead l.words)
