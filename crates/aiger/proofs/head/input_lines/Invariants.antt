use Rattle.std.proofs.Common.{◌≡◌, ◌+◌, ◌-◌, ◌*◌}
use Rattle.texts.specs.Lexemes.{ahead}
use Rattle.aiger.specs.Aag.{input_lines}
use Rattle.aiger.proofs.head.input_lines.Given as goal

abbrev pub invariant-loop-k : goal.invariant-loop-k
invariant-loop-k l = input_lines l.inputs 2 (ahead l.initial.words) ≡ input_lines (l.inputs - l.k) (2 * l.k + 2) (ahead l.words)
