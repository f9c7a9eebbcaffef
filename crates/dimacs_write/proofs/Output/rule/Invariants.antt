use Rattle.std.proofs.Common.{◌+◌, ◌-◌, ◌*◌, ◌≤◌}
use Rattle.literals.specs.Literals.{listed, listed_from}
use Rattle.dimacs_write.specs.declared.Output.{Output}
use Rattle.dimacs_write.specs.Puts.{Put}
use Rattle.dimacs_write.specs.Texts.{rule_text}
use Rattle.dimacs_write.proofs.Output.rule.Given as goal

-- what is left to put: the text of the variables from this one on
abbrev pub invariant-loop-k : goal.invariant-loop-k
invariant-loop-k l =
    ((last : Output) → Put l.self (rule_text (listed_from l.k (l.vars - l.k) l.set)) last → Put l.initial.self (rule_text (listed l.vars l.set)) last)
    × (l.self.length ≤ l.initial.self.length + 8 * l.k)
