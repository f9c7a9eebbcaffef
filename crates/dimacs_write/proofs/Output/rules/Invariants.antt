use Rattle.std.proofs.Common.{◌+◌, ◌*◌, ◌≤◌, drop}
use Rattle.dimacs_write.specs.declared.Output.{Output}
use Rattle.dimacs_write.specs.Puts.{Put}
use Rattle.dimacs_write.specs.Texts.{set_texts}
use Rattle.dimacs_write.proofs.Output.rules.Given as goal

abbrev pub invariant-loop-set : goal.invariant-loop-set
invariant-loop-set l =
    ((last : Output) → Put l.self (set_texts l.loaded.vars (drop l.set-index l.loaded.rules.now)) last → Put l.initial.self (set_texts l.loaded.vars l.loaded.rules.now) last)
    × (l.self.length ≤ l.initial.self.length + 514 * l.set-index)
