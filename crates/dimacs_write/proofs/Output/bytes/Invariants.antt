use Rattle.std.proofs.Common.{◌≡◌, ◌+◌, drop}
use Rattle.dimacs_write.specs.declared.Output.{Output}
use Rattle.dimacs_write.specs.Puts.{Put}
use Rattle.dimacs_write.proofs.Output.bytes.Given as goal

abbrev pub invariant-loop-byte : goal.invariant-loop-byte
invariant-loop-byte l =
    ((last : Output) → Put l.self (drop l.byte-index l.bytes) last → Put l.initial.self l.bytes last)
    × (l.self.length ≡ l.initial.self.length + l.byte-index)
