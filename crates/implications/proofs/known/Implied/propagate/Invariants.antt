use Rattle.std.proofs.Common.{ℕ, ◌+◌, Bool}
use Rattle.networks.specs.Circuits.{Obeys}
use Rattle.implications.specs.Ternaries.{Sound}
use Rattle.implications.proofs.known.Implied.propagate.Given as goal

abbrev pub invariant-loop : goal.invariant-loop
invariant-loop l = (V : ℕ → Bool) → Obeys (l.circuit.inputs + 1) l.circuit.gates.now V → Sound l.initial.self.values V → Sound l.self.values V
