use Rattle.std.proofs.Common.{ℕ, ◌+◌, Bool}
use Rattle.networks.specs.Circuits.{Obeys}
use Rattle.implications.specs.Ternaries.{Sound}
use Rattle.implications.proofs.known.Implied.sweep.Given as goal

abbrev pub invariant-loop-index : goal.invariant-loop-index
invariant-loop-index g l = record {
  able : (goal.iterator-loop-index g).can_next l.index-iterator;
  ends : (goal.iterator-loop-index g).is_finite l.index-iterator;
  right : (V : ℕ → Bool) → Obeys (l.circuit.inputs + 1) l.circuit.gates.now V → Sound l.initial.self.values V → Sound l.self.values V;
}
