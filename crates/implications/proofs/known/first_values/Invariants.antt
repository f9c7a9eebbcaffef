use Rattle.std.proofs.Common.{◌≡◌, ℕ, ◌+◌, ◌<◌, Bool, false, length}
use Rattle.implications.specs.Ternaries.{assigned, Agree, Sound}
use Rattle.implications.proofs.known.first_values.Given as goal

abbrev pub invariant-loop-index : goal.invariant-loop-index
invariant-loop-index l =
    (length l.values ≡ 2081)
    × ((V : ℕ → Bool) → V 0 ≡ false → ((k : ℕ) → k < l.circuit.inputs → Agree (assigned l.assignment k) (V (k + 1))) → Sound l.values V)
