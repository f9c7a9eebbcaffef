-- A circuit: a network with its gates, inputs and output; and its values as a function of the variables.
use Rattle.std.specs.Prelude.{◌≡◌, ℕ, ◌+◌, ◌/◌, ◌%◌, ◌<◌, Bool, false, cond, not, ◌&&◌, List, ◌∷◌, length, ◌==◌, nat_lt, slice_index_or}
use Rattle.aiger.specs.declared.Gate.{Gate}
use Rattle.networks.specs.declared.lent_gates.Circuit.{Circuit}
use Rattle.networks.specs.Networks.{values_from, network_allows, no_gate}

-- the settings at which the output is 1
abbrev pub circuit_allows : Circuit → List Bool → Bool
circuit_allows c x = network_allows c.gates.now c.output x

-- the value of each variable at a setting of the inputs
abbrev pub computed : List Gate → List Bool → ℕ → Bool
computed gates x v = slice_index_or (values_from (false ∷ x) gates) v false

-- the value of a literal, from those of the variables
abbrev pub value_in : (ℕ → Bool) → ℕ → Bool
value_in V l = cond (l % 2 == 1) (not (V (l / 2))) (V (l / 2))

-- a literal as it is read where the first m variables have values: any other variable reads as false, as variable 0 does
abbrev pub readable : ℕ → ℕ → ℕ
readable m l = cond (nat_lt (l / 2) m) l (l % 2)

-- variable v is the AND of a gate's sides
abbrev pub Ands : ℕ → Gate → (ℕ → Bool) → Type 0
Ands v g V = V v ≡ (value_in V (readable v g.left) && value_in V (readable v g.right))

-- the variables from m on are the ANDs of the gates
abbrev pub Obeys : ℕ → List Gate → (ℕ → Bool) → Type 0
Obeys m gates V = (i : ℕ) → i < length gates → Ands (m + i) (slice_index_or gates i no_gate) V
