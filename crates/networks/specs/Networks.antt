-- What a gate text allows. Variable 0 is false, then come the inputs, then one variable a gate.
use Rattle.std.specs.Prelude.{◌≡◌, ℕ, suc, ◌+◌, ◌<◌, Bool, false, not, ◌&&◌, List, ◌∷◌, length, take, min, slice_index_or}
use Rattle.aiger.specs.declared.Gate.{Gate}
use Rattle.aiger.specs.Aag.{Aag}
use Rattle.aiger.specs.Grammar.{WellFormed}
use Rattle.networks.specs.Evaluation.{literal_from, gate_from, extended}

-- the value of a literal at one setting, from those of the variables
abbrev pub literal_value : List Bool → ℕ → Bool
literal_value values l = literal_from false not (λ p q. p && q) values l

-- a gate is the AND of its two sides
abbrev pub gate_value : List Bool → Gate → Bool
gate_value values g = gate_from false not (λ p q. p && q) values g

-- the values of all variables, gate by gate
abbrev pub values_from : List Bool → List Gate → List Bool
values_from values gs = extended false not (λ p q. p && q) values gs

-- a network allows a setting of its inputs when its output is 1
abbrev pub network_allows : List Gate → ℕ → List Bool → Bool
network_allows gates output x = literal_value (values_from (false ∷ x) gates) output

-- a network has at most 2,048 gates
abbrev pub first_gates : List Gate → List Gate
first_gates gates = take (min (length gates) 2048) gates

abbrev pub no_gate : Gate
no_gate = record { left = 0; right = 0 }

-- values of all variables with which variable 0 is false, the inputs stand as in the setting, and each gate is the AND of its sides
pub record Consistent (gates : List Gate) (x values : List Bool) : Type 0 where
  pub inputs : (k : ℕ) → k < suc (length x) → slice_index_or values k false ≡ slice_index_or (false ∷ x) k false
  pub all_gates : (i : ℕ) → i < length gates → slice_index_or values (suc (length x) + i) false ≡ gate_value values (slice_index_or gates i no_gate)

-- there is one such way for a gate text that was read, and in it the output has the value that decides
abbrev pub NetworkLaw : Type 0
NetworkLaw =
    (c : Aag) → WellFormed c → (x values : List Bool) → length x ≡ c.inputs → Consistent c.gates x values →
    literal_value values c.output ≡ network_allows c.gates c.output x
