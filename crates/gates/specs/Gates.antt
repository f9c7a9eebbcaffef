-- What a gate solver means.
use Rattle.std.specs.Prelude.{ℕ, ◌≤◌, Bool, not, ◌&&◌, List, [], Option, ◌==◌}
use Rattle.std.proofs.Common.{arith}
use Rattle.literals.specs.declared.LiteralSet.{LiteralSet}
use Rattle.aiger.specs.declared.Gate.{Gate}
use Rattle.networks.specs.Networks.{network_allows}
use Rattle.networks.specs.Circuits.{circuit_allows}
use Rattle.solver.specs.Meaning.{Meaning, meaning_from}
use Rattle.additions.specs.Additions.{rules_of, bars_of, passes}
use Rattle.search.specs.declared.Assignment.{Assignment}
use Rattle.rules.specs.declared.Finding.{Finding}
use Rattle.rules.specs.Rules.{scanned_both}
use Rattle.gates.specs.declared.network_solver.GateSolver.{GateSolver}

-- each input is a contact
abbrev pub gate_contacts : GateSolver → ℕ
gate_contacts s = s.circuit.inputs

-- the settings at which the output is 1
abbrev pub gate_base : GateSolver → List Bool → Bool
gate_base s x = circuit_allows s.circuit x

abbrev pub gate_added : GateSolver → List LiteralSet
gate_added s = rules_of s.additions

abbrev pub gate_bars : GateSolver → List LiteralSet
gate_bars s = bars_of s.additions

abbrev pub gate_meaning : GateSolver → Meaning
gate_meaning s = meaning_from gate_contacts gate_base gate_added gate_bars s

-- the meaning that a making gives: no added rule, no bar
abbrev pub loaded_meaning : ℕ → List Gate → ℕ → Meaning
loaded_meaning n gates output = record { contacts = n; base = network_allows gates output; added = []; bars = [] }

-- an assignment has room for all inputs
pub few_variables : (s : GateSolver) → gate_contacts s ≤ 64
few_variables s = omega (arith, s.circuit.few_inputs)

-- what the search looks for: the output is 1, the added rules are met, and no bar covers
abbrev pub gate_good : GateSolver → List Bool → Bool
gate_good s x = circuit_allows s.circuit x && passes s.additions x

-- what the first added rule says that forces a literal or has failed, then the first such bar as a rule
abbrev pub gate_scan : GateSolver → Assignment → Option Finding
gate_scan s a = scanned_both (gate_contacts s) (gate_added s) (gate_bars s) a

-- two assignments decide otherwise of some variable
abbrev pub differ : Assignment → Assignment → Bool
differ a b = not (a.closed == b.closed && a.opened == b.opened)
