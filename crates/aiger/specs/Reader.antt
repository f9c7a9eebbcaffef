-- What the readers give, in terms of what a gate text says.
use Rattle.std.specs.Prelude.{◌≡◌, ℕ, zero, suc, ◌+◌, ◌*◌, ◌≤◌, min, List, [], ◌∷◌, Ok, Err, Result}
use Rattle.faults.specs.declared.TextFault.{TextFault}
use Rattle.texts.specs.Lexemes.{Lexeme, ahead}
use Rattle.texts.specs.Due.{and_then, ended}
use Rattle.aiger.specs.declared.Gate.{Gate}
use Rattle.aiger.specs.declared.Gates.{Gates}
use Rattle.aiger.specs.Aag.{Heading, gate_line}

-- what a reader of gates knows of the heading, and has yet to read
abbrev pub headed : Result Gates TextFault → Result (Heading × List Lexeme) TextFault
headed (Ok r) = Ok ((r.inputs, r.count, r.output, r.behind), ahead r.words)
headed (Err e) = Err e

-- at most 32 inputs and 2,048 gates
abbrev pub Small : ℕ × ℕ → Type 0
Small a = (a.0 ≤ 32) × (a.1 ≤ 2048)

-- a reader that stands before its first gate
pub record Ready (r : Gates) : Type 0 where
  pub inputs : r.inputs ≤ 32
  pub count : r.count ≤ 2048
  pub first : r.due ≡ 2 * r.inputs + 2

-- n gates' lines, and then the end; the literal that is due stops at 65,535
abbrev pub gates_from : ℕ → ℕ → ℕ → List Lexeme → Result (List Gate) TextFault
gates_from zero due behind ts = and_then (ended behind ts) (λ _. Ok [])
gates_from (suc n) due behind ts = and_then (gate_line due ts) (λ a. and_then (gates_from n (min (due + 2) 65535) a.0.1 a.1) (λ gs. Ok (a.0.0 ∷ gs)))

-- what a reader of gates gives that reads n of them, and then the end
abbrev pub gates_ahead : ℕ → Gates → Result (List Gate) TextFault
gates_ahead n r = gates_from n r.due r.behind (ahead r.words)

-- a gate that was given, and where the reader stands then
abbrev pub gave : Result Gate TextFault → Gates → Result ((Gate × ℕ) × List Lexeme) TextFault
gave (Ok g) s = Ok ((g, s.behind), ahead s.words)
gave (Err e) s = Err e
