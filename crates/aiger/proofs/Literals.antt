-- The literals that gates define.
use Rattle.std.proofs.Common.{◌≡◌, ℕ, zero, suc, ◌+◌, ◌*◌, ◌≤◌, min, List, ◌∷◌, Ok, Err, Result, refl, ap, ◌∙◌, arith}
use Rattle.faults.specs.declared.TextFault.{TextFault}
use Rattle.texts.specs.Lexemes.{Lexeme}
use Rattle.texts.specs.Due.{and_then}
use Rattle.aiger.specs.declared.Gate.{Gate}
use Rattle.aiger.specs.Aag.{gate_line, gate_lines}
use Rattle.aiger.specs.Reader.{gates_from}

-- none is cut off where the last one is at most 65,535
pub no_cut : (n due b : ℕ) (ts : List Lexeme) → due + 2 * n ≤ 65535 → gates_from n due b ts ≡ gate_lines n due b ts
no_cut zero due b ts few = refl
no_cut (suc n) due b ts few = go (gate_line due ts) (λ c us. ap (λ d. gates_from n d c us) {x = min (due + 2) 65535} {y = due + 2} (omega arith) ∙ no_cut n (due + 2) c us (omega arith))
  where
    go : (r : Result ((Gate × ℕ) × List Lexeme) TextFault) → ((c : ℕ) (us : List Lexeme) → gates_from n (min (due + 2) 65535) c us ≡ gate_lines n (due + 2) c us) → and_then r (λ a. and_then (gates_from n (min (due + 2) 65535) a.0.1 a.1) (λ gs. Ok (a.0.0 ∷ gs))) ≡ and_then r (λ a. and_then (gate_lines n (due + 2) a.0.1 a.1) (λ gs. Ok (a.0.0 ∷ gs)))
    go (Ok a) same = ap (λ r. and_then r (λ gs. Ok (a.0.0 ∷ gs))) (same a.0.1 a.1)
    go (Err e) same = refl
