-- As many gates are read as were asked for.
use Rattle.std.specs.Prelude.{◌≡◌, ℕ, zero, suc, ◌+◌, min, List, [], ◌∷◌, length, Ok, Result}
use Rattle.std.proofs.Common.{sym, ap, ◌∙◌}
use Rattle.faults.specs.declared.TextFault.{TextFault}
use Rattle.texts.specs.Lexemes.{Lexeme}
use Rattle.texts.specs.Due.{ended}
use Rattle.texts.proofs.Dues.{from_ok, first_then}
use Rattle.aiger.specs.declared.Gate.{Gate}
use Rattle.aiger.specs.Aag.{gate_line}
use Rattle.aiger.specs.Reader.{gates_from}

-- as many gates, whatever the first of them defines
pub gates_as_many : (n due b : ℕ) (ts : List Lexeme) (gs : List Gate) → gates_from n due b ts ≡ Ok gs → length gs ≡ n
gates_as_many zero due b ts gs e = let q = first_then (ended b ts) (λ _. Ok []) gs e in ap (λ (r : Result (List Gate) TextFault). length (from_ok [] r)) (sym q.2)
gates_as_many (suc n) due b ts gs e =
    let q = first_then (gate_line due ts) _ gs e in
    let s = first_then (gates_from n (min (due + 2) 65535) q.0.0.1 q.0.1) (λ ss. Ok (q.0.0.0 ∷ ss)) gs q.2 in
    ap (λ (r : Result (List Gate) TextFault). length (from_ok [] r)) (sym s.2) ∙ ap suc (gates_as_many n (min (due + 2) 65535) q.0.0.1 q.0.1 s.0 s.1)
