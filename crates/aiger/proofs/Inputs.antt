-- Reading the lines of inputs, one after another.
use Rattle.std.proofs.Common.{◌≡◌, ℕ, suc, ◌+◌, List, Ok, Result, ap, ◌∙◌}
use Rattle.faults.specs.declared.TextFault.{TextFault}
use Rattle.texts.specs.Lexemes.{Lexeme}
use Rattle.texts.specs.Due.{and_then}
use Rattle.aiger.specs.Aag.{due_line, input_lines}

abbrev onward : ℕ → ℕ → Result (Unit {0} × List Lexeme) TextFault → Result (Unit {0} × List Lexeme) TextFault
onward n due r = and_then r (λ a. input_lines n (due + 2) a.1)

pub input_step : (m n due : ℕ) (ts rest : List Lexeme) → m ≡ suc n → due_line due ts ≡ Ok (tt, rest) → input_lines m due ts ≡ input_lines n (due + 2) rest
input_step m n due ts rest h e = ap (λ k. input_lines k due ts) h ∙ ap (onward n due) e
