-- Gate texts: a heading `aag M I L O A`, lines of inputs, one output and A gates.
use Rattle.std.specs.Prelude.{ℕ, zero, suc, ◌+◌, ◌-◌, ◌*◌, cond, List, [], ◌∷◌, Ok, Err, codes, Result, ◌==◌}
use Rattle.faults.specs.declared.TextFault.{TextFault}
use Rattle.faults.specs.declared.TextFault.TheVariants.{Shape, Limit}
use Rattle.texts.specs.Lexemes.{Lexeme, word, line_end, end, lexemes_from}
use Rattle.texts.specs.Due.{length_due, and_then, one, limited, number, line_end_due, exactly, ended}
use Rattle.aiger.specs.declared.Gate.{Gate}

-- A, at which M = I + A is judged
abbrev pub count_due : ℕ → ℕ → Lexeme → Result ℕ TextFault
count_due M I (word w p) = and_then (limited 0 2048 w p) (λ n. cond (I + n == M) (Ok n) (Err (Limit p)))
count_due M I (line_end p) = Err (Shape p)
count_due M I (end p) = Err (Shape p)

-- the line `aag M I L O A`: no latches, one output; I and A
abbrev pub heading_line : List Lexeme → Result ((ℕ × ℕ) × List Lexeme) TextFault
heading_line ts =
    and_then (one (exactly (codes "aag")) ts) (λ a.
    and_then (one (number 1 2080) a.1) (λ m.
    and_then (one (number 1 32) m.1) (λ i.
    and_then (one (number 0 0) i.1) (λ l.
    and_then (one (number 1 1) l.1) (λ o.
    and_then (one (count_due m.0 i.0) o.1) (λ n.
    and_then (one line_end_due n.1) (λ f.
    Ok ((i.0, n.0), f.1))))))))

-- a line with one number that is due
abbrev pub due_line : ℕ → List Lexeme → Result (Unit {0} × List Lexeme) TextFault
due_line due ts = and_then (one (number due due) ts) (λ a. and_then (one line_end_due a.1) (λ f. Ok (tt, f.1)))

-- n lines of inputs: due, due + 2 and so on
abbrev pub input_lines : ℕ → ℕ → List Lexeme → Result (Unit {0} × List Lexeme) TextFault
input_lines zero due ts = Ok (tt, ts)
input_lines (suc n) due ts = and_then (due_line due ts) (λ a. input_lines n (due + 2) a.1)

-- I, A, the output and the place behind its line
abbrev pub Heading : Type 0
Heading = ℕ × ℕ × ℕ × ℕ

-- all that stands before the gates; an output is a literal of the I + A variables
abbrev pub heading : List Lexeme → Result (Heading × List Lexeme) TextFault
heading ts =
    and_then (heading_line ts) (λ h.
    and_then (input_lines h.0.0 2 h.1) (λ i.
    and_then (one (number 0 (2 * (h.0.0 + h.0.1) + 1)) i.1) (λ o.
    and_then (one line_end_due o.1) (λ f.
    Ok ((h.0.0, h.0.1, o.0, f.0), f.1)))))

-- the line of a gate: the literal that is due, and two sides below it; and the place behind the line
abbrev pub gate_line : ℕ → List Lexeme → Result ((Gate × ℕ) × List Lexeme) TextFault
gate_line due ts =
    and_then (one (number due due) ts) (λ d.
    and_then (one (number 0 (due - 1)) d.1) (λ a.
    and_then (one (number 0 (due - 1)) a.1) (λ b.
    and_then (one line_end_due b.1) (λ f.
    Ok ((record { left = a.0; right = b.0 }, f.0), f.1)))))

-- n gates' lines, and then the end
abbrev pub gate_lines : ℕ → ℕ → ℕ → List Lexeme → Result (List Gate) TextFault
gate_lines zero due behind ts = and_then (ended behind ts) (λ _. Ok [])
gate_lines (suc n) due behind ts = and_then (gate_line due ts) (λ a. and_then (gate_lines n (due + 2) a.0.1 a.1) (λ gs. Ok (a.0.0 ∷ gs)))

-- what a gate text says
pub record Aag : Type 0 where
  pub inputs : ℕ
  pub output : ℕ
  pub gates : List Gate

abbrev pub aag : List Lexeme → Result Aag TextFault
aag ts =
    and_then (heading ts) (λ h.
    and_then (gate_lines h.0.1 (2 * h.0.0 + 2) h.0.3 h.1) (λ gs.
    Ok (record { inputs = h.0.0; output = h.0.2; gates = gs })))

-- the reading of a gate text
abbrev pub read_aag : List ℕ → Result Aag TextFault
read_aag text = and_then (length_due text) (λ _. aag (lexemes_from 0 text))
