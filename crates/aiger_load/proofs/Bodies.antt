-- The gates of a text stand behind its heading.
use Rattle.std.proofs.Common.{◌≡◌, ℕ, ◌+◌, ◌*◌, List, Ok, Err, Result, sym, refl, ap, ◌∙◌, arith}
use Rattle.faults.specs.declared.TextFault.{TextFault}
use Rattle.stores.specs.Stores.{Room}
use Rattle.texts.specs.Lexemes.{Lexeme, lexemes_from, ahead}
use Rattle.texts.specs.Due.{length_due, and_then}
use Rattle.aiger.specs.declared.Gate.{Gate}
use Rattle.aiger.specs.declared.Gates.{Gates}
use Rattle.aiger.specs.Aag.{Heading, heading, gate_lines, aag, read_aag}
use Rattle.aiger.specs.Reader.{headed, gates_ahead, Ready}
use Rattle.aiger.proofs.Literals.{no_cut}
use Rattle.aiger_load.specs.Loads.{gates}

-- the gates that are read behind a heading
abbrev said : Result (Heading × List Lexeme) TextFault → Result (List Gate) TextFault
said r = and_then r (λ h. gate_lines h.0.1 (2 * h.0.0 + 2) h.0.3 h.1)

through : (r : Result (Heading × List Lexeme) TextFault) → gates (and_then r (λ h. and_then (gate_lines h.0.1 (2 * h.0.0 + 2) h.0.3 h.1) (λ gs. Ok (record { inputs = h.0.0; output = h.0.2; gates = gs })))) ≡ said r
through (Ok h) = go (gate_lines h.0.1 (2 * h.0.0 + 2) h.0.3 h.1)
  where
    go : (r : Result (List Gate) TextFault) → gates (and_then r (λ gs. Ok (record { inputs = h.0.0; output = h.0.2; gates = gs }))) ≡ r
    go (Ok gs) = refl
    go (Err e) = refl
through (Err e) = refl

-- where there is room for them, they are what its reader gives
pub gates_are : (text : List ℕ) (n : ℕ) (r : Gates) → heading (lexemes_from 0 text) ≡ headed (Ok r) → Ready r → Room (gates (read_aag text)) n → gates (read_aag text) ≡ gates_ahead r.count r
gates_are text n r h ready = go (length_due text)
  where
    go : (d : Result (Unit {0}) TextFault) → Room (gates (and_then d (λ _. aag (lexemes_from 0 text)))) n → gates (and_then d (λ _. aag (lexemes_from 0 text))) ≡ gates_ahead r.count r
    go (Ok u) room =
        through (heading (lexemes_from 0 text)) ∙ ap said h
        ∙ ap (λ due. gate_lines r.count due r.behind (ahead r.words)) (sym ready.first)
        ∙ sym (no_cut r.count r.due r.behind (ahead r.words) (omega (arith, ready.first, ready.inputs, ready.count)))
    go (Err e) room = absurd room
