-- Gate texts by their lines and words: `aag M I 0 1 A`, the inputs, the output, and for each gate the literal that it defines and its two sides.
use Rattle.std.specs.Prelude.{◌≡◌, ℕ, zero, suc, ◌+◌, ◌*◌, ◌<◌, ◌≤◌, List, [], ◌∷◌, ◌++◌, length, Ok, Err, codes, decimal}
use Rattle.faults.specs.declared.TextFault.{TextFault}
use Rattle.texts.specs.Places.{fault_place, Stands}
use Rattle.texts.specs.Lexemes.{Lexeme, lexemes_from}
use Rattle.texts.specs.Lines.{Lines, Ends}
use Rattle.aiger.specs.declared.Gate.{Gate}
use Rattle.aiger.specs.Aag.{Aag, read_aag}

abbrev pub heading_words : ℕ → ℕ → List (List ℕ)
heading_words I A = codes "aag" ∷ decimal (I + A) ∷ decimal I ∷ decimal 0 ∷ decimal 1 ∷ decimal A ∷ []

-- n lines: due, due + 2 and so on
abbrev pub input_words : ℕ → ℕ → List (List (List ℕ))
input_words zero due = []
input_words (suc n) due = (decimal due ∷ []) ∷ input_words n (due + 2)

-- gates that define the literals due, due + 2 and so on
abbrev pub gate_words : ℕ → List Gate → List (List (List ℕ))
gate_words due [] = []
gate_words due (g ∷ gs) = (decimal due ∷ decimal g.left ∷ decimal g.right ∷ []) ∷ gate_words (due + 2) gs

abbrev pub aag_lines : Aag → List (List (List ℕ))
aag_lines c =
    (heading_words c.inputs (length c.gates) ∷ input_words c.inputs 2)
    ++ ((decimal c.output ∷ []) ∷ gate_words (2 * c.inputs + 2) c.gates)

-- the sides of each gate stand below the literal that it defines
abbrev pub Below : ℕ → List Gate → Type 0
Below due [] = Unit {0}
Below due (g ∷ gs) = (g.left < due) × (g.right < due) × Below (due + 2) gs

-- from 1 to 32 inputs, at most 2,048 gates, an output among the literals of all variables
pub record WellFormed (c : Aag) : Type 0 where
  pub some_input : 1 ≤ c.inputs
  pub few_inputs : c.inputs ≤ 32
  pub few_gates : length c.gates ≤ 2048
  pub output_known : c.output ≤ 2 * (c.inputs + length c.gates) + 1
  pub sides_below : Below (2 * c.inputs + 2) c.gates

-- what c says, spelled by a text of at most 60,000 bytes: its lines, word by word, right up to the end of the text
pub record Spelled (text : List ℕ) (c : Aag) : Type 0 where
  pub short : length text ≤ 60000
  pub well_formed : WellFormed c
  pub behind : ℕ
  pub rest : List Lexeme
  pub lines : Lines (aag_lines c) 0 (lexemes_from 0 text) behind rest
  pub ends_behind : Ends behind rest

-- a text reads as c just when it spells c, and the fault of any other that is not too long stands at one of its words, line feeds or its end
pub record ReadsJust (text : List ℕ) : Type 0 where
  pub sound : (c : Aag) → read_aag text ≡ Ok c → Spelled text c
  pub complete : (c : Aag) → Spelled text c → read_aag text ≡ Ok c
  pub refused : (f : TextFault) → length text ≤ 60000 → read_aag text ≡ Err f → Stands (fault_place f) (lexemes_from 0 text)
