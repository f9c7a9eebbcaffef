-- The least setting that a gate text allows.
use Rattle.std.specs.Prelude.{ℕ, cond, List, ℤ, Ok, Err, Result}
use Rattle.faults.specs.declared.TextFault.{TextFault}
use Rattle.faults.specs.declared.StoreFault.TheVariants.{Text}
use Rattle.faults.specs.declared.SheetFault.{SheetFault}
use Rattle.faults.specs.declared.SheetFault.TheVariants.{Store, WrongContacts}
use Rattle.settings.specs.Least.{least}
use Rattle.aiger.specs.declared.Gate.{Gate}
use Rattle.aiger.specs.Aag.{Aag}
use Rattle.aiger_load.specs.declared.Network.{Network}
use Rattle.aiger_load.specs.Loads.{loaded}
use Rattle.networks.specs.Networks.{network_allows, first_gates}
use Rattle.solver.specs.Count.{suits}
use Rattle.sheets.specs.Sheets.{opened}
use Rattle.sheets.specs.Answers.{least_answer}
use Rattle.clause_texts.specs.Answer.{found}
use Rattle.gates.specs.Gates.{loaded_meaning}

-- what loading refuses is refused first: the text, the number of contacts, the room in the store
abbrev pub once_loaded : Result Network SheetFault → Result (List ℤ) SheetFault → Result (List ℤ) SheetFault
once_loaded (Ok z) answer = answer
once_loaded (Err f) answer = Err f

-- then LEAST over the settings at which the text's output is 1
abbrev pub text_least : ℕ → ℕ → ℕ → Result Aag TextFault → Result (List ℤ) SheetFault
text_least n records size (Err e) = Err (Store (Text e))
text_least n records size (Ok c) = once_loaded (loaded n records (Ok c)) (found size n (least n (network_allows c.gates c.output)))

-- the same of gates that lie in a store: LEAST on a new sheet over them
abbrev pub network_least : ℕ → List Gate → ℕ → ℕ → Result (List ℤ) SheetFault
network_least n gates output size = cond (suits n) (least_answer (opened (loaded_meaning n (first_gates gates) output) 1) size) (Err WrongContacts)
